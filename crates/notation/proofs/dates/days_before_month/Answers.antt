use Rattle.notation.proofs.Days.{months_listed, months_short}
use Rattle.notation.proofs.dates.days_before_month.Goals as goal
use Rattle.notation.specs.Calendar.{month_length, days_before_month}
use Rattle.std.proofs.Common.{◌≡◌, ◌-◌, refl, ◌∙◌, rules, tests, arith}
use Rattle.std.proofs.lemmas.Iterator.{YieldsList-from_range, YieldsList-from_map}
use Rattle.std.proofs.lemmas.Iterator.Consumers.{sum_from_yields_List, fits_from_yields_list}

pub sum-requires-clause-fits : goal.sum-requires-clause-fits
sum-requires-clause-fits c =
    fits_from_yields_list c.map.result _
    (YieldsList-from_map _ (month_length c.args.year)
    (YieldsList-from_range 1 c.args.month (c.args.month - 1) c.map.ensures.source refl)
    c.map.ensures.closure (λ x r q k. search (rules, tests)))
    (omega (arith, months_listed c.args.year (c.args.month - 1), months_short c.args.year (c.args.month - 1)))

pub returns : goal.returns
returns c =
    let days : c.sum.result ≡ days_before_month c.args.year c.args.month =
    sum_from_yields_List c.map.result c.sum.result c.sum.ensures.ran
    (YieldsList-from_map _ (month_length c.args.year)
    (YieldsList-from_range 1 c.args.month (c.args.month - 1) c.map.ensures.source refl)
    c.map.ensures.closure (λ x r q k. search (rules, tests)))
    ∙ months_listed c.args.year (c.args.month - 1) in
    record { value = days; bound = omega (arith, months_short c.args.year (c.args.month - 1)) }
