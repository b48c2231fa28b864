use Rattle.std.proofs.Common.{◌+◌, ap, ◌∙◌}
use Rattle.notation.proofs.Days.{years_counted}
use Rattle.notation.proofs.dates.days_before_year.Goals as goal
use Rattle.notation.specs.Calendar.{total, year_length}

pub returns-clause-value : goal.returns-clause-value
returns-clause-value c = years_counted c.from-years.result ∙ ap (total (λ n. year_length (2000 + n))) c.from-years.ensures
