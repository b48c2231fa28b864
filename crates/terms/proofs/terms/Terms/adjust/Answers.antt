use Rattle.std.proofs.Common.{◌≡◌, ◌≤◌, true, sym, subst, arith}
use Rattle.std.proofs.lemmas.Bool.{le-ltb}
use Rattle.terms.specs.Units.{last_level, largest_number}
use Rattle.terms.specs.Terms.{terms_fit}
use Rattle.terms.specs.Worth.{WorthKept}
use Rattle.terms.specs.declared.adjust.Adjusted.{Adjusted}
use Rattle.terms.proofs.WorthKept.{worth_kept}
use Rattle.terms.proofs.Within.{next_fit}
use Rattle.terms.proofs.terms.Terms.adjust.Goals as goal

pub returns-clause-within : goal.returns-clause-within
returns-clause-within g c =
    let e = c.args.event.now in
    let value = c.after-after.ensures in
    let stock : c.after-after.result.terms.stock ≤ largest_number = omega (arith, c.after-after.type_inv) in
    subst (λ (x : Adjusted). terms_fit x.terms ≡ true) (sym value)
    (next_fit e (sym c.if-is_ill_formed.ensures) (sym c.if-is_outside_units.ensures) g.F.Family.answers g.met.F.Family.keeps c.args.self.now
    (sym c.if-not-is_within_units.ensures)
    (rw value at stock)
    (le-ltb last_level _ (rw value at c.if-after-gt-LAST_LEVEL.false))
    (rw value at (sym c.if-has_misfit_lot.ensures)))

pub returns-clause-worth : goal.returns-clause-worth
returns-clause-worth g c =
    subst (λ (x : Adjusted). WorthKept c.args.event.now c.args.self.now x) (sym c.after-after.ensures)
    (worth_kept g.F.Family.answers g.met.F.Family.keeps c.args.event.now c.args.self.now)
