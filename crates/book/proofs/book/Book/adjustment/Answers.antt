use Rattle.std.proofs.Common.{◌≡◌, ◌∷◌, refl, ◌∙◌, nat_lt, arith, rules}
use Rattle.std.proofs.lemmas.Bool.Decides.{nat_tests}
use Rattle.terms.specs.Refusals.{number_of, answer, first}
use Rattle.terms.specs.Events.{event_refusals}
use Rattle.terms.proofs.Refusals.{first_of_part, first_of_rest}
use Rattle.rows.specs.Adjustment.{taking_refusals}
use Rattle.rows.proofs.Inputs.{event_judged}
use Rattle.book.proofs.book.Book.adjustment.Goals as goal

pub returns-in_err-judge-clause-refusal : goal.returns-in_err-judge-clause-refusal
returns-in_err-judge-clause-refusal g c =
    let t = c.args.self.now.table in
    let e = c.args.event in
    let same : answer c.from_residual.result ≡ number_of c.in_err-judge.field-0.0 = search rules in
    same ∙ first_of_part c.in_err-judge.field-0.0 (event_refusals c.args.day e) ((11, nat_lt c.args.day t.day) ∷ taking_refusals g.F.Family.answers t c.args.day e) c.in_err-judge.ensures

pub returns-then-day-self-clause-refusal : goal.returns-then-day-self-clause-refusal
returns-then-day-self-clause-refusal g c =
    let t = c.args.self.now.table in
    let e = c.args.event in
    let late = (11, nat_lt c.args.day t.day) ∷ taking_refusals g.F.Family.answers t c.args.day e in
    let passed : 11 ≡ first late = grind (arith, nat_tests) in
    passed ∙ first_of_rest (event_refusals c.args.day e) late refl c.in_ok-judge.ensures

-- a judged event is well-formed and within its units
pub invariant_of-take_in : goal.invariant_of-take_in
invariant_of-take_in g c =
    let judged = event_judged c.args.day c.args.event c.in_ok-judge.ensures in
    record {
      inside = judged.0;
      whole = judged.1;
      numbered = omega arith;
    }

pub returns-in_err-taken-clause-refusal : goal.returns-in_err-taken-clause-refusal
returns-in_err-taken-clause-refusal g c =
    let t = c.args.self.now.table in
    let e = c.args.event in
    let r = c.in_err-taken.field-0.0 in
    let late = (11, nat_lt c.args.day t.day) ∷ taking_refusals g.F.Family.answers t c.args.day e in
    let same : answer c.from_residual-in_err-taken.result ≡ number_of r = search rules in
    let taken : number_of r ≡ first (taking_refusals g.F.Family.answers t c.args.day e) = c.in_err-taken.ensures.refusal in
    let found : number_of r ≡ first late = grind (arith, nat_tests) in
    same ∙ (found ∙ first_of_rest (event_refusals c.args.day e) late refl c.in_ok-judge.ensures)
