use Rattle.std.proofs.Common.{◌≡◌, get_or, set, take, sym, ap, ◌∙◌}
use Rattle.std.proofs.lemmas.List.{take_all, set_past}
use Rattle.rows.specs.Calls.{empty, run, refusal}
use Rattle.rows.specs.declared.call.Call.TheVariants.{Opening}
use Rattle.ledger.specs.Runs.{outcome_number}
use Rattle.ledger.proofs.Main.{run_more, step_is}
use Rattle.ledger.proofs.Kept.{promises}
use Rattle.ledger.proofs.Noting.{number_noted, noted_more}
use Rattle.ledger.proofs.run_noted.Goals.{then-i-given, else-i-given}
use Rattle.ledger.proofs.run_noted.Goals as goal

pub loop-i-preserved : goal.loop-i-preserved
loop-i-preserved g c =
    let a = g.F.Family.answers in
    let calls = c.args.calls.now in
    let i = c.loop-i.i in
    let call = get_or calls i (Opening 0 0) in
    let x = c.err-refusal.result in
    let number = number_noted c.make.result in
    let is : outcome_number x ≡ refusal a (run a empty (take i calls)) call = cc (c.err-refusal.ensures.value, c.make.ensures.refusal, c.loop-i.invariant.0) in
    let set_so : c.if-i-given.given ≡ set c.loop-i.given i x =
    elim c.if-i-given.branch [ then-i-given w ↦ w.given-is | else-i-given w ↦ w.given-is ∙ sym (set_past c.loop-i.given i x w.if-i-given.false) ] in (
      step_is a c.loop-i.book.table c.make.new.self.table _ call _ c.make.ensures.refusal c.make.ensures.after c.loop-i.invariant.0
          ∙ sym (run_more a empty calls i (Opening 0 0) c.loop-i-test.true),
      rw set_so (noted_more a empty calls i (Opening 0 0) c.args.given.now c.loop-i.given x c.loop-i-test.true is c.loop-i.auto.given c.loop-i.invariant.1),
    )

pub returns-clause-kept : goal.returns-clause-kept
returns-clause-kept g c =
    promises g.F.Family.answers g.met.F.Family.keeps c.args.calls.now c.loop-i.book.table
    (c.loop-i.invariant.0 ∙ ap (run g.F.Family.answers empty) (take_all c.loop-i.i c.args.calls.now c.loop-i-test.false))
