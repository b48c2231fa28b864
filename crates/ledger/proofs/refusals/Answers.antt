use Rattle.std.proofs.Common.{arith}
use Rattle.std.proofs.lemmas.Grind.{common_steps}
use Rattle.rows.specs.Calls.{empty}
use Rattle.ledger.proofs.Noting.{as_many, all_noted}
use Rattle.ledger.proofs.refusals.Goals as goal

pub returns : goal.returns
returns g c =
    let many = as_many g.F.Family.answers empty c.args.calls.now in
    grind (arith, common_steps, all_noted _ _ _ (omega (arith, many, c.in_ok-given.ensures.len)) c.run_noted.auto.given c.run_noted.ensures.noted)
