use Rattle.std.proofs.Common.{arith}
use Rattle.rows.proofs.Claimed.{dollars_in}
use Rattle.moves.proofs.lines.dollars_of.Goals as goal

pub overflow_cast-result : goal.overflow_cast-result
overflow_cast-result c = omega (arith, c.dollars_at.ensures, dollars_in c.args.close c.args.claim.now c.requires.0 c.requires.1)
