use Rattle.std.proofs.Common.{arith, lit≤}
use Rattle.notation.proofs.numbers.Decimal.parts.Goals as goal
use native.Mathlib.Nat.{one-le-pow}

pub nonzero_div-result : goal.nonzero_div-result
nonzero_div-result c = omega (arith, one-le-pow c.from.result 10 (lit≤ tt), c.in-Some.ensures)

pub nonzero_rem-result : goal.nonzero_rem-result
nonzero_rem-result c = omega (arith, one-le-pow c.from.result 10 (lit≤ tt), c.in-Some.ensures)
