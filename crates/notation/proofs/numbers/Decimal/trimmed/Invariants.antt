use Rattle.notation.proofs.numbers.Decimal.trimmed.Given as goal
use Rattle.notation.specs.Decimal.{trim}
use Rattle.std.proofs.Common.{◌≡◌}

abbrev pub invariant-loop-self : goal.invariant-loop-self
invariant-loop-self l = trim l.self.value l.self.places ≡ trim l.initial.self.value l.initial.self.places

abbrev pub decreases-loop-self : goal.decreases-loop-self
decreases-loop-self l = l.self.places
