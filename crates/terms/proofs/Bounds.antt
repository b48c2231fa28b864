-- Bounds of products, quotients and parts.
use Rattle.std.proofs.Common.{ℕ, ◌*◌, ◌/◌, ◌≤◌, mul-le-mul, arith}
use native.Mathlib.Nat.{div-le_of_le-mul}

-- a product of two bounded numbers, divided
pub share_in : (a b most_a most_b d most : ℕ) → a ≤ most_a → b ≤ most_b → most_a * most_b ≤ d * most → a * b / d ≤ most
share_in a b most_a most_b d most ha hb h = grind (arith, mul-le-mul, div-le_of_le-mul)
