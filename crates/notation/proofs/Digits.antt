-- The numbers that digits write, and whether they fit a u64.
use Rattle.std.proofs.Common.{◌≡◌, ℕ, ◌*◌, ◌^◌, ◌<◌, ◌≤◌, List, length, get_or, None, le-mul_of_pos_right, arith, lit≤, rules}
use Rattle.notation.specs.Decimal.{number, fitted}
use Rattle.std.proofs.lemmas.Str.Parse.{IsNumeralModel, numerals_by_fold, tells_by_index, digits_value_short}
use Rattle.std.proofs.lemmas.Bool.Decides.{nat_tests}
use Rattle.std.specs.Char.{IsAsciiDigit}
use Rattle.std.specs.List.{All}
use native.Mathlib.Nat.{one-le-pow}

own : IsNumeralModel (λ ds. (i : ℕ) → i < length ds → IsAsciiDigit (get_or ds i 0)) (number 0)
own = numerals_by_fold _ tells_by_index number (search rules)

-- k digits write a number below 10^k
pub number_short : (ds : List ℕ) (k : ℕ) → All IsAsciiDigit ds → length ds ≤ k → number 0 ds < 10 ^ k
number_short ds k h short = digits_value_short own ds k (λ i l. h i 0 l) short

pub too_large : (n : ℕ) → 2 ^ 64 ≤ n → None ≡ fitted n
too_large n h = grind (arith, nat_tests)

pub large_from_none : (n : ℕ) → None ≡ fitted n → 2 ^ 64 ≤ n
large_from_none n h = grind (arith, nat_tests)

pub le_scaled : (n k : ℕ) → n ≤ n * 10 ^ k
le_scaled n k = le-mul_of_pos_right n (one-le-pow k 10 (lit≤ tt))
