-- What an accepted call tells of its list of refusals.
use Rattle.std.proofs.Common.{◌≡◌, ℕ, ◌<◌, ◌≤◌, Bool, true, false, List, [], ◌∷◌, ◌++◌, refl, nat_le, nat_lt, arith}
use Rattle.std.specs.List.{list_all}
use Rattle.std.proofs.lemmas.Bool.{and_parts}
use Rattle.std.proofs.lemmas.Bool.Decides.{nat_tests}
use Rattle.terms.specs.Refusals.{number_of, first, rise_from, fits, Smallest}
use Rattle.terms.specs.declared.refusal.Refusal.{Refusal}

-- where no number was given, the first condition did not hold, and none after it
pub passed : (n : ℕ) (b : Bool) (xs : List (ℕ × Bool)) → 1 ≤ n → first ((n, b) ∷ xs) ≡ 0 → (b ≡ false) × (first xs ≡ 0)
passed n b xs h e = grind (arith, nat_tests)

numbered : (e : Refusal) → 1 ≤ number_of e
numbered e = grind (arith, nat_tests)

-- a number that the first part of a list gives is the number of the list
pub first_of_part : (e : Refusal) (xs ys : List (ℕ × Bool)) → number_of e ≡ first xs → number_of e ≡ first (xs ++ ys)
first_of_part e [] ys h = absurd (omega (arith, numbered e))
first_of_part e ((n, true) ∷ xs) ys h = h
first_of_part e ((n, false) ∷ xs) ys h = first_of_part e xs ys h

-- where the first part gives none, the rest does
pub first_of_rest : (xs ys : List (ℕ × Bool)) → list_all (λ x. nat_le 1 x.0) xs ≡ true → 0 ≡ first xs → first ys ≡ first (xs ++ ys)
first_of_rest [] ys p h = refl
first_of_rest ((n, true) ∷ xs) ys p h = grind (arith, nat_tests)
first_of_rest ((n, false) ∷ xs) ys p h = first_of_rest xs ys (and_parts (nat_le 1 n) (list_all (λ x. nat_le 1 x.0) xs) p).1 h

-- what fits is above the numbers before it
above : (k : ℕ) (xs : List (ℕ × Bool)) → rise_from k xs ≡ true → (m : ℕ) → fits m xs ≡ true → k < m
above k [] r m h = absurd (grind (arith, nat_tests))
above k ((n, b) ∷ xs) r m h =
    let rest = and_parts (nat_lt k n) (rise_from n xs) r in
    let later = above n xs rest.1 m in
    grind (arith, nat_tests)

-- of a list that rises, the first number that fits is the smallest
first_least : (k : ℕ) (xs : List (ℕ × Bool)) → rise_from k xs ≡ true → (m : ℕ) → fits m xs ≡ true → first xs ≤ m
first_least k [] r m h = absurd (grind (arith, nat_tests))
first_least k ((n, true) ∷ xs) r m h =
    let rest = and_parts (nat_lt k n) (rise_from n xs) r in
    let later = above n xs rest.1 m in
    grind (arith, nat_tests)
first_least k ((n, false) ∷ xs) r m h =
    let rest = and_parts (nat_lt k n) (rise_from n xs) r in
    let later = first_least n xs rest.1 m in
    grind (arith, nat_tests)

first_fits : (xs : List (ℕ × Bool)) → 1 ≤ first xs → fits (first xs) xs ≡ true
first_fits [] h = absurd (omega arith)
first_fits ((n, true) ∷ xs) h = grind (arith, nat_tests)
first_fits ((n, false) ∷ xs) h = let more = first_fits xs h in grind (arith, nat_tests)

first_none : (k : ℕ) (xs : List (ℕ × Bool)) → rise_from k xs ≡ true → first xs ≡ 0 → (m : ℕ) → fits m xs ≡ false
first_none k [] r h m = refl
first_none k ((n, true) ∷ xs) r h m = absurd (grind (arith, nat_tests))
first_none k ((n, false) ∷ xs) r h m =
    let rest = and_parts (nat_lt k n) (rise_from n xs) r in
    let more = first_none n xs rest.1 h m in
    grind (arith, nat_tests)

pub first_smallest : (xs : List (ℕ × Bool)) → rise_from 0 xs ≡ true → Smallest (first xs) xs
first_smallest xs r =
    record {
      none = first_none 0 xs r;
      fitting = first_fits xs;
      least = first_least 0 xs r;
    }
