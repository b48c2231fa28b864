-- A test that all elements pass.
use Rattle.std.proofs.Common.{◌≡◌, ℕ, zero, suc, ◌<◌, Bool, true, false, List, [], ◌∷◌, map, length, get_or, set, All, refl, arith}
use Rattle.std.proofs.lemmas.List.Sums.{AllPass-from_list_all}
use Rattle.std.proofs.lemmas.Bool.{and_parts, and_from, or_parts}
use Rattle.lookup.specs.Seek.{any_of}
use Rattle.sweep.specs.Sweep.{all_of}

module _ {X : Type 0} (p : X → Bool) where
  pub all_each : (xs : List X) → all_of p xs ≡ true → All (λ x. p x ≡ true) xs
  all_each xs h = AllPass-from_list_all p xs h

  pub all_within : (xs : List X) (i : ℕ) (d : X) → i < length xs → all_of p xs ≡ true → p (get_or xs i d) ≡ true
  all_within [] i d h e = absurd (omega arith)
  all_within (x ∷ xs) zero d h e = (and_parts (p x) (all_of p xs) e).0
  all_within (x ∷ xs) (suc i) d h e = all_within xs i d (omega arith) (and_parts (p x) (all_of p xs) e).1

  pub all_at : (xs : List X) (i : ℕ) (d : X) → p d ≡ true → all_of p xs ≡ true → p (get_or xs i d) ≡ true
  all_at [] i d h e = h
  all_at (x ∷ xs) zero d h e = (and_parts (p x) (all_of p xs) e).0
  all_at (x ∷ xs) (suc i) d h e = all_at xs i d h (and_parts (p x) (all_of p xs) e).1

  pub all_set : (xs : List X) (i : ℕ) (y : X) → p y ≡ true → all_of p xs ≡ true → all_of p (set xs i y) ≡ true
  all_set [] i y h e = refl
  all_set (x ∷ xs) zero y h e = and_from (p y) (all_of p xs) h (and_parts (p x) (all_of p xs) e).1
  all_set (x ∷ xs) (suc i) y h e =
      and_from (p x) (all_of p (set xs i y)) (and_parts (p x) (all_of p xs) e).0
      (all_set xs i y h (and_parts (p x) (all_of p xs) e).1)

  pub all_from : (q : X → Bool) → ((x : X) → p x ≡ true → q x ≡ true) → (xs : List X) → all_of p xs ≡ true → all_of q xs ≡ true
  all_from q f [] e = refl
  all_from q f (x ∷ xs) e =
      let u = and_parts (p x) (all_of p xs) e in and_from (q x) (all_of q xs) (f x u.0) (all_from q f xs u.1)

-- what passes one test and fails another passes a third once it is changed
pub all_map :
    {X Y : Type 0} (p : X → Bool) (bad : X → Bool) (f : X → Y) (q : Y → Bool) →
    ((x : X) → p x ≡ true → bad x ≡ false → q (f x) ≡ true) →
    (xs : List X) →
    all_of p xs ≡ true →
    any_of bad xs ≡ false →
    all_of q (map f xs) ≡ true
all_map p bad f q h [] e n = refl
all_map p bad f q h (x ∷ xs) e n =
    let u = and_parts (p x) (all_of p xs) e in
    let v = or_parts (bad x) (any_of bad xs) n in
    and_from (q (f x)) (all_of q (map f xs)) (h x u.0 v.0) (all_map p bad f q h xs u.1 v.1)
