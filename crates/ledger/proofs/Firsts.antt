-- Where a test passes in a list: in another order, in a front, and at one element only.
use Rattle.std.proofs.Common.{◌≡◌, ℕ, zero, suc, ◌<◌, ◌≤◌, Bool, true, false, not, ◌||◌, List, [], ◌∷◌, map, length, get_or, take, Some, None, Option, sym, refl, ap, ◌∙◌, arith}
use Rattle.std.proofs.lemmas.Bool.{or_parts, both_ways}
use Rattle.std.proofs.lemmas.List.Elements.{All-from_get_or}
use Rattle.std.proofs.lemmas.List.Folds.{list_any_at, list_any_none}
use Rattle.lookup.specs.Seek.{sought, any_of}
use Rattle.rows.specs.Rows.{missing, index_or}
use Rattle.ledger.specs.Agreement.{Perm, none, keep, swap, join, at_found}
use Rattle.ledger.proofs.Found.{found, nowhere}

or_swap : (x y z : Bool) → (x || (y || z)) ≡ (y || (x || z))
or_swap x y z = grind arith

module _ {X : Type 0} (p : X → Bool) where
  -- whether the test passes anywhere does not depend on the order
  pub any_perm : {xs ys : List X} → Perm xs ys → any_of p xs ≡ any_of p ys
  any_perm none = refl
  any_perm (keep {x} q) = ap (λ (b : Bool). p x || b) (any_perm q)
  any_perm (swap {x} {y} {xs}) = or_swap (p x) (p y) (any_of p xs)
  any_perm (join q r) = any_perm q ∙ any_perm r

  -- nor on what stands past a front, where it passes nowhere
  pub any_take : (d : X) (n : ℕ) (xs : List X) → ((i : ℕ) → n ≤ i → i < length xs → p (get_or xs i d) ≡ false) → any_of p xs ≡ any_of p (take n xs)
  any_take d zero xs h = list_any_none p xs (All-from_get_or (λ x. p x ≡ false) xs d (λ i l. h i (omega arith) l))
  any_take d (suc n) [] h = refl
  any_take d (suc n) (x ∷ xs) h = ap (λ (b : Bool). p x || b) (any_take d n xs (λ i c l. h (suc i) (omega arith) (omega arith)))

  -- it passes somewhere where it is found
  pub any_found : (xs : List X) (d : X) → not (missing (sought p xs)) ≡ any_of p xs
  any_found xs d = by (missing (sought p xs)) refl
    where
      by : (b : Bool) → missing (sought p xs) ≡ b → not b ≡ any_of p xs
      by true e = sym (nowhere p xs e)
      by false e = let f = found p xs 0 e in sym (list_any_at p xs (index_or 0 (sought p xs)) d f.within (f.passes d))

  -- every element that passes is e
  abbrev pub Only : X → List X → Type 0
  Only e [] = Unit {0}
  Only e (x ∷ xs) = (p x ≡ true → x ≡ e) × Only e xs

  pub only_none : (e : X) (xs : List X) → any_of p xs ≡ false → Only e xs
  only_none e [] n = tt
  only_none e (x ∷ xs) n =
      let q = or_parts (p x) (any_of p xs) n in
      (λ h. absurd (both_ways (p x) q.0 h), only_none e xs q.1)

  pub only_perm : (e : X) {xs ys : List X} → Perm xs ys → Only e xs → Only e ys
  only_perm e none o = tt
  only_perm e (keep q) o = (o.0, only_perm e q o.1)
  only_perm e swap o = (o.1.0, (o.0, o.1.1))
  only_perm e (join q r) o = only_perm e r (only_perm e q o)

pub any_map : {X Y : Type 0} (p : Y → Bool) (f : X → Y) (xs : List X) → any_of p (map f xs) ≡ any_of (λ x. p (f x)) xs
any_map p f [] = refl
any_map p f (x ∷ xs) = ap (λ (b : Bool). p (f x) || b) (any_map p f xs)

-- what stands at the index that was found, and where none was
pub at_some : {X : Type 0} (f : ℕ → X) (last : ℕ) (r : Option ℕ) → missing r ≡ false → at_found f r ≡ Some (f (index_or last r))
at_some f last r m = grind arith

pub at_none : {X : Type 0} (f : ℕ → X) (r : Option ℕ) → missing r ≡ true → at_found f r ≡ None
at_none f r m = grind arith
