-- Sums over lists.
use Rattle.std.proofs.Common.{◌≡◌, ℕ, zero, suc, ◌<◌, Bool, cond, List, [], ◌∷◌, map, length, get_or, set, replicate, ℤ, pos, ◌+ℤ◌, ◌*ℤ◌, sym, refl, ap, ◌∙◌, subst, ap₂, arith}
use lib.IntN.{zero-*ℤ}
use Rattle.std.proofs.lemmas.Int.{ints}
use Rattle.ledger.specs.Ledger.{total}
use Rattle.ledger.specs.Agreement.{Perm, none, keep, swap, join}
use Rattle.ledger.proofs.Ring.{first_alone, second_alone, add_mulℤ}

module _ {X : Type 0} where
  -- of functions with equal values, of a sum and of a multiple
  pub total_ext : (f h : X → ℤ) → ((x : X) → f x ≡ h x) → (xs : List X) → total f xs ≡ total h xs
  total_ext f h e [] = refl
  total_ext f h e (x ∷ xs) = ap₂ (λ (p q : ℤ). p +ℤ q) (e x) (total_ext f h e xs)

  pub total_add : (f h : X → ℤ) (xs : List X) → total (λ x. f x +ℤ h x) xs ≡ total f xs +ℤ total h xs
  total_add f h [] = refl
  total_add f h (x ∷ xs) = let i = total_add f h xs in omega (arith, ints)

  pub total_mul : (f : X → ℤ) (d : ℤ) (xs : List X) → total (λ x. f x *ℤ d) xs ≡ total f xs *ℤ d
  total_mul f d [] = sym (zero-*ℤ d)
  total_mul f d (x ∷ xs) = ap (λ (z : ℤ). f x *ℤ d +ℤ z) (total_mul f d xs) ∙ sym (add_mulℤ (f x) (total f xs) d)

  -- after a write, and of equal elements that count nothing
  pub total_set : (f : X → ℤ) (xs : List X) (i : ℕ) (y d : X) → i < length xs → total f (set xs i y) +ℤ f (get_or xs i d) ≡ total f xs +ℤ f y
  total_set f [] i y d h = absurd (omega arith)
  total_set f (x ∷ xs) zero y d h = omega (arith, ints)
  total_set f (x ∷ xs) (suc i) y d h = let e = total_set f xs i y d (omega arith) in omega (arith, ints)

  pub total_replicate : (f : X → ℤ) (x : X) → f x ≡ pos 0 → (n : ℕ) → total f (replicate n x) ≡ pos 0
  total_replicate f x e zero = refl
  total_replicate f x e (suc n) = ap₂ (λ (p q : ℤ). p +ℤ q) e (total_replicate f x e n)

  -- where no element counts, and where one alone does
  pub total_none : (f : X → ℤ) (d : X) (xs : List X) → ((i : ℕ) → i < length xs → f (get_or xs i d) ≡ pos 0) → total f xs ≡ pos 0
  total_none f d [] h = refl
  total_none f d (x ∷ xs) h =
      second_alone (f x) (total f xs) (pos 0) (h 0 (omega arith)) (total_none f d xs (λ i l. h (suc i) (omega arith)))

  pub total_one : (f : X → ℤ) (d : X) (xs : List X) (i : ℕ) → i < length xs → ((k : ℕ) → k < length xs → (k ≡ i → ⊥) → f (get_or xs k d) ≡ pos 0) → total f xs ≡ f (get_or xs i d)
  total_one f d [] i l h = absurd (omega arith)
  total_one f d (x ∷ xs) zero l h =
      first_alone (f x) (total f xs) (f x) refl (total_none f d xs (λ k m. h (suc k) (omega arith) (λ e. omega arith)))
  total_one f d (x ∷ xs) (suc i) l h =
      second_alone (f x) (total f xs) (f (get_or xs i d)) (h 0 (omega arith) (λ e. omega arith))
      (total_one f d xs i (omega arith) (λ k m n. h (suc k) (omega arith) (λ e. n (omega arith))))

  -- in another order
  pub total_perm : (f : X → ℤ) {xs ys : List X} → Perm xs ys → total f xs ≡ total f ys
  total_perm f none = refl
  total_perm f (keep {x} p) = ap (λ (z : ℤ). f x +ℤ z) (total_perm f p)
  total_perm f (swap {x} {y} {xs}) = let t = total f xs in omega (arith, ints)
  total_perm f (join p q) = total_perm f p ∙ total_perm f q

pub total_map : {X Y : Type 0} (f : Y → ℤ) (h : X → Y) (xs : List X) → total f (map h xs) ≡ total (λ x. f (h x)) xs
total_map f h [] = refl
total_map f h (x ∷ xs) = ap (λ (z : ℤ). f (h x) +ℤ z) (total_map f h xs)

-- where the elements that pass a test are changed
pub total_where : {X : Type 0} (f : X → ℤ) (p : X → Bool) (h : X → X) (gain : X → ℤ) → ((x : X) → f (h x) ≡ f x +ℤ gain x) → (xs : List X) → total f (map (λ x. cond (p x) (h x) x) xs) ≡ total f xs +ℤ total (λ x. cond (p x) (gain x) (pos 0)) xs
total_where f p h gain e [] = refl
total_where f p h gain e (x ∷ xs) =
    let here : f (cond (p x) (h x) x) ≡ f x +ℤ cond (p x) (gain x) (pos 0) = grind (arith, ints, e x) in
    omega (arith, ints, total_where f p h gain e xs)

-- lists in another order
pub perm_map : {X Y : Type 0} (f : X → Y) {xs ys : List X} → Perm xs ys → Perm (map f xs) (map f ys)
perm_map f none = none
perm_map f (keep p) = keep (perm_map f p)
perm_map f swap = swap
perm_map f (join p q) = join (perm_map f p) (perm_map f q)

pub perm_refl : {X : Type 0} (xs : List X) → Perm xs xs
perm_refl [] = none
perm_refl (x ∷ xs) = keep (perm_refl xs)

pub perm_from : {X : Type 0} {xs ys zs : List X} → xs ≡ ys → Perm ys zs → Perm xs zs
perm_from {zs = zs} e p = subst (λ (es : List _). Perm es zs) (sym e) p
