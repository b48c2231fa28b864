-- A list written from another, element by element, half done.
use Rattle.std.proofs.Common.{◌≡◌, ℕ, zero, suc, ◌+◌, ◌<◌, ◌≤◌, List, [], ◌∷◌, ◌++◌, map, length, get_or, take, drop, set, refl, ap, ◌∙◌, ap₂, add-one, arith}
use Rattle.std.proofs.lemmas.List.{take_all, drop_all, append-nil}

module _ {X Y : Type 0} (f : X → Y) (d : X) where
  fill_step : (xs : List X) (ys : List Y) (i : ℕ) → i < length xs → i < length ys → set (map f (take i xs) ++ drop i ys) i (f (get_or xs i d)) ≡ map f (take (suc i) xs) ++ drop (suc i) ys
  fill_step [] ys i h k = absurd (omega arith)
  fill_step (x ∷ xs) [] i h k = absurd (omega arith)
  fill_step (x ∷ xs) (y ∷ ys) zero h k = refl
  fill_step (x ∷ xs) (y ∷ ys) (suc i) h k = ap (λ (zs : List Y). f x ∷ zs) (fill_step xs ys i (omega arith) (omega arith))

  pub fill_more : (xs : List X) (ys zs : List Y) (i : ℕ) → i < length xs → length ys ≡ length xs → zs ≡ map f (take i xs) ++ drop i ys → set zs i (f (get_or xs i d)) ≡ map f (take (i + 1) xs) ++ drop (i + 1) ys
  fill_more xs ys zs i h k e =
      ap (λ (ws : List Y). set ws i (f (get_or xs i d))) e
      ∙ (fill_step xs ys i h (omega arith) ∙ rw add-one refl)

  pub fill_all : (xs : List X) (ys zs : List Y) (i : ℕ) → length xs ≤ i → length ys ≡ length xs → zs ≡ map f (take i xs) ++ drop i ys → zs ≡ map f xs
  fill_all xs ys zs i h k e =
      e ∙ (ap₂ (λ (us : List X) (vs : List Y). map f us ++ vs) (take_all i xs h) (drop_all i ys (omega arith)) ∙ append-nil (map f xs))
