-- What stands at an index of a list.
use Rattle.std.proofs.Common.{◌≡◌, ℕ, zero, suc, Bool, false, List, [], ◌∷◌, map, get_or, set, replicate, arith}
use Rattle.std.proofs.lemmas.Bool.{or_parts}
use Rattle.std.proofs.lemmas.Grind.{common_steps}
use Rattle.lookup.specs.Seek.{any_of}

-- after every element was changed
pub map_at : {X Y : Type 0} (f : X → Y) (d : X) (e : Y) → f d ≡ e → (xs : List X) (i : ℕ) → get_or (map f xs) i e ≡ f (get_or xs i d)
map_at f d e h xs i = grind (arith, common_steps)

module _ {X : Type 0} (P : X → Type 0) (d : X) where
  -- after a write: what is written, or what stood there
  pub set_at : (xs : List X) (i : ℕ) (y : X) → P y → (j : ℕ) → P (get_or xs j d) → P (get_or (set xs i y) j d)
  set_at xs i y new j old = grind (arith, common_steps)

  module _ (at_default : P d) where
    -- of equal elements
    pub replicate_at : (x : X) → P x → (n i : ℕ) → P (get_or (replicate n x) i d)
    replicate_at x h n i = grind (arith, common_steps)

    -- where a test passes nowhere
    pub none_at : (p : X → Bool) → ((x : X) → p x ≡ false → P x) → (xs : List X) → any_of p xs ≡ false → (i : ℕ) → P (get_or xs i d)
    none_at p h [] e i = at_default
    none_at p h (x ∷ xs) e zero = h x (or_parts (p x) (any_of p xs) e).0
    none_at p h (x ∷ xs) e (suc i) = none_at p h xs (or_parts (p x) (any_of p xs) e).1 i
