-- The first place of a list where a test passes.
use Rattle.std.specs.Prelude.{◌≡◌, ℕ, ◌<◌, Bool, true, false, List, length, Some, None, Option, position, slice_index_or}
use Rattle.std.specs.List.{list_any, position_or_len}

-- The first place where the test passes, or the length where there is none.
abbrev pub seek : {X : Type 0} → (X → Bool) → List X → ℕ
seek p xs = position_or_len p xs

-- That place, where there is one.
abbrev pub sought : {X : Type 0} → (X → Bool) → List X → Option ℕ
sought p xs = position p xs

-- Whether the test passes anywhere.
abbrev pub any_of : {X : Type 0} → (X → Bool) → List X → Bool
any_of p xs = list_any p xs

-- The test passes at place i, and at no place before it.
pub record FirstAt {X : Type 0} (p : X → Bool) (xs : List X) (i : ℕ) : Type 0 where
  pub within : i < length xs
  pub passes : (d : X) → p (slice_index_or xs i d) ≡ true
  pub before : (k : ℕ) (d : X) → k < i → p (slice_index_or xs k d) ≡ false

-- What an answer says: the first place where the test passes, or that it passes at no place.
abbrev pub First : {X : Type 0} → (X → Bool) → List X → Option ℕ → Type 0
First p xs (Some i) = FirstAt p xs i
First {X} p xs None = (k : ℕ) (d : X) → k < length xs → p (slice_index_or xs k d) ≡ false
