-- A test of all elements of a list.
use Rattle.std.specs.Prelude.{ℕ, Bool, List}
use Rattle.std.specs.List.{list_all, count_by}

-- Whether the test passes everywhere.
abbrev pub all_of : {X : Type 0} → (X → Bool) → List X → Bool
all_of p xs = list_all p xs

-- How many elements pass the test.
abbrev pub how_many : {X : Type 0} → (X → Bool) → List X → ℕ
how_many p xs = count_by p xs
