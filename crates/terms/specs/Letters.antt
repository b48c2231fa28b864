-- A family's ten letters, written as one text: the letter of a level, and the level of a letter.
use Rattle.std.specs.Prelude.{ℕ, zero, suc, cond, List, [], ◌∷◌, Some, None, Option, ◌==◌}

-- the letter at a level
abbrev pub letter_in : List ℕ → ℕ → Option ℕ
letter_in [] n = None
letter_in (x ∷ xs) zero = Some x
letter_in (x ∷ xs) (suc n) = letter_in xs n

abbrev pub one_more : Option ℕ → Option ℕ
one_more None = None
one_more (Some n) = Some (suc n)

-- the level of a letter
abbrev pub level_in : List ℕ → ℕ → Option ℕ
level_in [] c = None
level_in (x ∷ xs) c = cond (x == c) (Some 0) (one_more (level_in xs c))
