-- Codes and names, as a call gives them and as a line bears them.
use Rattle.std.specs.Prelude.{ℕ, Bool, cond, ◌&&◌, Some, None, Option, ◌==◌}
use Rattle.terms.specs.Units.{between}
use Rattle.terms.specs.declared.right.Right.{Right}
use Rattle.terms.specs.declared.right.Right.TheVariants.{Without, Call, Put}
use Rattle.terms.specs.declared.code.Prefix.{Prefix}

-- a capital, 'A' to 'Z'
abbrev pub is_capital : ℕ → Bool
is_capital byte = between 65 90 byte

abbrev pub is_prefix : Prefix → Bool
is_prefix p = is_capital p.first && is_capital p.second

-- an event that names no prefix has two zero bytes
abbrev pub no_prefix : Prefix → Bool
no_prefix p = p.first == 0 && p.second == 0

abbrev pub right_number : Right → ℕ
right_number Without = 0
right_number Call = 1
right_number Put = 2

-- the right that a number stands for
abbrev pub right_of : ℕ → Option Right
right_of n = cond (n == 0) (Some Without) (cond (n == 1) (Some Call) (cond (n == 2) (Some Put) None))
