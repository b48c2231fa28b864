-- How a family reads a name.
use Rattle.std.specs.Prelude.{ℕ, Bool, false, cond, not, List, [], ◌∷◌, is_some, Some, None, Option}
use Rattle.terms.specs.Units.{is_day}
use Rattle.terms.specs.Names.{is_prefix, right_of}
use Rattle.terms.specs.Family.{Answers}
use Rattle.terms.specs.declared.right.Right.{Right}
use Rattle.terms.specs.declared.code.Code.{Code}
use Rattle.terms.specs.declared.code.Name.{Name}
use Rattle.terms.specs.declared.code.Series.{Series}

-- the level of a code, none where it is malformed
abbrev pub code_level : Answers → Code → Option ℕ
code_level a c = cond (is_prefix c.prefix) (a.level c.letter) None

-- whether a right, where there is one of that number, and a strike fit the family
abbrev pub right_fits : Answers → Option Right → ℕ → Bool
right_fits a None strike = false
right_fits a (Some right) strike = a.fits right strike

abbrev pub name_fits : Answers → Name → Bool
name_fits a n = right_fits a (right_of n.right) n.strike

abbrev pub name_refusals : Answers → Name → List (ℕ × Bool)
name_refusals a n =
    (1, not (is_some (code_level a n.code)))
    ∷ (2, not (is_day n.expiry))
    ∷ (3, not (name_fits a n))
    ∷ []

abbrev pub series_with : Option ℕ → Option Right → Name → Option Series
series_with None right n = None
series_with (Some level) None n = None
series_with (Some level) (Some right) n =
    Some (record { prefix = n.code.prefix; level = level; expiry = n.expiry; right = right; strike = n.strike })

-- the series that a name stands for
abbrev pub series_named : Answers → Name → Option Series
series_named a n = series_with (code_level a n.code) (right_of n.right) n
