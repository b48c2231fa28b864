-- A name that a call gives, as the book's family reads it.
use Rattle.std.specs.Prelude.{ℕ, Bool, false, not, ◌&&◌, List, [], ◌∷◌, is_some, Some, None, Option, ◌==◌}
use Rattle.terms.specs.Names.{is_prefix}
use Rattle.terms.specs.Family.{Answers}
use Rattle.terms.specs.Reading.{code_level, name_fits, series_named}
use Rattle.terms.specs.declared.code.Code.{Code}
use Rattle.terms.specs.declared.code.Name.{Name}
use Rattle.terms.specs.declared.code.Series.{Series}
use Rattle.rows.specs.Rows.{no_series}

abbrev pub malformed : Answers → Name → Bool
malformed a n = not (is_some (code_level a n.code))

abbrev pub misfit : Answers → Name → Bool
misfit a n = not (name_fits a n)

abbrev pub series_or : Option Series → Series
series_or None = no_series
series_or (Some s) = s

-- the series that a name stands for, where it is neither malformed nor a misfit
abbrev pub series_of : Answers → Name → Series
series_of a n = series_or (series_named a n)

-- what a name is refused for, and the numbers that are given with it
abbrev pub naming_refusals : Answers → Name → Bool → List (ℕ × Bool)
naming_refusals a n outside = (1, malformed a n) ∷ (2, outside) ∷ (3, misfit a n) ∷ []

abbrev pub is_letter : Option ℕ → ℕ → Bool
is_letter None c = false
is_letter (Some standard) c = standard == c

-- a code with the family's standard letter
abbrev pub is_standard : Answers → Code → Bool
is_standard a c = is_prefix c.prefix && is_letter (a.letter 0) c.letter
