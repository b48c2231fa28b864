-- The answers of a list of calls, one after the other.
use Rattle.std.specs.Prelude.{◌≡◌, ℕ, ◌<◌, ◌≤◌, List, [], ◌∷◌, length, Some, None, Option, slice_index, slice_index_or}
use Rattle.terms.specs.Refusals.{number_of}
use Rattle.terms.specs.Family.{Answers}
use Rattle.terms.specs.declared.refusal.Refusal.{Refusal}
use Rattle.rows.specs.Calls.{refusal, step}
use Rattle.rows.specs.declared.table.Table.{Table}
use Rattle.rows.specs.declared.call.Call.{Call}

-- the number of a call's refusal, 0 where it was accepted
abbrev pub outcome_number : Option Refusal → ℕ
outcome_number None = 0
outcome_number (Some r) = number_of r

-- answers noted one by one in a list: as many as there are numbers, and what lies beyond stays
pub record Noted (ns : List ℕ) (before later : List (Option Refusal)) : Type 0 where
  pub at : (i : ℕ) → i < length ns → i < length before → outcome_number (slice_index_or later i None) ≡ slice_index ns i
  pub beyond : (i : ℕ) → length ns ≤ i → slice_index_or later i None ≡ slice_index_or before i None

-- each call is refused just where the rules' lists say so, with the smallest number
abbrev pub numbers_given : Answers → Table → List Call → List ℕ
numbers_given a t [] = []
numbers_given a t (c ∷ cs) = refusal a t c ∷ numbers_given a (step a t c) cs
