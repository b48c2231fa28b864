-- The questions, which alter nothing.
use Rattle.std.specs.Prelude.{ℕ, Bool, not, ◌||◌, List, [], ◌∷◌, ℤ}
use Rattle.terms.specs.Units.{is_day, is_number}
use Rattle.terms.specs.Family.{Answers}
use Rattle.terms.specs.declared.code.Name.{Name}
use Rattle.terms.specs.declared.terms.Terms.{Terms}
use Rattle.rows.specs.Rows.{found_line, found_account, missing, place, row, line_at, account_at, lots_in}
use Rattle.rows.specs.Names.{malformed, misfit, series_of}
use Rattle.rows.specs.declared.table.Table.{Table}

abbrev pub terms_refusals : Answers → Table → Name → List (ℕ × Bool)
terms_refusals a t n =
    (1, malformed a n)
    ∷ (2, not (is_day n.expiry))
    ∷ (3, misfit a n)
    ∷ (12, missing (found_line t (series_of a n)))
    ∷ []

abbrev pub terms_answer : Answers → Table → Name → Terms
terms_answer a t n = (line_at t (place t (series_of a n))).terms

abbrev pub lots_refusals : Answers → Table → ℕ → Name → List (ℕ × Bool)
lots_refusals a t account n =
    (1, malformed a n)
    ∷ (2, not (is_day n.expiry) || not (is_number account))
    ∷ (3, misfit a n)
    ∷ (12, missing (found_line t (series_of a n)))
    ∷ (16, missing (found_account t account))
    ∷ []

abbrev pub lots_answer : Answers → Table → ℕ → Name → ℤ
lots_answer a t account n = lots_in (place t (series_of a n)) (account_at t (row t account))

abbrev pub equity_refusals : Table → ℕ → List (ℕ × Bool)
equity_refusals t account = (2, not (is_number account)) ∷ (16, missing (found_account t account)) ∷ []

abbrev pub equity_answer : Table → ℕ → ℤ
equity_answer t account = (account_at t (row t account)).equity
