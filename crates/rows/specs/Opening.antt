-- Opening an account.
use Rattle.std.specs.Prelude.{ℕ, ◌+◌, Bool, not, ◌||◌, List, [], ◌∷◌, replicate, pos, nat_le, nat_lt, slice_set}
use Rattle.terms.specs.Units.{is_day, is_number}
use Rattle.rows.specs.Rows.{places, rows, found_account, missing}
use Rattle.rows.specs.declared.table.Account.{Account}
use Rattle.rows.specs.declared.table.Table.{Table}

abbrev pub new_account : ℕ → Account
new_account n = record { number = n; equity = pos 0; lots = replicate places (pos 0) }

abbrev pub opening_refusals : Table → ℕ → ℕ → List (ℕ × Bool)
opening_refusals t day n =
    (2, not (is_day day) || not (is_number n))
    ∷ (11, nat_lt day t.day)
    ∷ (17, not (missing (found_account t n)))
    ∷ (18, nat_le rows t.count)
    ∷ []

abbrev pub opening_table : Table → ℕ → ℕ → Table
opening_table t day n =
    record { lines = t.lines; accounts = slice_set t.accounts t.count (new_account n); count = t.count + 1; day = day }
