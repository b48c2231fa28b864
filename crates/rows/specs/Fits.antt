-- What every call needs of a book to be safe: its numbers are within their limits.
use Rattle.std.specs.Prelude.{ℕ, Bool, true, ◌&&◌, ℤ, nat_le, nat_lt, unsigned_abs}
use Rattle.terms.specs.Units.{largest_value, most_lots, most_equity}
use Rattle.terms.specs.Terms.{terms_fit}
use Rattle.sweep.specs.Sweep.{all_of}
use Rattle.rows.specs.Rows.{lots_in}
use Rattle.rows.specs.declared.table.Place.{Place}
use Rattle.rows.specs.declared.table.Place.TheVariants.{Free, Taken}
use Rattle.rows.specs.declared.table.Account.{Account}

-- past a limit on either side
abbrev pub past : ℕ → ℤ → Bool
past limit z = nat_lt limit (unsigned_abs z)

abbrev pub line_fits : Place → Bool
line_fits Free = true
line_fits (Taken l) = terms_fit l.terms && nat_le l.carry largest_value

abbrev pub few : ℤ → Bool
few z = nat_le (unsigned_abs z) most_lots

abbrev pub row_fits : Account → Bool
row_fits r = nat_le (unsigned_abs r.equity) most_equity && all_of few r.lots

-- what a gain of the lots in a place needs of a row
abbrev pub can_gain : ℕ → Account → Bool
can_gain j r = nat_le (unsigned_abs r.equity) most_equity && few (lots_in j r)

-- the dollars that an event books to a lot: no more than its cash pays on the largest lot
abbrev pub largest_entry : ℕ
largest_entry = 20000000

abbrev pub entry_fits : ℕ → Bool
entry_fits dollars = nat_le dollars largest_entry
