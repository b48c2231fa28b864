-- The rows of a book: lines in their places, accounts in the order of opening.
use Rattle.std.specs.Prelude.{ℕ, Bool, true, false, ◌&&◌, [], ℤ, pos, Some, None, Option, ◌==◌, slice_index_or}
use Rattle.lookup.specs.Seek.{sought}
use Rattle.terms.specs.Names.{right_number}
use Rattle.terms.specs.declared.right.Right.TheVariants.{Without}
use Rattle.terms.specs.declared.claim.Claim.TheVariants.{Absent}
use Rattle.terms.specs.declared.code.Prefix.{Prefix}
use Rattle.terms.specs.declared.code.Series.{Series}
use Rattle.terms.specs.declared.terms.Terms.{Terms}
use Rattle.rows.specs.declared.table.Line.{Line}
use Rattle.rows.specs.declared.table.Account.{Account}
use Rattle.rows.specs.declared.table.Place.{Place}
use Rattle.rows.specs.declared.table.Place.TheVariants.{Free, Taken}
use Rattle.rows.specs.declared.table.Table.{Table}

abbrev pub places : ℕ
places = 48

abbrev pub rows : ℕ
rows = 64

abbrev pub same_prefix : Prefix → Prefix → Bool
same_prefix a b = a.first == b.first && a.second == b.second

-- two series are one where all their parts are
abbrev pub same_series : Series → Series → Bool
same_series a b =
    (a.expiry == b.expiry)
    && (same_prefix a.prefix b.prefix
    && (a.level == b.level
    && (right_number a.right == right_number b.right
    && a.strike == b.strike)))

-- the key of a place is the name of the line in it, or nothing where it is free; expiry days are
-- compared first
abbrev pub holds : Option Series → Place → Bool
holds None Free = true
holds None (Taken l) = false
holds (Some k) Free = false
holds (Some k) (Taken l) = same_series l.terms.series k

abbrev pub may_hold : Option Series → Place → Bool
may_hold None Free = true
may_hold None (Taken l) = false
may_hold (Some k) Free = false
may_hold (Some k) (Taken l) = l.terms.series.expiry == k.expiry

abbrev pub numbered : ℕ → Account → Bool
numbered n r = r.number == n

-- what stands where there is no row
abbrev pub no_series : Series
no_series = record { prefix = record { first = 0; second = 0 }; level = 0; expiry = 0; right = Without; strike = 0 }

abbrev pub no_terms : Terms
no_terms = record { series = no_series; stock = 0; units = 0; strike_lot = 0; cash = 0; claim = Absent }

abbrev pub no_line : Line
no_line = record { terms = no_terms; carry = 0 }

abbrev pub line_or : Place → Line
line_or Free = no_line
line_or (Taken l) = l

abbrev pub no_account : Account
no_account = record { number = 0; equity = pos 0; lots = [] }

-- the line in a place, the account in a row, and an account's lots in a place
abbrev pub line_at : Table → ℕ → Line
line_at t j = line_or (slice_index_or t.lines j Free)

abbrev pub account_at : Table → ℕ → Account
account_at t i = slice_index_or t.accounts i no_account

abbrev pub lots_in : ℕ → Account → ℤ
lots_in j r = slice_index_or r.lots j (pos 0)

-- where a line of a name, a free place and an account of a number are found
abbrev pub found_line : Table → Series → Option ℕ
found_line t k = sought (holds (Some k)) t.lines

abbrev pub found_free : Table → Option ℕ
found_free t = sought (holds None) t.lines

abbrev pub found_account : Table → ℕ → Option ℕ
found_account t n = sought (numbered n) t.accounts

abbrev pub missing : Option ℕ → Bool
missing None = true
missing (Some i) = false

-- the index, past the last where there is none
abbrev pub index_or : ℕ → Option ℕ → ℕ
index_or last None = last
index_or last (Some i) = i

abbrev pub place : Table → Series → ℕ
place t k = index_or places (found_line t k)

abbrev pub free_place : Table → ℕ
free_place t = index_or places (found_free t)

abbrev pub row : Table → ℕ → ℕ
row t n = index_or rows (found_account t n)

-- the day of an accepted call becomes the book's day
abbrev pub on_day : ℕ → Table → Table
on_day day t = record { lines = t.lines; accounts = t.accounts; count = t.count; day = day }
