-- What an accepted call tells: no condition of its refusals holds, and what it asks for is found.
use Rattle.std.proofs.Common.{◌≡◌, ℕ, zero, suc, ◌<◌, ◌≤◌, Bool, true, false, not, leb, List, [], ◌∷◌, length, get_or, Some, None, Option, sym, refl, arith}
use Rattle.std.proofs.lemmas.Bool.{and_parts, not-false, both_ways, leb-true, eqb-true}
use Rattle.lookup.specs.Seek.{sought, any_of, FirstAt}
use Rattle.lookup.proofs.Seek.{sought_first, seek_out, none_sought}
use Rattle.terms.specs.Units.{largest_number, is_number}
use Rattle.terms.specs.Refusals.{first}
use Rattle.terms.specs.declared.code.Series.{Series}
use Rattle.terms.proofs.Refusals.{passed}
use Rattle.terms.specs.Tests.{between_parts}
use Rattle.sweep.specs.Sweep.{all_of}
use Rattle.rows.specs.Rows.{places, rows, holds, numbered, no_account, line_or, line_at, account_at, found_line, found_free, found_account, missing, index_or, place, free_place, row}
use Rattle.rows.specs.declared.table.Place.{Place}
use Rattle.rows.specs.declared.table.Place.TheVariants.{Free, Taken}
use Rattle.rows.specs.declared.table.Table.{Table}
use Rattle.ledger.proofs.SameSeries.{series_is}

-- every number of a list of refusals is above 0
abbrev pub counted : List (ℕ × Bool) → Bool
counted rs = all_of (λ r. leb 1 r.0) rs

-- where no number was given, no condition holds
pub accepted : (rs : List (ℕ × Bool)) (i : ℕ) → counted rs ≡ true → first rs ≡ 0 → (get_or rs i (0, false)).1 ≡ false
accepted [] i c e = refl
accepted (r ∷ rs) zero c e = (passed r.0 r.1 rs (leb-true 1 r.0 (and_parts (leb 1 r.0) (counted rs) c).0) e).0
accepted (r ∷ rs) (suc i) c e =
    let q = and_parts (leb 1 r.0) (counted rs) c in
    accepted rs i q.1 (passed r.0 r.1 rs (leb-true 1 r.0 q.0) e).1

-- a number that is not refused is above 0
pub at_least_one : (n : ℕ) → not (is_number n) ≡ false → 1 ≤ n
at_least_one n h = (between_parts 1 largest_number n (not-false (is_number n) h)).0

-- what is not missing is at its index, and what is missing is nowhere
module _ {X : Type 0} (p : X → Bool) (xs : List X) where
  at_index : (last : ℕ) (r : Option ℕ) → r ≡ sought p xs → missing r ≡ false → FirstAt p xs (index_or last r)
  at_index last (Some i) e m = sought_first p xs (Some i) e
  at_index last None e m = absurd (both_ways true m refl)

  pub found : (last : ℕ) → missing (sought p xs) ≡ false → FirstAt p xs (index_or last (sought p xs))
  found last m = at_index last (sought p xs) refl m

  none_missing : (r : Option ℕ) → missing r ≡ true → r ≡ None
  none_missing r m = grind arith

  pub nowhere : missing (sought p xs) ≡ true → any_of p xs ≡ false
  nowhere m = seek_out p xs (none_sought p xs (sym (none_missing (sought p xs) m)))

-- the line of a name, a free place and the account of a number
taken_by : (k : Series) (x : Place) → holds (Some k) x ≡ true → (x ≡ Taken (line_or x)) × ((line_or x).terms.series ≡ k)
taken_by k x h = grind (arith, series_is)

pub free_by : (x : Place) → holds None x ≡ true → x ≡ Free
free_by x h = grind arith

pub record Live (t : Table) (k : Series) : Type 0 where
  pub within : place t k < length t.lines
  pub taken : get_or t.lines (place t k) Free ≡ Taken (line_at t (place t k))
  pub named : (line_at t (place t k)).terms.series ≡ k

pub live : (t : Table) (k : Series) → missing (found_line t k) ≡ false → Live t k
live t k m =
    let f = found (holds (Some k)) t.lines places m in
    let h = taken_by k (get_or t.lines (place t k) Free) (f.passes Free) in
    record { within = f.within; taken = h.0; named = h.1 }

pub record Vacant (t : Table) : Type 0 where
  pub within : free_place t < length t.lines
  pub free : get_or t.lines (free_place t) Free ≡ Free

pub vacant : (t : Table) → missing (found_free t) ≡ false → Vacant t
vacant t m =
    let f = found (holds None) t.lines places m in
    record { within = f.within; free = free_by (get_or t.lines (free_place t) Free) (f.passes Free) }

pub record Open (t : Table) (n : ℕ) : Type 0 where
  pub within : row t n < length t.accounts
  pub number : (account_at t (row t n)).number ≡ n

pub open_row : (t : Table) (n : ℕ) → missing (found_account t n) ≡ false → Open t n
open_row t n m =
    let f = found (numbered n) t.accounts rows m in
    record { within = f.within; number = eqb-true (account_at t (row t n)).number n (f.passes no_account) }
