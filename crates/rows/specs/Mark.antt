-- Marking a line to a price.
use Rattle.std.specs.Prelude.{ℕ, Bool, not, ◌||◌, List, [], ◌∷◌, map, ℤ, ◌+ℤ◌, ◌*ℤ◌, nat_lt, slice_set}
use Rattle.lookup.specs.Seek.{any_of}
use Rattle.terms.specs.Units.{most_equity, is_day, is_price}
use Rattle.terms.specs.Terms.{lot_of}
use Rattle.terms.specs.Family.{Answers}
use Rattle.terms.specs.declared.code.Name.{Name}
use Rattle.rows.specs.Rows.{found_line, missing, place, line_at, lots_in}
use Rattle.rows.specs.Fits.{past}
use Rattle.rows.specs.Names.{malformed, misfit, series_of}
use Rattle.rows.specs.Trade.{change}
use Rattle.rows.specs.declared.table.Line.{Line}
use Rattle.rows.specs.declared.table.Place.TheVariants.{Taken}
use Rattle.rows.specs.declared.table.Account.{Account}
use Rattle.rows.specs.declared.table.Table.{Table}

-- a row after each lot in a place has gained
abbrev pub gained : ℕ → ℤ → Account → Account
gained j gain r = record { number = r.number; equity = r.equity +ℤ (lots_in j r *ℤ gain); lots = r.lots }

abbrev pub gains_past : ℕ → ℤ → Account → Bool
gains_past j gain r = past most_equity (r.equity +ℤ (lots_in j r *ℤ gain))

abbrev pub carried : ℕ → Line → Line
carried value l = record { terms = l.terms; carry = value }

abbrev pub mark_value : Answers → Table → Name → ℕ → ℕ
mark_value a t n price = a.mark (lot_of (line_at t (place t (series_of a n))).terms) price

abbrev pub mark_gain : Answers → Table → Name → ℕ → ℤ
mark_gain a t n price = change (line_at t (place t (series_of a n))).carry (mark_value a t n price)

abbrev pub mark_outside : ℕ → Name → ℕ → Bool
mark_outside day n price = not (is_day day) || (not (is_day n.expiry) || not (is_price price))

abbrev pub mark_refusals : Answers → Table → ℕ → Name → ℕ → List (ℕ × Bool)
mark_refusals a t day n price =
    (1, malformed a n)
    ∷ (2, mark_outside day n price)
    ∷ (3, misfit a n)
    ∷ (11, nat_lt day t.day)
    ∷ (12, missing (found_line t (series_of a n)))
    ∷ (19, nat_lt n.expiry day)
    ∷ (27, any_of (gains_past (place t (series_of a n)) (mark_gain a t n price)) t.accounts)
    ∷ []

abbrev pub mark_table : Answers → Table → ℕ → Name → ℕ → Table
mark_table a t day n price =
    record {
      lines =
          slice_set t.lines (place t (series_of a n))
          (Taken (carried (mark_value a t n price) (line_at t (place t (series_of a n)))));
      accounts = map (gained (place t (series_of a n)) (mark_gain a t n price)) t.accounts;
      count = t.count;
      day = day;
    }
