-- The expiry of a line.
use Rattle.std.specs.Prelude.{ℕ, Bool, not, ◌||◌, List, [], ◌∷◌, map, ℤ, pos, ◌+ℤ◌, ◌*ℤ◌, nat_lt, slice_set}
use Rattle.lookup.specs.Seek.{any_of}
use Rattle.terms.specs.Units.{is_day, is_price}
use Rattle.terms.specs.Claims.{claim_dollars, unfixed}
use Rattle.terms.specs.Terms.{lot_of}
use Rattle.terms.specs.Family.{Answers}
use Rattle.terms.specs.declared.code.Name.{Name}
use Rattle.terms.specs.declared.terms.Terms.{Terms}
use Rattle.rows.specs.Rows.{found_line, missing, place, line_at, lots_in, on_day}
use Rattle.rows.specs.Names.{malformed, misfit, series_of}
use Rattle.rows.specs.Trade.{change}
use Rattle.rows.specs.Mark.{gains_past}
use Rattle.rows.specs.declared.table.Place.TheVariants.{Free}
use Rattle.rows.specs.declared.table.Account.{Account}
use Rattle.rows.specs.declared.table.Table.{Table}

-- a row after each lot in a place has gained for the last time: it has no lots there any more
abbrev pub closed : ℕ → ℤ → Account → Account
closed j gain r = record { number = r.number; equity = r.equity +ℤ (lots_in j r *ℤ gain); lots = slice_set r.lots j (pos 0) }

-- what a lot is worth at last, with the dollars of its claim at the stock's close
abbrev pub final_worth : Answers → Terms → ℕ → ℕ → ℕ
final_worth a t price close = a.final (lot_of t) price (claim_dollars close t.claim)

abbrev pub final_value : Answers → Table → ℕ → ℕ → ℕ → ℕ
final_value a t j price close = final_worth a (line_at t j).terms price close

abbrev pub expiry_gain : Answers → Table → ℕ → ℕ → ℕ → ℤ
expiry_gain a t j price close = change (line_at t j).carry (final_value a t j price close)

-- by place: a claim that should have been fixed, and the limit that an expiry may meet
abbrev pub closing_refusals : Answers → Table → ℕ → ℕ → ℕ → List (ℕ × Bool)
closing_refusals a t j price close =
    (25, unfixed (line_at t j).terms.series.expiry (line_at t j).terms.claim)
    ∷ (27, any_of (gains_past j (expiry_gain a t j price close)) t.accounts)
    ∷ []

-- the line is gone, and its place free
abbrev pub closing_table : Answers → Table → ℕ → ℕ → ℕ → Table
closing_table a t j price close =
    record {
      lines = slice_set t.lines j Free;
      accounts = map (closed j (expiry_gain a t j price close)) t.accounts;
      count = t.count;
      day = t.day;
    }

abbrev pub expiry_outside : ℕ → Name → ℕ → ℕ → Bool
expiry_outside day n price close =
    not (is_day day) || (not (is_day n.expiry) || (not (is_price price) || not (is_price close)))

abbrev pub expiry_refusals : Answers → Table → ℕ → Name → ℕ → ℕ → List (ℕ × Bool)
expiry_refusals a t day n price close =
    (1, malformed a n)
    ∷ (2, expiry_outside day n price close)
    ∷ (3, misfit a n)
    ∷ (11, nat_lt day t.day)
    ∷ (12, missing (found_line t (series_of a n)))
    ∷ (19, nat_lt day n.expiry)
    ∷ closing_refusals a t (place t (series_of a n)) price close

abbrev pub expiry_table : Answers → Table → ℕ → Name → ℕ → ℕ → Table
expiry_table a t day n price close = on_day day (closing_table a t (place t (series_of a n)) price close)
