-- A trade between two accounts.
use Rattle.std.specs.Prelude.{ℕ, Bool, not, ◌||◌, List, [], ◌∷◌, ℤ, pos, ◌+ℤ◌, ◌-ℤ◌, ◌*ℤ◌, neg_ℤ, ◌==◌, nat_lt, slice_set}
use Rattle.terms.specs.Units.{most_lots, most_equity, is_day, is_number, is_price, is_lots}
use Rattle.terms.specs.Terms.{lot_of}
use Rattle.terms.specs.Family.{Answers}
use Rattle.terms.specs.declared.code.Name.{Name}
use Rattle.rows.specs.Rows.{found_line, found_account, missing, place, row, line_at, account_at, lots_in}
use Rattle.rows.specs.Fits.{past}
use Rattle.rows.specs.Names.{malformed, misfit, series_of}
use Rattle.rows.specs.declared.table.Account.{Account}
use Rattle.rows.specs.declared.table.Table.{Table}

abbrev pub change : ℕ → ℕ → ℤ
change from to = pos to -ℤ pos from

-- a row with more lots in a place, or fewer, and a gain
abbrev pub traded : ℕ → ℤ → ℤ → Account → Account
traded j n gain r = record { number = r.number; equity = r.equity +ℤ gain; lots = slice_set r.lots j (lots_in j r +ℤ n) }

abbrev pub trade_value : Answers → Table → Name → ℕ → ℕ
trade_value a t n price = a.trade (lot_of (line_at t (place t (series_of a n))).terms) price

-- the buyer gains n × (carry − trade value), the seller loses as much
abbrev pub buyer_after : Answers → Table → Name → ℕ → ℕ → ℕ → Account
buyer_after a t n buyer price lots =
    traded (place t (series_of a n)) (pos lots)
    (pos lots *ℤ change (trade_value a t n price) (line_at t (place t (series_of a n))).carry)
    (account_at t (row t buyer))

abbrev pub seller_after : Answers → Table → Name → ℕ → ℕ → ℕ → Account
seller_after a t n seller price lots =
    traded (place t (series_of a n)) (neg_ℤ (pos lots))
    (pos lots *ℤ change (line_at t (place t (series_of a n))).carry (trade_value a t n price))
    (account_at t (row t seller))

abbrev pub trade_outside : ℕ → Name → ℕ → ℕ → ℕ → ℕ → Bool
trade_outside day n buyer seller price lots =
    not (is_day day)
    || (not (is_day n.expiry)
    || (not (is_number buyer)
    || (not (is_number seller)
    || (not (is_price price)
    || not (is_lots lots)))))

abbrev pub trade_refusals : Answers → Table → ℕ → Name → ℕ → ℕ → ℕ → ℕ → List (ℕ × Bool)
trade_refusals a t day n buyer seller price lots =
    (1, malformed a n)
    ∷ (2, trade_outside day n buyer seller price lots)
    ∷ (3, misfit a n)
    ∷ (5, (buyer == seller))
    ∷ (11, nat_lt day t.day)
    ∷ (12, missing (found_line t (series_of a n)))
    ∷ (16, missing (found_account t buyer) || missing (found_account t seller))
    ∷ (19, nat_lt n.expiry day)
    ∷ (
      26,
      past most_lots (lots_in (place t (series_of a n)) (buyer_after a t n buyer price lots))
          || past most_lots (lots_in (place t (series_of a n)) (seller_after a t n seller price lots)),
    )
    ∷ (
      27,
      past most_equity (buyer_after a t n buyer price lots).equity
          || past most_equity (seller_after a t n seller price lots).equity,
    )
    ∷ []

abbrev pub trade_table : Answers → Table → ℕ → Name → ℕ → ℕ → ℕ → ℕ → Table
trade_table a t day n buyer seller price lots =
    record {
      lines = t.lines;
      accounts =
          slice_set (slice_set t.accounts (row t buyer) (buyer_after a t n buyer price lots)) (row t seller)
          (seller_after a t n seller price lots);
      count = t.count;
      day = day;
    }
