-- Lots and their price passing between two rows, by places and rows: what a trade does once both are
-- found.
use Rattle.std.specs.Prelude.{ℕ, Bool, ◌||◌, List, [], ◌∷◌, pos, ◌*ℤ◌, neg_ℤ, slice_set}
use Rattle.terms.specs.Units.{most_lots, most_equity}
use Rattle.terms.specs.Terms.{lot_of}
use Rattle.terms.specs.Family.{Answers}
use Rattle.rows.specs.Rows.{line_at, account_at, lots_in}
use Rattle.rows.specs.Fits.{past}
use Rattle.rows.specs.Trade.{change, traded}
use Rattle.rows.specs.declared.table.Account.{Account}
use Rattle.rows.specs.declared.table.Table.{Table}

module _ (a : Answers) (t : Table) (place b s price lots : ℕ) where
  abbrev pub deal_value : ℕ
  deal_value = a.trade (lot_of (line_at t place).terms) price

  abbrev pub bought : Account
  bought = traded place (pos lots) (pos lots *ℤ change deal_value (line_at t place).carry) (account_at t b)

  abbrev pub sold : Account
  sold = traded place (neg_ℤ (pos lots)) (pos lots *ℤ change (line_at t place).carry deal_value) (account_at t s)

  abbrev pub deal_refusals : List (ℕ × Bool)
  deal_refusals =
      (26, past most_lots (lots_in place bought) || past most_lots (lots_in place sold))
      ∷ (27, past most_equity bought.equity || past most_equity sold.equity)
      ∷ []

  abbrev pub deal_table : Table
  deal_table = record { lines = t.lines; accounts = slice_set (slice_set t.accounts b bought) s sold; count = t.count; day = t.day }
