-- The calls as one: which refusal, the answer, the table afterwards, and runs of calls.
use Rattle.std.specs.Prelude.{ℕ, Bool, cond, List, [], ◌∷◌, replicate, ◌==◌}
use Rattle.terms.specs.Refusals.{first}
use Rattle.terms.specs.Family.{Answers}
use Rattle.rows.specs.Rows.{places, rows}
use Rattle.rows.specs.Opening.{new_account, opening_refusals, opening_table}
use Rattle.rows.specs.Listing.{listing_refusals, listing_table}
use Rattle.rows.specs.Trade.{trade_refusals, trade_table}
use Rattle.rows.specs.Mark.{mark_refusals, mark_table}
use Rattle.rows.specs.Adjustment.{adjustment_refusals, adjustment_table, lines_taken_in}
use Rattle.rows.specs.Fixing.{fixing_refusals, fixing_table}
use Rattle.rows.specs.Expiry.{expiry_refusals, expiry_table}
use Rattle.rows.specs.declared.table.Place.TheVariants.{Free}
use Rattle.rows.specs.declared.table.Table.{Table}
use Rattle.rows.specs.declared.call.Call.{Call}
use Rattle.rows.specs.declared.call.Call.TheVariants.{Opening, Listing, Trade, Mark, Adjustment, Fixing, Expiry}
use Rattle.rows.specs.declared.call.Done.{Done}
use Rattle.rows.specs.declared.call.Done.TheVariants.{Made, TookIn}

-- a book starts empty, at day 0
abbrev pub empty : Table
empty = record { lines = replicate places Free; accounts = replicate rows (new_account 0); count = 0; day = 0 }

abbrev pub refusals : Answers → Table → Call → List (ℕ × Bool)
refusals a t (Opening day account) = opening_refusals t day account
refusals a t (Listing day name stock units price) = listing_refusals a t day name stock units price
refusals a t (Trade day name buyer seller price lots) = trade_refusals a t day name buyer seller price lots
refusals a t (Mark day name price) = mark_refusals a t day name price
refusals a t (Adjustment day event) = adjustment_refusals a t day event
refusals a t (Fixing day stock deadline close) = fixing_refusals t day stock deadline close
refusals a t (Expiry day name price close) = expiry_refusals a t day name price close

-- the number that a call is refused with, 0 where it is accepted
abbrev pub refusal : Answers → Table → Call → ℕ
refusal a t c = first (refusals a t c)

abbrev pub after : Answers → Table → Call → Table
after a t (Opening day account) = opening_table t day account
after a t (Listing day name stock units price) = listing_table a t day name stock units price
after a t (Trade day name buyer seller price lots) = trade_table a t day name buyer seller price lots
after a t (Mark day name price) = mark_table a t day name price
after a t (Adjustment day event) = adjustment_table a t day event
after a t (Fixing day stock deadline close) = fixing_table t day stock deadline close
after a t (Expiry day name price close) = expiry_table a t day name price close

-- what an accepted call answers: only an adjustment says how many lines it took in
abbrev pub done : Table → Call → Done
done t (Opening day account) = Made
done t (Listing day name stock units price) = Made
done t (Trade day name buyer seller price lots) = Made
done t (Mark day name price) = Made
done t (Adjustment day event) = TookIn (lines_taken_in t day event)
done t (Fixing day stock deadline close) = Made
done t (Expiry day name price close) = Made

-- what a call leaves: a refused one changes nothing
abbrev pub settled : ℕ → Table → Table → Table
settled refused changed t = cond (refused == 0) changed t

abbrev pub step : Answers → Table → Call → Table
step a t c = settled (refusal a t c) (after a t c) t

abbrev pub run : Answers → Table → List Call → Table
run a t [] = t
run a t (c ∷ cs) = run a (step a t c) cs
