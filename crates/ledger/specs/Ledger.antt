-- The ledger: a second account of the same history, by names and numbers, with no limits. It knows
-- the family's answers, and is fed each call and whether it was refused.
use Rattle.std.specs.Prelude.{ℕ, ◌*◌, Bool, cond, List, [], ◌∷◌, ◌++◌, map, ℤ, pos, ◌+ℤ◌, ◌-ℤ◌, ◌*ℤ◌, neg_ℤ, ◌==◌}
use Rattle.terms.specs.Terms.{lot_of}
use Rattle.terms.specs.Family.{Answers}
use Rattle.terms.specs.Adjust.{takes_in, booked_part}
use Rattle.terms.specs.declared.code.Series.{Series}
use Rattle.terms.specs.declared.event.Event.{Event}
use Rattle.rows.specs.Rows.{same_series}
use Rattle.rows.specs.Names.{series_of}
use Rattle.rows.specs.Listing.{listed}
use Rattle.rows.specs.Mark.{carried}
use Rattle.rows.specs.Adjustment.{adjusted_line}
use Rattle.rows.specs.Fixing.{fixes, fixed_line}
use Rattle.rows.specs.Expiry.{final_worth}
use Rattle.rows.specs.declared.table.Line.{Line}
use Rattle.rows.specs.declared.call.Call.{Call}
use Rattle.rows.specs.declared.call.Call.TheVariants.{Opening, Listing, Trade, Mark, Adjustment, Fixing, Expiry}

-- a live line, with each account's lots by its number
pub record Entry : Type 0 where
  pub line : Line
  pub lots : ℕ → ℤ

-- the open accounts, each account's history sum, and the live lines
pub record Ledger : Type 0 where
  pub accounts : List ℕ
  pub sums : ℕ → ℤ
  pub lines : List Entry

abbrev pub blank : Ledger
blank = record { accounts = []; sums = λ n. pos 0; lines = [] }

abbrev pub total : {X : Type 0} → (X → ℤ) → List X → ℤ
total f [] = pos 0
total f (x ∷ xs) = f x +ℤ total f xs

abbrev pub is_named : Series → Entry → Bool
is_named k e = same_series e.line.terms.series k

-- the lines that pass a test, changed
abbrev pub where_so : (Entry → Bool) → (Entry → Entry) → List Entry → List Entry
where_so p f es = map (λ e. cond (p e) (f e) e) es

-- the line of a name, changed
abbrev pub at_name : Series → (Entry → Entry) → List Entry → List Entry
at_name k f es = map (λ e. cond (is_named k e) (f e) e) es

-- the lines but for that of a name
abbrev pub without : Series → List Entry → List Entry
without k [] = []
without k (e ∷ es) = cond (is_named k e) (without k es) (e ∷ without k es)

-- an amount for the lines that pass a test, and nothing for the others
abbrev pub if_so : (Entry → Bool) → (Entry → ℤ) → Entry → ℤ
if_so p f e = cond (p e) (f e) (pos 0)

-- an amount to the buyer, and the same from the seller
abbrev pub between : ℕ → ℕ → ℤ → ℕ → ℤ
between buyer seller amount n = cond (buyer == n) amount (cond (seller == n) (neg_ℤ amount) (pos 0))

-- a trade: lots change hands
abbrev pub dealt : ℕ → ℕ → ℕ → Entry → Entry
dealt buyer seller lots e = record { line = e.line; lots = λ n. e.lots n +ℤ between buyer seller (pos lots) n }

-- and the trade value is paid for each, in the line of the name
abbrev pub paid : Answers → Series → ℕ → ℕ → Entry → ℤ
paid a k price lots e = cond (is_named k e) (pos lots *ℤ pos (a.trade (lot_of e.line.terms) price)) (pos 0)

-- a mark: the line is carried at its new mark value
abbrev pub marked : Answers → ℕ → Entry → Entry
marked a price e = record { line = carried (a.mark (lot_of e.line.terms) price) e.line; lots = e.lots }

-- an adjustment: the lines taken in become what the event makes of them
abbrev pub is_taken_in : ℕ → Event → Entry → Bool
is_taken_in day event e = takes_in day event e.line.terms

abbrev pub adjusts : Answers → ℕ → Event → Entry → Entry
adjusts a day event e = record { line = adjusted_line a day event e.line; lots = e.lots }

-- and each account gets its lots × the buyer's part × 1,000,000
abbrev pub booked : Answers → ℕ → Event → ℕ → Entry → ℤ
booked a day event n = if_so (is_taken_in day event) (λ e. e.lots n *ℤ pos (booked_part a event e.line.terms * 1000000))

-- a fixing: the open claims of the stock and deadline become dollars
abbrev pub is_due : ℕ → ℕ → Entry → Bool
is_due stock deadline e = fixes stock deadline e.line.terms

abbrev pub fixed : ℕ → Entry → Entry
fixed close e = record { line = fixed_line close e.line; lots = e.lots }

-- an expiry: each account gets its lots × the final value of the line of the name
abbrev pub settles : Answers → Series → ℕ → ℕ → ℕ → Entry → ℤ
settles a k price close n = if_so (is_named k) (λ e. e.lots n *ℤ pos (final_worth a e.line.terms price close))

-- an accepted call
abbrev pub post : Answers → Ledger → Call → Ledger
post a g (Opening day account) =
    record { accounts = g.accounts ++ (account ∷ []); sums = λ n. cond (n == account) (pos 0) (g.sums n); lines = g.lines }
post a g (Listing day name stock units price) =
    record {
      accounts = g.accounts;
      sums = g.sums;
      lines = (record { line = listed a name stock units price; lots = λ n. pos 0 }) ∷ g.lines;
    }
post a g (Trade day name buyer seller price lots) =
    record {
      accounts = g.accounts;
      sums = λ n. g.sums n -ℤ between buyer seller (total (paid a (series_of a name) price lots) g.lines) n;
      lines = at_name (series_of a name) (dealt buyer seller lots) g.lines;
    }
post a g (Mark day name price) =
    record { accounts = g.accounts; sums = g.sums; lines = at_name (series_of a name) (marked a price) g.lines }
post a g (Adjustment day event) =
    record {
      accounts = g.accounts;
      sums = λ n. g.sums n +ℤ total (booked a day event n) g.lines;
      lines = where_so (is_taken_in day event) (adjusts a day event) g.lines;
    }
post a g (Fixing day stock deadline close) =
    record { accounts = g.accounts; sums = g.sums; lines = where_so (is_due stock deadline) (fixed close) g.lines }
post a g (Expiry day name price close) =
    record {
      accounts = g.accounts;
      sums = λ n. g.sums n +ℤ total (settles a (series_of a name) price close n) g.lines;
      lines = without (series_of a name) g.lines;
    }

-- a list of calls, each with whether it was accepted; a refused call changes nothing
abbrev pub posted : Answers → Ledger → List Call → List Bool → Ledger
posted a g [] accepted = g
posted a g (c ∷ cs) [] = g
posted a g (c ∷ cs) (b ∷ bs) = posted a (cond b (post a g c) g) cs bs
