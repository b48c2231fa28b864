-- Adjusting the lines of a stock for an event. All lines taken in move together.
use Rattle.std.specs.Prelude.{ℕ, ◌*◌, Bool, false, cond, not, ◌&&◌, ◌||◌, List, [], ◌∷◌, map, ℤ, pos, ◌+ℤ◌, ◌*ℤ◌, Some, ◌==◌, nat_lt}
use Rattle.lookup.specs.Seek.{any_of}
use Rattle.sweep.specs.Sweep.{how_many}
use Rattle.terms.specs.Units.{last_level, most_equity, is_day}
use Rattle.terms.specs.Events.{no_successor, bad_prefix, event_outside, ill_formed, too_late}
use Rattle.terms.specs.Family.{Answers}
use Rattle.terms.specs.Adjust.{takes_in, booked_part, next_level, next_series, next_terms, lot_misfits, claim_in_the_way}
use Rattle.terms.specs.declared.code.Series.{Series}
use Rattle.terms.specs.declared.event.Event.{Event}
use Rattle.rows.specs.Rows.{holds, on_day}
use Rattle.rows.specs.Fits.{past}
use Rattle.rows.specs.Listing.{clashes}
use Rattle.rows.specs.declared.table.Line.{Line}
use Rattle.rows.specs.declared.table.Place.{Place}
use Rattle.rows.specs.declared.table.Place.TheVariants.{Free, Taken}
use Rattle.rows.specs.declared.table.Account.{Account}
use Rattle.rows.specs.declared.table.Table.{Table}

-- what an event on a day finds in a place
module _ (day : ℕ) (e : Event) where
  -- a line that it takes in
  abbrev pub taken_in : Place → Bool
  taken_in Free = false
  taken_in (Taken l) = takes_in day e l.terms

  -- a live line that it does not take in
  abbrev pub left_out : Place → Bool
  left_out Free = false
  left_out (Taken l) = not (takes_in day e l.terms)

  -- a line of the stock that expired before the day
  abbrev pub lapsed : Place → Bool
  lapsed Free = false
  lapsed (Taken l) = l.terms.stock == e.stock && nat_lt l.terms.series.expiry day

  -- a line left out that the new stock and its prefix would contradict
  abbrev pub contradicts : Place → Bool
  contradicts o = left_out o && clashes e.successor.prefix e.successor.stock o

  -- a line left out that bears a name
  abbrev pub bears : Series → Place → Bool
  bears k o = left_out o && holds (Some k) o

  -- a line taken in whose claim is in the way
  abbrev pub claim_stands : Place → Bool
  claim_stands Free = false
  claim_stands (Taken l) = takes_in day e l.terms && claim_in_the_way e l.terms

module _ (a : Answers) (day : ℕ) (e : Event) where
  -- a line taken in whose new name a line left out bears
  abbrev pub meets : List Place → Place → Bool
  meets ls Free = false
  meets ls (Taken l) = takes_in day e l.terms && any_of (bears day e (next_series a e l.terms)) ls

  -- a line taken in whose level would pass the last, and one whose lot would leave its limits
  abbrev pub level_passes : Place → Bool
  level_passes Free = false
  level_passes (Taken l) = takes_in day e l.terms && nat_lt last_level (next_level a e l.terms)

  abbrev pub lot_leaves : Place → Bool
  lot_leaves Free = false
  lot_leaves (Taken l) = takes_in day e l.terms && lot_misfits a (next_terms a e l.terms)

  -- the line afterwards: its carry stays
  abbrev pub adjusted_line : Line → Line
  adjusted_line l = record { terms = next_terms a e l.terms; carry = l.carry }

  abbrev pub place_adjusted : Place → Place
  place_adjusted Free = Free
  place_adjusted (Taken l) = Taken (cond (takes_in day e l.terms) (adjusted_line l) l)

  -- the dollars booked to each bought lot in a place
  abbrev pub entry : Place → ℕ
  entry Free = 0
  entry (Taken l) = cond (takes_in day e l.terms) (booked_part a e l.terms) 0

-- lots by place, each with the dollars booked for its place, in micros
abbrev pub credit : List ℤ → List ℕ → ℤ
credit [] ds = pos 0
credit (n ∷ ns) [] = pos 0
credit (n ∷ ns) (d ∷ ds) = n *ℤ pos (d * 1000000) +ℤ credit ns ds

-- a row after the dollars of each place are booked
abbrev pub credited : List ℕ → Account → Account
credited ds r = record { number = r.number; equity = r.equity +ℤ credit r.lots ds; lots = r.lots }

abbrev pub credit_past : List ℕ → Account → Bool
credit_past ds r = past most_equity (r.equity +ℤ credit r.lots ds)

abbrev pub entries : Answers → Table → ℕ → Event → List ℕ
entries a t day e = map (entry a day e) t.lines

-- the answer: how many lines it took in
abbrev pub lines_taken_in : Table → ℕ → Event → ℕ
lines_taken_in t day e = how_many (taken_in day e) t.lines

-- once every line may move: the limit that an equity may meet, and what is left
abbrev pub moving_refusals : Answers → Table → ℕ → Event → List (ℕ × Bool)
moving_refusals a t day e = (27, any_of (credit_past (entries a t day e)) t.accounts) ∷ []

abbrev pub moving_table : Answers → Table → ℕ → Event → Table
moving_table a t day e =
    record {
      lines = map (place_adjusted a day e) t.lines;
      accounts = map (credited (entries a t day e)) t.accounts;
      count = t.count;
      day = t.day;
    }

-- once the event is judged: what it finds in the places
abbrev pub taking_refusals : Answers → Table → ℕ → Event → List (ℕ × Bool)
taking_refusals a t day e =
    (12, (lines_taken_in t day e == 0))
    ∷ (13, any_of (meets a day e t.lines) t.lines)
    ∷ (14, not (no_successor e.successor) && any_of (contradicts day e) t.lines)
    ∷ (20, any_of (lapsed day e) t.lines)
    ∷ (21, any_of (level_passes a day e) t.lines)
    ∷ (22, any_of (lot_leaves a day e) t.lines)
    ∷ (23, any_of (claim_stands day e) t.lines)
    ∷ moving_refusals a t day e

abbrev pub adjustment_refusals : Answers → Table → ℕ → Event → List (ℕ × Bool)
adjustment_refusals a t day e =
    (1, bad_prefix e)
    ∷ (2, not (is_day day) || event_outside e)
    ∷ (4, ill_formed e)
    ∷ (6, too_late day e)
    ∷ (11, nat_lt day t.day)
    ∷ taking_refusals a t day e

abbrev pub adjustment_table : Answers → Table → ℕ → Event → Table
adjustment_table a t day e = on_day day (moving_table a t day e)
