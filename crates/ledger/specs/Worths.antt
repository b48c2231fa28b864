-- Every adjustment that a run accepts keeps the worth of a lot, in each line that it takes in.
use Rattle.std.specs.Prelude.{◌≡◌, ℕ, true, List, [], ◌∷◌, slice_index_or}
use Rattle.terms.specs.Family.{Answers}
use Rattle.terms.specs.Adjust.{takes_in, booked_part}
use Rattle.terms.specs.Worth.{WorthKept}
use Rattle.terms.specs.declared.event.Event.{Event}
use Rattle.rows.specs.Calls.{refusal, after, step}
use Rattle.rows.specs.declared.table.Line.{Line}
use Rattle.rows.specs.declared.table.Place.TheVariants.{Free, Taken}
use Rattle.rows.specs.declared.table.Table.{Table}
use Rattle.rows.specs.declared.call.Call.{Call}
use Rattle.rows.specs.declared.call.Call.TheVariants.{Opening, Listing, Trade, Mark, Adjustment, Fixing, Expiry}

-- a line that was taken in stands in its place after the event, and one lot of it, with what was
-- booked to the buyer, is worth what a lot was worth before
pub record LotKept (a : Answers) (e : Event) (l : Line) (t' : Table) (j : ℕ) : Type 0 where
  pub line : Line
  pub stands : slice_index_or t'.lines j Free ≡ Taken line
  pub worth : WorthKept e l.terms (record { terms = line.terms; booked = booked_part a e l.terms })

-- so it is with all of them
abbrev pub LotsKept : Answers → ℕ → Event → Table → Table → Type 0
LotsKept a day e t t' =
    (j : ℕ) (l : Line) →
    slice_index_or t.lines j Free ≡ Taken l →
    takes_in day e l.terms ≡ true →
    LotKept a e l t' j

-- what one call keeps: only an accepted adjustment changes what a lot stands for
abbrev pub KeptBy : Answers → Table → Call → Type 0
KeptBy a t (Opening day account) = Unit {0}
KeptBy a t (Listing day name stock units price) = Unit {0}
KeptBy a t (Trade day name buyer seller price lots) = Unit {0}
KeptBy a t (Mark day name price) = Unit {0}
KeptBy a t (Adjustment day e) =
    refusal a t (Adjustment day e) ≡ 0 → LotsKept a day e t (after a t (Adjustment day e))
KeptBy a t (Fixing day stock deadline close) = Unit {0}
KeptBy a t (Expiry day name price close) = Unit {0}

-- and every call of a list
abbrev pub WorthsKept : Answers → Table → List Call → Type 0
WorthsKept a t [] = Unit {0}
WorthsKept a t (c ∷ cs) = KeptBy a t c × WorthsKept a (step a t c) cs
