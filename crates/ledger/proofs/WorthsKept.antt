-- Every adjustment that a run accepts keeps the worth of a lot.
use Rattle.std.proofs.Common.{ℕ, List, [], ◌∷◌}
use Rattle.terms.specs.Family.{Answers, Law}
use Rattle.terms.specs.declared.event.Event.{Event}
use Rattle.terms.proofs.WorthKept.{worth_kept}
use Rattle.rows.specs.Adjustment.{adjusted_line}
use Rattle.rows.specs.Calls.{step, after}
use Rattle.rows.specs.declared.table.Table.{Table}
use Rattle.rows.specs.declared.call.Call.{Call}
use Rattle.rows.specs.declared.call.Call.TheVariants.{Opening, Listing, Trade, Mark, Adjustment, Fixing, Expiry}
use Rattle.ledger.specs.Worths.{LotsKept, KeptBy, WorthsKept}
use Rattle.ledger.proofs.Mapped.{taken_map}
use Rattle.ledger.proofs.Renamed.{adjusts_places}

module _ (a : Answers) (law : Law a) where
  lots_kept : (day : ℕ) (e : Event) (t : Table) → LotsKept a day e t (after a t (Adjustment day e))
  lots_kept day e t j l at taken =
      record {
        line = adjusted_line a day e l;
        stands = cc (taken_map (adjusts_places a day e) t.lines j l at);
        worth = worth_kept a law e l.terms;
      }

  kept_by : (t : Table) (c : Call) → KeptBy a t c
  kept_by t (Opening day account) = tt
  kept_by t (Listing day name stock units price) = tt
  kept_by t (Trade day name buyer seller price lots) = tt
  kept_by t (Mark day name price) = tt
  kept_by t (Adjustment day e) = λ ok. lots_kept day e t
  kept_by t (Fixing day stock deadline close) = tt
  kept_by t (Expiry day name price close) = tt

  pub worths_kept : (t : Table) (cs : List Call) → WorthsKept a t cs
  worths_kept t [] = tt
  worths_kept t (c ∷ cs) = (kept_by t c, worths_kept (step a t c) cs)
