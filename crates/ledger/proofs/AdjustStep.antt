-- An accepted adjustment keeps what holds.
use Rattle.std.proofs.Common.{◌≡◌, ℕ, Bool, true, eqb, List, map, ℤ, pos, refl, ap, ◌∙◌, arith}
use mathlib.Core.Path.{fun_ext}
use Rattle.std.proofs.lemmas.List.{length-map}
use Rattle.std.proofs.lemmas.Int.{ints}
use Rattle.terms.specs.Refusals.{first}
use Rattle.terms.specs.Family.{Answers}
use Rattle.terms.specs.Adjust.{takes_in}
use Rattle.terms.specs.declared.event.Event.{Event}
use Rattle.rows.specs.Rows.{lots_in}
use Rattle.rows.specs.Adjustment.{adjusted_line, place_adjusted, credit, credited, entries, adjustment_refusals, adjustment_table}
use Rattle.rows.specs.declared.table.Line.{Line}
use Rattle.rows.specs.declared.table.Account.{Account}
use Rattle.rows.specs.declared.table.Table.{Table}
use Rattle.rows.specs.declared.call.Call.TheVariants.{Adjustment}
use Rattle.ledger.specs.Ledger.{Ledger, total, where_so, is_taken_in, adjusts, booked, post}
use Rattle.ledger.specs.Agreement.{Agrees, Balanced, if_number, lots_of, view}
use Rattle.ledger.proofs.Ring.{first_alone}
use Rattle.ledger.proofs.Sums.{total_map, total_perm, perm_map, perm_from}
use Rattle.ledger.proofs.Found.{accepted}
use Rattle.ledger.proofs.Views.{view_ext}
use Rattle.ledger.proofs.Mapped.{view_where, worth_where, free_before_map}
use Rattle.ledger.proofs.Listed.{nameless_map}
use Rattle.ledger.proofs.Well.{Well, Holds}
use Rattle.ledger.proofs.Gains.{Gains, open_gained, row_gained, equity_gained, total_gained, well_gained}
use Rattle.ledger.proofs.Credits.{spread_none, credit_is, credits_are, spread_booked}
use Rattle.ledger.proofs.Renamed.{adjusts_places, unnamed_stays, names_adjusted, stocks_adjusted}

credit_gains : (ds : List ℕ) → Gains (credited ds) (λ r. credit r.lots ds)
credit_gains ds =
    record {
      number = λ r. refl;
      equity = λ r. refl;
      lots = λ r. refl;
      unheld = λ r e.
          ap (λ (z : ℤ). record { number = r.number; equity = z; lots = r.lots })
          (first_alone r.equity (credit r.lots ds) r.equity refl
          (credit_is r.lots ds ∙ spread_none (λ j. lots_in j r) e 0 ds));
    }

module _ (a : Answers) (t : Table) (g : Ledger) (day : ℕ) (event : Event) (h : Holds a t g) (ok : first (adjustment_refusals a t day event) ≡ 0) where
  abbrev taken : Line → Bool
  taken l = takes_in day event l.terms

  abbrev ds : List ℕ
  ds = entries a t day event

  abbrev old : List Account
  old = t.accounts

  abbrev new : List Account
  new = map (credited ds) old

  lots_same : (j : ℕ) → lots_of new j ≡ lots_of old j
  lots_same j = fun_ext (λ n. total_map (if_number n (lots_in j)) (credited ds) old)

  view_is : view (adjustment_table a t day event) ≡ where_so (is_taken_in day event) (adjusts a day event) (view t)
  view_is =
      view_ext old new lots_same 0 (map (place_adjusted a day event) t.lines)
      ∙ view_where taken (adjusted_line a day event) (adjusts_places a day event) old 0 t.lines

  -- the rows' credits, by number and all together
  credit_sum : (n : ℕ) → total (if_number n (λ r. credit r.lots ds)) old ≡ total (booked a day event n) g.lines
  credit_sum n = cc (credits_are (λ r. eqb r.number n) old ds, spread_booked a day event old n 0 t.lines, total_perm (booked a day event n) h.agrees.lines)

  none_credited : total (λ r. credit r.lots ds) old ≡ pos 0
  none_credited = credits_are (λ r. true) old ds ∙ spread_none (λ j. total (lots_in j) old) h.balanced.lots 0 ds

  adjustment_agrees : Agrees (adjustment_table a t day event) (post a g (Adjustment day event))
  adjustment_agrees =
      record {
        accounts = open_gained (credit_gains ds) t.count old ∙ h.agrees.accounts;
        lines = perm_from view_is (perm_map _ h.agrees.lines);
        equity = λ n.
            let before = h.agrees.equity n in
            let after = equity_gained (credit_gains ds) old n in
            let credits = credit_sum n in
            let worth = worth_where taken (adjusted_line a day event) n (λ l. refl) g.lines in
            omega (arith, ints);
      }

  adjustment_balanced : Balanced (adjustment_table a t day event)
  adjustment_balanced =
      record {
        lots = λ j. total_map (lots_in j) (credited ds) old ∙ h.balanced.lots j;
        equity = total_gained (credit_gains ds) old none_credited ∙ h.balanced.equity;
      }

  adjustment_well : Well a (adjustment_table a t day event)
  adjustment_well =
      let places_same = length-map t.lines (place_adjusted a day event) in
      well_gained (credit_gains ds) t h.well (map (place_adjusted a day event) t.lines) day (places_same ∙ h.well.lines)
      (nameless_map (adjusts_places a day event) (unnamed_stays a day event) a t.lines h.well.nameless)
      (record {
        names =
            names_adjusted a day event t.lines h.well.orderly.stocks h.well.orderly.names
            (accepted (adjustment_refusals a t day event) 6 refl ok);
        stocks =
            stocks_adjusted a day event t.lines h.well.orderly.stocks
            (accepted (adjustment_refusals a t day event) 7 refl ok);
        free = λ j e i. cc (row_gained (credit_gains ds) old i, h.well.orderly.free j (free_before_map (adjusts_places a day event) t.lines j e) i);
      })

  pub adjustment_holds : Holds a (adjustment_table a t day event) (post a g (Adjustment day event))
  adjustment_holds = record { well = adjustment_well; balanced = adjustment_balanced; agrees = adjustment_agrees }
