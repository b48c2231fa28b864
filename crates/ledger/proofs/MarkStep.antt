-- An accepted mark keeps what holds.
use Rattle.std.proofs.Common.{◌≡◌, ℕ, List, map, set, ℤ, pos, ◌+ℤ◌, ◌*ℤ◌, sym, refl, ap, ◌∙◌, arith}
use mathlib.Core.Path.{fun_ext}
use Rattle.std.proofs.lemmas.List.{length-set}
use Rattle.std.proofs.lemmas.Int.{ints}
use Rattle.terms.specs.Terms.{lot_of}
use Rattle.terms.specs.Refusals.{first}
use Rattle.terms.specs.Family.{Answers}
use Rattle.terms.specs.declared.code.Name.{Name}
use Rattle.terms.specs.declared.code.Series.{Series}
use Rattle.rows.specs.Rows.{lots_in, place, line_at}
use Rattle.rows.specs.Names.{series_of}
use Rattle.rows.specs.Trade.{change}
use Rattle.rows.specs.Mark.{gained, carried, mark_value, mark_gain, mark_refusals, mark_table}
use Rattle.rows.specs.declared.table.Line.{Line}
use Rattle.rows.specs.declared.table.Account.{Account}
use Rattle.rows.specs.declared.table.Place.TheVariants.{Taken}
use Rattle.rows.specs.declared.table.Table.{Table}
use Rattle.rows.specs.declared.call.Call.TheVariants.{Mark}
use Rattle.ledger.specs.Ledger.{Entry, Ledger, is_named, at_name, marked, post}
use Rattle.ledger.specs.Agreement.{Agrees, Balanced, if_number, lots_of, view, carry_worth}
use Rattle.ledger.proofs.Ring.{mul_subℤ}
use Rattle.ledger.proofs.Sums.{total_map, total_where, perm_map, perm_from}
use Rattle.ledger.proofs.Found.{Live, accepted, live}
use Rattle.ledger.proofs.Views.{view_amend, taken_is}
use Rattle.ledger.proofs.Apart.{names_amend, stocks_amend, free_before}
use Rattle.ledger.proofs.Gains.{Gains, open_gained, row_gained, equity_gained, total_gained, well_gained, by_lots, none_in_all}
use Rattle.ledger.proofs.Listed.{nameless_set}
use Rattle.ledger.proofs.Well.{Well, Holds, pick}

-- lots at another carry
recarried : (n : ℤ) (c v : ℕ) → n *ℤ pos v ≡ n *ℤ pos c +ℤ n *ℤ change c v
recarried n c v = let e = mul_subℤ n (pos v) (pos c) in omega (arith, ints)

mark_gains : (j : ℕ) (gain : ℤ) → Gains (gained j gain) (λ r. lots_in j r *ℤ gain)
mark_gains j gain = grind (arith, ints)

module _ (a : Answers) (t : Table) (g : Ledger) (day : ℕ) (name : Name) (price : ℕ) (h : Holds a t g) (ok : first (mark_refusals a t day name price) ≡ 0) where
  abbrev k : Series
  k = series_of a name

  abbrev p : ℕ
  p = place t k

  abbrev l : Line
  l = line_at t p

  abbrev d : ℤ
  d = mark_gain a t name price

  abbrev old : List Account
  old = t.accounts

  abbrev new : List Account
  new = map (gained p d) old

  abbrev l' : Line
  l' = carried (mark_value a t name price) l

  found : Live t k
  found = live t k (accepted (mark_refusals a t day name price) 4 refl ok)

  lots_same : (j : ℕ) → lots_of new j ≡ lots_of old j
  lots_same j = fun_ext (λ n. total_map (if_number n (lots_in j)) (gained p d) old)

  view_is : view (mark_table a t day name price) ≡ at_name k (marked a price) (view t)
  view_is =
      view_amend old new k (marked a price) p l l' found.named (λ i _. lots_same i)
      (ap (λ (f : ℕ → ℤ). record { line = l'; lots = f }) (sym (lots_same p)))
      0 t.lines p h.well.orderly.names found.taken (omega arith)

  abbrev gain : ℕ → Entry → ℤ
  gain n e = e.lots n *ℤ change e.line.carry (a.mark (lot_of e.line.terms) price)

  mark_agrees : Agrees (mark_table a t day name price) (post a g (Mark day name price))
  mark_agrees =
      record {
        accounts = open_gained (mark_gains p d) t.count old ∙ h.agrees.accounts;
        lines = perm_from view_is (perm_map _ h.agrees.lines);
        equity = λ n.
            let before = h.agrees.equity n in
            let after = equity_gained (mark_gains p d) old n in
            let gains = pick t g k h found (gain n) ∙ sym (by_lots p d old n) in
            let worth =
            total_where (carry_worth n) (is_named k) (marked a price) (gain n)
            (λ e. recarried (e.lots n) e.line.carry (a.mark (lot_of e.line.terms) price)) g.lines in
            omega (arith, ints);
      }

  mark_balanced : Balanced (mark_table a t day name price)
  mark_balanced =
      record {
        lots = λ j. total_map (lots_in j) (gained p d) old ∙ h.balanced.lots j;
        equity = total_gained (mark_gains p d) old (none_in_all p d old (h.balanced.lots p)) ∙ h.balanced.equity;
      }

  mark_well : Well a (mark_table a t day name price)
  mark_well =
      well_gained (mark_gains p d) t h.well (set t.lines p (Taken l')) day (length-set t.lines p (Taken l') ∙ h.well.lines)
      (nameless_set a t.lines p (Taken l') (λ m q e. ap (λ (x : Line). x.terms.series) (sym (taken_is l' m q)) ∙ h.well.nameless e p l found.taken) h.well.nameless)
      (record {
        names = names_amend l l' refl t.lines p found.taken h.well.orderly.names;
        stocks = stocks_amend l l' refl t.lines p found.taken h.well.orderly.stocks;
        free = λ j e i. cc (row_gained (mark_gains p d) old i, h.well.orderly.free j (free_before l' t.lines p j e) i);
      })

  pub mark_holds : Holds a (mark_table a t day name price) (post a g (Mark day name price))
  mark_holds = record { well = mark_well; balanced = mark_balanced; agrees = mark_agrees }
