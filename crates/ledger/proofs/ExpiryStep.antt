-- An accepted expiry keeps what holds.
use Rattle.std.proofs.Common.{◌≡◌, ℕ, cond, eqb, ◌⊎◌, List, map, get_or, set, ℤ, pos, ◌-ℤ◌, ◌*ℤ◌, sym, refl, ap, ◌∙◌, subst, inl, inr, arith}
use Rattle.std.proofs.lemmas.Grind.{common_steps}
use mathlib.Core.Path.{fun_ext}
use Rattle.std.proofs.lemmas.List.{length-set, get_or-set_other}
use Rattle.std.proofs.lemmas.Bool.{cases_eq}
use Rattle.std.proofs.lemmas.Int.{ints}
use Rattle.terms.specs.Refusals.{first}
use Rattle.terms.specs.Family.{Answers}
use Rattle.terms.specs.declared.code.Name.{Name}
use Rattle.terms.specs.declared.code.Series.{Series}
use Rattle.rows.specs.Rows.{lots_in, no_account, place, line_at, account_at}
use Rattle.rows.specs.Names.{series_of}
use Rattle.rows.specs.Expiry.{closed, final_worth, final_value, expiry_gain, expiry_refusals, expiry_table}
use Rattle.rows.specs.declared.table.Line.{Line}
use Rattle.rows.specs.declared.table.Account.{Account}
use Rattle.rows.specs.declared.table.Place.TheVariants.{Free}
use Rattle.rows.specs.declared.table.Table.{Table}
use Rattle.rows.specs.declared.call.Call.TheVariants.{Expiry}
use Rattle.ledger.specs.Ledger.{Ledger, total, is_named, if_so, without, settles, post}
use Rattle.ledger.specs.Agreement.{Agrees, Balanced, if_number, lots_of, view, carry_worth}
use Rattle.ledger.proofs.Ring.{mul_subℤ}
use Rattle.ledger.proofs.Sums.{total_ext, total_none, total_map, perm_from}
use Rattle.ledger.proofs.Found.{Live, accepted, live}
use Rattle.ledger.proofs.Apart.{names_remove, stocks_remove}
use Rattle.ledger.proofs.Without.{perm_without, total_without, view_without}
use Rattle.ledger.proofs.Gains.{Gains, open_gained, row_gained, equity_gained, total_gained, well_gained, by_lots, none_in_all}
use Rattle.ledger.proofs.Views.{not_both}
use Rattle.ledger.proofs.Listed.{nameless_set}
use Rattle.ledger.proofs.Well.{Well, Holds, pick}

-- the default, written anywhere
set_none : {X : Type 0} (xs : List X) (i : ℕ) (d : X) → get_or (set xs i d) i d ≡ d
set_none xs i d = grind (arith, common_steps)

expiry_gains : (j : ℕ) (gain : ℤ) → Gains (closed j gain) (λ r. lots_in j r *ℤ gain)
expiry_gains j gain = grind (arith, ints, common_steps)

module _ (a : Answers) (t : Table) (g : Ledger) (day : ℕ) (name : Name) (price close : ℕ) (h : Holds a t g) (ok : first (expiry_refusals a t day name price close) ≡ 0) where
  abbrev k : Series
  k = series_of a name

  abbrev p : ℕ
  p = place t k

  abbrev l : Line
  l = line_at t p

  abbrev v : ℕ
  v = final_value a t p price close

  abbrev d : ℤ
  d = expiry_gain a t p price close

  abbrev old : List Account
  old = t.accounts

  abbrev new : List Account
  new = map (closed p d) old

  found : Live t k
  found = live t k (accepted (expiry_refusals a t day name price close) 4 refl ok)

  -- a row has no lots in the place any more, and in the others those that it had
  lots_here : (r : Account) → lots_in p (closed p d r) ≡ pos 0
  lots_here r = set_none r.lots p (pos 0)

  lots_there : (j : ℕ) → (j ≡ p → ⊥) → (r : Account) → lots_in j (closed p d r) ≡ lots_in j r
  lots_there j ne r = get_or-set_other r.lots p j (pos 0) (pos 0) ne

  others : (j : ℕ) → (j ≡ p → ⊥) → lots_of new j ≡ lots_of old j
  others j ne = fun_ext (λ n.
      total_map (if_number n (lots_in j)) (closed p d) old
      ∙ total_ext (λ r. if_number n (lots_in j) (closed p d r)) (if_number n (lots_in j))
      (λ r. ap (λ (z : ℤ). cond (eqb r.number n) z (pos 0)) (lots_there j ne r)) old)

  view_is : view (expiry_table a t day name price close) ≡ without k (view t)
  view_is = view_without old new k p l found.named others 0 t.lines p h.well.orderly.names found.taken (omega arith)

  -- an account's lots, at their carry and at the final value of the line
  carry_is : (n : ℕ) → total (if_so (is_named k) (carry_worth n)) g.lines ≡ lots_of old p n *ℤ pos l.carry
  carry_is n = pick t g k h found (carry_worth n)

  final_is : (n : ℕ) → total (settles a k price close n) g.lines ≡ lots_of old p n *ℤ pos v
  final_is n = pick t g k h found (λ e. e.lots n *ℤ pos (final_worth a e.line.terms price close))

  gain_is : (n : ℕ) → total (if_number n (λ r. lots_in p r *ℤ d)) old ≡ total (settles a k price close n) g.lines -ℤ total (if_so (is_named k) (carry_worth n)) g.lines
  gain_is n = cc (by_lots p d old n, mul_subℤ (lots_of old p n) (pos v) (pos l.carry), final_is n, carry_is n)

  expiry_agrees : Agrees (expiry_table a t day name price close) (post a g (Expiry day name price close))
  expiry_agrees =
      record {
        accounts = open_gained (expiry_gains p d) t.count old ∙ h.agrees.accounts;
        lines = perm_from view_is (perm_without k h.agrees.lines);
        equity = λ n.
            let before = h.agrees.equity n in
            let after = equity_gained (expiry_gains p d) old n in
            let gains = gain_is n in
            let worth = total_without (carry_worth n) k g.lines in
            omega (arith, ints);
      }

  row_at : (i : ℕ) → get_or new i no_account ≡ closed p d (account_at t i)
  row_at = row_gained (expiry_gains p d) old

  none_here : (i : ℕ) → lots_in p (get_or new i no_account) ≡ pos 0
  none_here i = ap (lots_in p) (row_at i) ∙ lots_here (account_at t i)

  lots_balanced : (j : ℕ) → (j ≡ p) ⊎ (j ≡ p → ⊥) → total (lots_in j) new ≡ pos 0
  lots_balanced j (inl e) =
      subst (λ (i : ℕ). total (lots_in i) new ≡ pos 0) (sym e) (total_none (lots_in p) no_account new (λ i _. none_here i))
  lots_balanced j (inr ne) =
      total_map (lots_in j) (closed p d) old
      ∙ (total_ext (λ r. lots_in j (closed p d r)) (lots_in j) (lots_there j ne) old ∙ h.balanced.lots j)

  expiry_balanced : Balanced (expiry_table a t day name price close)
  expiry_balanced =
      record {
        lots = λ j. lots_balanced j (cases_eq j p);
        equity = total_gained (expiry_gains p d) old (none_in_all p d old (h.balanced.lots p)) ∙ h.balanced.equity;
      }

  free_at : (j : ℕ) → (j ≡ p) ⊎ (j ≡ p → ⊥) → get_or (set t.lines p Free) j Free ≡ Free → (i : ℕ) → lots_in j (get_or new i no_account) ≡ pos 0
  free_at j (inl q) e i = subst (λ (m : ℕ). lots_in m (get_or new i no_account) ≡ pos 0) (sym q) (none_here i)
  free_at j (inr ne) e i = cc (row_at i, lots_there j ne (account_at t i), h.well.orderly.free j (sym (get_or-set_other t.lines p j Free Free ne) ∙ e) i)

  expiry_well : Well a (expiry_table a t day name price close)
  expiry_well =
      well_gained (expiry_gains p d) t h.well (set t.lines p Free) day (length-set t.lines p Free ∙ h.well.lines)
      (nameless_set a t.lines p Free (λ m q e. not_both m q) h.well.nameless)
      (record {
        names = names_remove t.lines p h.well.orderly.names;
        stocks = stocks_remove t.lines p h.well.orderly.stocks;
        free = λ j. free_at j (cases_eq j p);
      })

  pub expiry_holds : Holds a (expiry_table a t day name price close) (post a g (Expiry day name price close))
  expiry_holds = record { well = expiry_well; balanced = expiry_balanced; agrees = expiry_agrees }
