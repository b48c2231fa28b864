-- An accepted opening keeps what holds.
use Rattle.std.proofs.Common.{◌≡◌, ℕ, suc, ◌<◌, ◌≤◌, Bool, true, false, cond, not, eqb, List, [], ◌∷◌, length, get_or, take, set, ℤ, pos, ◌+ℤ◌, sym, refl, ap, ◌∙◌, subst, ap₂, arith}
use lib.IntN.{zero-*ℤ}
use mathlib.Core.Path.{fun_ext}
use Rattle.std.proofs.lemmas.List.{length-set, length-map, get_or-set_other, map-set, map_push, take_more_set}
use Rattle.std.proofs.lemmas.Bool.{or_parts, not-false, leb-false, eqb-true, eqb-false, cond-false}
use Rattle.std.proofs.lemmas.Int.{ints}
use Rattle.lookup.specs.Seek.{any_of}
use Rattle.terms.specs.Units.{is_day, is_number}
use Rattle.terms.specs.Refusals.{first}
use Rattle.terms.specs.Family.{Answers}
use Rattle.rows.specs.Rows.{places, rows, numbered, lots_in, no_account, account_at, found_account, missing}
use Rattle.rows.specs.Opening.{new_account, opening_refusals, opening_table}
use Rattle.rows.specs.declared.table.Account.{Account}
use Rattle.rows.specs.declared.table.Place.{Place}
use Rattle.rows.specs.declared.table.Place.TheVariants.{Free, Taken}
use Rattle.rows.specs.declared.table.Table.{Table}
use Rattle.rows.specs.declared.call.Call.TheVariants.{Opening}
use Rattle.ledger.specs.Ledger.{Ledger, total, post}
use Rattle.ledger.specs.Agreement.{Agrees, Balanced, if_number, lots_of, equity_of, view_from, carry_worth, numbers, NumbersDiffer}
use Rattle.ledger.proofs.Ring.{if_zero}
use Rattle.ledger.proofs.Sums.{total_set, total_perm, perm_from}
use Rattle.ledger.proofs.At.{set_at, none_at}
use Rattle.ledger.proofs.Found.{accepted, at_least_one, nowhere}
use Rattle.ledger.proofs.Views.{view_ext}
use Rattle.ledger.proofs.Well.{Well, Holds, no_lots, number_at, differ_set}

-- a number that no row has adds up to nothing, and has no worth
none_numbered : (n : ℕ) (f : Account → ℤ) (rs : List Account) → any_of (numbered n) rs ≡ false → total (if_number n f) rs ≡ pos 0
none_numbered n f [] e = refl
none_numbered n f (r ∷ rs) e =
    let q = or_parts (eqb r.number n) (any_of (numbered n) rs) e in
    ap₂ (λ (x y : ℤ). x +ℤ y) (cond-false (eqb r.number n) (f r) (pos 0) q.0) (none_numbered n f rs q.1)

no_worth : (rs : List Account) (n : ℕ) → ((j : ℕ) → lots_of rs j n ≡ pos 0) → (j : ℕ) (ls : List Place) → total (carry_worth n) (view_from rs j ls) ≡ pos 0
no_worth rs n h j [] = refl
no_worth rs n h j (Free ∷ ls) = no_worth rs n h (suc j) ls
no_worth rs n h j (Taken l ∷ ls) = cc (h j, zero-*ℤ (pos l.carry), no_worth rs n h (suc j) ls)

module _ (a : Answers) (t : Table) (g : Ledger) (day n : ℕ) (h : Holds a t g) (ok : first (opening_refusals t day n) ≡ 0) where
  abbrev old : List Account
  old = t.accounts

  abbrev new : List Account
  new = set old t.count (new_account n)

  passes : (i : ℕ) → (get_or (opening_refusals t day n) i (0, false)).1 ≡ false
  passes i = accepted (opening_refusals t day n) i refl ok

  above : 1 ≤ n
  above = at_least_one n (or_parts (not (is_day day)) (not (is_number n)) (passes 0)).1

  absent : any_of (numbered n) old ≡ false
  absent = nowhere (numbered n) old (not-false (missing (found_account t n)) (passes 2))

  room : t.count < rows
  room = leb-false rows t.count (passes 3)

  within : t.count < length old
  within = let r = room in omega (arith, h.well.accounts)

  -- the row was blank and is blank but for its number
  same_total : (f : Account → ℤ) → ((m : ℕ) → f (new_account m) ≡ pos 0) → total f new ≡ total f old
  same_total f none =
      let written = total_set f old t.count (new_account n) no_account within in
      let was = ap f (h.well.spare t.count (omega arith) room) ∙ none 0 in
      let is = none n in
      omega (arith, ints)

  lots_same : (j : ℕ) → lots_of new j ≡ lots_of old j
  lots_same j = fun_ext (λ m. same_total (if_number m (lots_in j)) (λ i. if_zero (eqb i m) (lots_in j (new_account i)) (no_lots j i)))

  equity_same : (m : ℕ) → equity_of new m ≡ equity_of old m
  equity_same m = same_total (if_number m (λ r. r.equity)) (λ i. if_zero (eqb i m) (pos 0) refl)

  worthless : total (carry_worth n) g.lines ≡ pos 0
  worthless =
      sym (total_perm (carry_worth n) h.agrees.lines)
      ∙ no_worth old n (λ j. none_numbered n (lots_in j) old absent) 0 t.lines

  equity_at : (m : ℕ) (b : Bool) → eqb m n ≡ b → equity_of new m ≡ cond b (pos 0) (g.sums m) +ℤ total (carry_worth m) g.lines
  equity_at m true e =
      let q : n ≡ m = sym (eqb-true m n e) in
      equity_same m
      ∙ (subst (λ (i : ℕ). equity_of old i ≡ pos 0) q (none_numbered n (λ r. r.equity) old absent)
      ∙ sym (ap (λ (z : ℤ). pos 0 +ℤ z) (subst (λ (i : ℕ). total (carry_worth i) g.lines ≡ pos 0) q worthless)))
  equity_at m false e = equity_same m ∙ h.agrees.equity m

  opening_agrees : Agrees (opening_table t day n) (post a g (Opening day n))
  opening_agrees =
      record {
        accounts = cc (take_more_set old t.count (new_account n) within, map_push (λ (r : Account). r.number) (take t.count old) (new_account n), h.agrees.accounts);
        lines = perm_from (view_ext old new lots_same 0 t.lines) h.agrees.lines;
        equity = λ m. equity_at m (eqb m n) refl;
      }

  opening_balanced : Balanced (opening_table t day n)
  opening_balanced =
      record {
        lots = λ j. same_total (lots_in j) (no_lots j) ∙ h.balanced.lots j;
        equity = same_total (λ r. r.equity) (λ i. refl) ∙ h.balanced.equity;
      }

  -- a row is the new one or as it was
  row_by : (P : Account → Type 0) → P (new_account n) → (i : ℕ) → P (account_at t i) → P (get_or new i no_account)
  row_by P = set_at P no_account old t.count (new_account n)

  unused : (j : ℕ) → get_or (numbers old) j 0 ≡ n → ⊥
  unused j e =
      let p = above in
      none_at (λ (r : Account). r.number ≡ n → ⊥) no_account (λ q. omega arith) (numbered n) (λ r. eqb-false r.number n) old absent j
      (sym (number_at old j) ∙ e)

  opening_well : Well a (opening_table t day n)
  opening_well =
      record {
        lines = h.well.lines;
        accounts = length-set old t.count (new_account n) ∙ h.well.accounts;
        lots = λ i l. row_by (λ (r : Account). length r.lots ≡ places) refl i (h.well.lots i l);
        spare = λ i c l.
            get_or-set_other old t.count i (new_account n) no_account (λ q. omega arith) ∙ h.well.spare i (omega arith) l;
        orderly =
            record {
              names = h.well.orderly.names;
              stocks = h.well.orderly.stocks;
              free = λ j e i. row_by (λ (r : Account). lots_in j r ≡ pos 0) (no_lots j n) i (h.well.orderly.free j e i);
            };
        nameless = h.well.nameless;
        numbers =
            let c = within in
            subst (λ (ns : List ℕ). NumbersDiffer ns)
            (sym (map-set (λ (r : Account). r.number) old t.count (new_account n)))
            (differ_set (numbers old) t.count n (omega (arith, length-map old (λ (r : Account). r.number)))
            unused h.well.numbers);
      }

  pub opening_holds : Holds a (opening_table t day n) (post a g (Opening day n))
  opening_holds = record { well = opening_well; balanced = opening_balanced; agrees = opening_agrees }
