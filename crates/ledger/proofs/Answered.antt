-- What the questions answer is what the ledger has.
use Rattle.std.proofs.Common.{◌≡◌, ℕ, suc, ◌+◌, ◌≤◌, Bool, true, false, not, ◌||◌, eqb, List, [], ◌∷◌, get_or, take, ℤ, pos, ◌+ℤ◌, Some, None, sym, refl, ap, ◌∙◌, ⊎_elim, arith}
use Rattle.std.proofs.lemmas.Bool.{or_parts, both_ways, eq-eqb, ne_eqb, cond-true, cond-false, cases_Bool, not_from_false}
use Rattle.lookup.specs.Seek.{any_of}
use Rattle.terms.specs.Family.{Answers}
use Rattle.terms.specs.declared.code.Series.{Series}
use Rattle.rows.specs.Rows.{places, same_series, holds, numbered, lots_in, no_account, found_line, found_account, missing, place, row, line_at, account_at}
use Rattle.rows.specs.Calls.{empty, run}
use Rattle.rows.specs.declared.table.Line.{Line}
use Rattle.rows.specs.declared.table.Account.{Account}
use Rattle.rows.specs.declared.table.Place.{Place}
use Rattle.rows.specs.declared.table.Place.TheVariants.{Free, Taken}
use Rattle.rows.specs.declared.table.Table.{Table}
use Rattle.rows.specs.declared.call.Call.{Call}
use Rattle.ledger.specs.Ledger.{Entry, Ledger, total, is_named}
use Rattle.ledger.specs.Agreement.{Answered, NamesDiffer, NumbersDiffer, numbers, if_number, view_from, carry_worth, ledger_of, entry_named, entry_terms, entry_lots, at_found}
use Rattle.ledger.proofs.Sums.{total_one}
use Rattle.ledger.proofs.Found.{Open, live, open_row, nowhere}
use Rattle.ledger.proofs.Views.{entry, walk}
use Rattle.ledger.proofs.Firsts.{Only, any_perm, any_take, any_found, any_map, only_none, only_perm, at_some, at_none}
use Rattle.ledger.proofs.Well.{Holds, number_at}
use Rattle.ledger.proofs.Main.{holds_after}

-- the first entry of a name, where all of that name are one, and where none is
module _ (k : Series) where
  first_is : (e : Entry) (es : List Entry) → any_of (is_named k) es ≡ true → Only (is_named k) e es → entry_named k es ≡ Some e
  first_is e [] n o = absurd (both_ways false refl n)
  first_is e (x ∷ es) n o =
      ⊎_elim
      (λ h. cond-true (is_named k x) (Some x) (entry_named k es) h ∙ ap Some (o.0 h))
      (λ h. cond-false (is_named k x) (Some x) (entry_named k es) h
      ∙ first_is e es (sym (ap (λ (b : Bool). b || any_of (is_named k) es) h) ∙ n) o.1)
      (cases_Bool (is_named k x))

  first_none : (es : List Entry) → any_of (is_named k) es ≡ false → entry_named k es ≡ None
  first_none [] n = refl
  first_none (x ∷ es) n =
      let q = or_parts (is_named k x) (any_of (is_named k) es) n in
      cond-false (is_named k x) (Some x) (entry_named k es) q.0 ∙ first_none es q.1

  -- the view has a name where a place has, and once
  view_any : (rs : List Account) (j : ℕ) (ls : List Place) → any_of (is_named k) (view_from rs j ls) ≡ any_of (holds (Some k)) ls
  view_any rs j [] = refl
  view_any rs j (Free ∷ ls) = view_any rs (suc j) ls
  view_any rs j (Taken x ∷ ls) = ap (λ (b : Bool). same_series x.terms.series k || b) (view_any rs (suc j) ls)

  module _ (rs : List Account) (P : ℕ) (l : Line) (named : l.terms.series ≡ k) where
    view_only : (j : ℕ) (ls : List Place) (i : ℕ) → NamesDiffer ls → get_or ls i Free ≡ Taken l → j + i ≡ P → Only (is_named k) (entry rs P l) (view_from rs j ls)
    view_only =
        walk k P l named (λ j ls i. Only (is_named k) (entry rs P l) (view_from rs j ls))
        (λ ls n. (λ h. refl, only_none (is_named k) (entry rs P l) (view_from rs (suc P) ls) (view_any rs (suc P) ls ∙ n)))
        (λ j ls i q. q)
        (λ j x ls i n away q. (λ h. absurd (both_ways (same_series x.terms.series k) n h), q))

-- a sum over the rows of a number
module _ (t : Table) (n : ℕ) (above : 1 ≤ n) (differ : NumbersDiffer (numbers t.accounts)) (o : Open t n) where
  other_number : (i : ℕ) → (i ≡ row t n → ⊥) → (account_at t i).number ≡ n → ⊥
  other_number i ne e =
      let mine : get_or (numbers t.accounts) (row t n) 0 ≡ n = number_at t.accounts (row t n) ∙ o.number in
      ne (sym (differ (row t n) i (omega arith) (mine ∙ sym (number_at t.accounts i ∙ e))))

  of_number : (f : Account → ℤ) → total (if_number n f) t.accounts ≡ f (account_at t (row t n))
  of_number f =
      cc (
        total_one (if_number n f) no_account t.accounts (row t n) o.within
            (λ i l ne. cond-false (eqb (account_at t i).number n) (f (account_at t i)) (pos 0) (ne_eqb (account_at t i).number n (other_number i ne))),
        cond-true (eqb (account_at t (row t n)).number n) (f (account_at t (row t n))) (pos 0) (eq-eqb (account_at t (row t n)).number n o.number),
      )

module _ {a : Answers} (t : Table) (g : Ledger) (h : Holds a t g) where
  -- the ledger's entry of a name is the line's
  entry_is : (k : Series) → missing (found_line t k) ≡ false → entry_named k g.lines ≡ Some (entry t.accounts (place t k) (line_at t (place t k)))
  entry_is k m =
      let f = live t k m in
      let some : any_of (holds (Some k)) t.lines ≡ true =
      sym (any_found (holds (Some k)) t.lines Free) ∙ not_from_false (missing (found_line t k)) m in
      first_is k (entry t.accounts (place t k) (line_at t (place t k))) g.lines
      (sym (any_perm (is_named k) h.agrees.lines) ∙ (view_any k t.accounts 0 t.lines ∙ some))
      (only_perm (is_named k) (entry t.accounts (place t k) (line_at t (place t k))) h.agrees.lines
      (view_only k t.accounts (place t k) (line_at t (place t k)) f.named 0 t.lines (place t k) h.well.orderly.names f.taken (omega arith)))

  no_entry : (k : Series) → missing (found_line t k) ≡ true → entry_named k g.lines ≡ None
  no_entry k m =
      first_none k g.lines (cc (any_perm (is_named k) h.agrees.lines, view_any k t.accounts 0 t.lines, nowhere (holds (Some k)) t.lines m))

  terms_by : (k : Series) (b : Bool) → missing (found_line t k) ≡ b → at_found (λ j. (line_at t j).terms) (found_line t k) ≡ entry_terms (entry_named k g.lines)
  terms_by k true m = cc (at_none (λ j. (line_at t j).terms) (found_line t k) m, no_entry k m)
  terms_by k false m = cc (at_some (λ j. (line_at t j).terms) places (found_line t k) m, entry_is k m)

  lots_by : (k : Series) (n : ℕ) → 1 ≤ n → missing (found_line t k) ≡ false → missing (found_account t n) ≡ false → lots_in (place t k) (account_at t (row t n)) ≡ entry_lots (entry_named k g.lines) n
  lots_by k n above m o = cc (of_number t n above h.well.numbers (open_row t n o) (lots_in (place t k)), entry_is k m)

  equity_by : (n : ℕ) → 1 ≤ n → missing (found_account t n) ≡ false → (account_at t (row t n)).equity ≡ g.sums n +ℤ total (carry_worth n) g.lines
  equity_by n above o = cc (of_number t n above h.well.numbers (open_row t n o) (λ r. r.equity), h.agrees.equity n)

  -- a row that is not in use has no number above 0
  accounts_by : (n : ℕ) → 1 ≤ n → not (missing (found_account t n)) ≡ any_of (λ m. eqb m n) g.accounts
  accounts_by n above =
      any_found (numbered n) t.accounts no_account
      ∙ (any_take (numbered n) no_account t.count t.accounts
      (λ i c l. ne_eqb (account_at t i).number n
      (λ e. omega (arith, ap (λ (r : Account). r.number) (h.well.spare i c (omega (arith, h.well.accounts))))))
      ∙ (sym (any_map (λ m. eqb m n) (λ (r : Account). r.number) (take t.count t.accounts))
      ∙ ap (any_of (λ m. eqb m n)) h.agrees.accounts))

  pub answers_hold : Answered t g
  answers_hold = record { terms = λ k. terms_by k (missing (found_line t k)) refl; lots = lots_by; equity = equity_by; accounts = accounts_by }

pub answered : (a : Answers) (cs : List Call) → Answered (run a empty cs) (ledger_of a cs)
answered a cs = answers_hold (run a empty cs) (ledger_of a cs) (holds_after a cs)

-- no two accounts have one number
pub numbers_differ : (a : Answers) (cs : List Call) → NumbersDiffer (numbers (run a empty cs).accounts)
numbers_differ a cs = (holds_after a cs).well.numbers
