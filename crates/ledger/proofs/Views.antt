-- The view of a book's lines, after the rows or one line have changed.
use Rattle.std.proofs.Common.{◌≡◌, ℕ, zero, suc, ◌+◌, ◌<◌, Bool, false, cond, List, [], ◌∷◌, length, get_or, set, ℤ, pos, Some, sym, refl, ap, ◌∙◌, subst, ap₂, arith}
use Rattle.std.proofs.lemmas.Bool.{or_parts, cond-true, cond-false}
use Rattle.lookup.specs.Seek.{any_of}
use Rattle.terms.specs.declared.code.Series.{Series}
use Rattle.rows.specs.Rows.{same_series, holds}
use Rattle.rows.specs.declared.table.Line.{Line}
use Rattle.rows.specs.declared.table.Account.{Account}
use Rattle.rows.specs.declared.table.Place.{Place}
use Rattle.rows.specs.declared.table.Place.TheVariants.{Free, Taken}
use Rattle.ledger.specs.Ledger.{Entry, total, is_named, if_so, at_name}
use Rattle.ledger.specs.Agreement.{Perm, keep, swap, join, lots_of, view_from, NamesDiffer}
use Rattle.ledger.proofs.Ring.{first_alone, second_alone}
use Rattle.ledger.proofs.Sums.{perm_refl}
use Rattle.ledger.proofs.At.{none_at}
use Rattle.ledger.proofs.SameSeries.{is_series, series_turn, not_series}

abbrev pub entry : List Account → ℕ → Line → Entry
entry rows j l = record { line = l; lots = lots_of rows j }

-- a place is free or taken, not both
pub not_both : {P : Type 0} (l : Line) → Free ≡ Taken l → P
not_both l e = let z : ◌≡◌ {A = ℕ} 0 1 = cc in absurd (omega arith)

-- a place has one line
pub taken_is : (l m : Line) → Taken l ≡ Taken m → l ≡ m
taken_is l m e = cc

-- a test that passes nowhere does not pass at a live line
pub none_taken : (q : Place → Bool) (ls : List Place) (i : ℕ) (l : Line) → any_of q ls ≡ false → get_or ls i Free ≡ Taken l → q (Taken l) ≡ false
none_taken q ls i l n =
    none_at (λ (x : Place). x ≡ Taken l → q (Taken l) ≡ false) Free (not_both l) q (λ x m e. ap q (sym e) ∙ m) ls n i

-- a name that nothing bears is not that of a live line
pub not_held : (k : Series) (ls : List Place) (i : ℕ) (l : Line) → any_of (holds (Some k)) ls ≡ false → get_or ls i Free ≡ Taken l → l.terms.series ≡ k → ⊥
not_held k ls i l n e = not_series l.terms.series k (none_taken (holds (Some k)) ls i l n e)

-- a line before the one of a name has another name
pub other_name : (k : Series) (x : Line) (ls : List Place) (i : ℕ) (l : Line) → any_of (holds (Some x.terms.series)) ls ≡ false → get_or ls i Free ≡ Taken l → l.terms.series ≡ k → same_series x.terms.series k ≡ false
other_name k x ls i l n e named = cc (series_turn x.terms.series k, none_taken (holds (Some x.terms.series)) ls i l n e)

-- the way through the places to the line of a name: what holds there, and of a place before another
-- line or a free place if it holds after it
module _ (k : Series) (P : ℕ) where
  -- past the line no other has the name
  pub walk_past :
      (Q : ℕ → List Place → Type 0) →
      ((j : ℕ) → Q j []) →
      ((j : ℕ) (ls : List Place) → Q (suc j) ls → Q j (Free ∷ ls)) →
      ((j : ℕ) (x : Line) (ls : List Place) → same_series x.terms.series k ≡ false → (j ≡ P → ⊥) → Q (suc j) ls → Q j (Taken x ∷ ls)) →
      (j : ℕ) (ls : List Place) →
      any_of (holds (Some k)) ls ≡ false →
      P < j →
      Q j ls
  walk_past Q end free other j [] n h = end j
  walk_past Q end free other j (Free ∷ ls) n h = free j ls (walk_past Q end free other (suc j) ls n (omega arith))
  walk_past Q end free other j (Taken x ∷ ls) n h =
      let q = or_parts (same_series x.terms.series k) (any_of (holds (Some k)) ls) n in
      other j x ls q.0 (λ e. omega arith) (walk_past Q end free other (suc j) ls q.1 (omega arith))

  pub walk :
      (l : Line) →
      l.terms.series ≡ k →
      (Q : ℕ → List Place → ℕ → Type 0) →
      ((ls : List Place) → any_of (holds (Some k)) ls ≡ false → Q P (Taken l ∷ ls) 0) →
      ((j : ℕ) (ls : List Place) (i : ℕ) → Q (suc j) ls i → Q j (Free ∷ ls) (suc i)) →
      ((j : ℕ) (x : Line) (ls : List Place) (i : ℕ) → same_series x.terms.series k ≡ false → (j ≡ P → ⊥) → Q (suc j) ls i → Q j (Taken x ∷ ls) (suc i)) →
      (j : ℕ) (ls : List Place) (i : ℕ) →
      NamesDiffer ls →
      get_or ls i Free ≡ Taken l →
      j + i ≡ P →
      Q j ls i
  walk l named Q here free other j [] i u e at = not_both l e
  walk l named Q here free other j (Free ∷ ls) zero u e at = not_both l e
  walk l named Q here free other j (Free ∷ ls) (suc i) u e at =
      free j ls i (walk l named Q here free other (suc j) ls i u e (omega arith))
  walk l named Q here free other j (Taken x ∷ ls) zero u e at =
      let x_is : l ≡ x = cc in
      let at_P : P ≡ j = omega arith in
      subst (λ (y : Line). any_of (holds (Some k)) ls ≡ false → Q j (Taken y ∷ ls) 0) x_is
      (subst (λ (m : ℕ). any_of (holds (Some k)) ls ≡ false → Q m (Taken l ∷ ls) 0) at_P (here ls))
      (subst (λ (y : Series). any_of (holds (Some y)) ls ≡ false) (ap (λ (y : Line). y.terms.series) (sym x_is) ∙ named) u.0)
  walk l named Q here free other j (Taken x ∷ ls) (suc i) u e at =
      other j x ls i (other_name k x ls i l u.0 e named) (λ q. omega arith)
      (walk l named Q here free other (suc j) ls i u.1 e (omega arith))

-- rows with the same lots
pub view_ext : (rows rows' : List Account) → ((j : ℕ) → lots_of rows' j ≡ lots_of rows j) → (j : ℕ) (ls : List Place) → view_from rows' j ls ≡ view_from rows j ls
view_ext rows rows' e j [] = refl
view_ext rows rows' e j (Free ∷ ls) = view_ext rows rows' e (suc j) ls
view_ext rows rows' e j (Taken l ∷ ls) =
    ap₂ (λ (f : ℕ → ℤ) (es : List Entry). (record { line = l; lots = f }) ∷ es) (e j) (view_ext rows rows' e (suc j) ls)

-- a new line in a free place
pub view_insert : (rows : List Account) (l : Line) (P j : ℕ) (ls : List Place) (i : ℕ) → j + i ≡ P → i < length ls → get_or ls i Free ≡ Free → Perm (view_from rows j (set ls i (Taken l))) (entry rows P l ∷ view_from rows j ls)
view_insert rows l P j [] i e h v = absurd (omega arith)
view_insert rows l P j (Free ∷ ls) zero e h v =
    let q : j ≡ P = omega arith in
    subst (λ (m : ℕ). Perm (entry rows j l ∷ view_from rows (suc j) ls) (entry rows m l ∷ view_from rows (suc j) ls)) q (perm_refl _)
view_insert rows l P j (Taken x ∷ ls) zero e h v = not_both x (sym v)
view_insert rows l P j (Free ∷ ls) (suc i) e h v = view_insert rows l P (suc j) ls i (omega arith) (omega arith) v
view_insert rows l P j (Taken x ∷ ls) (suc i) e h v =
    join (keep (view_insert rows l P (suc j) ls i (omega arith) (omega arith) v)) swap

-- the line of a name changed, and the lots in its place
module _ (rows rows' : List Account) (k : Series) (F : Entry → Entry) (P : ℕ) (l l' : Line)
    (named : l.terms.series ≡ k)
    (others : (i : ℕ) → (i ≡ P → ⊥) → lots_of rows' i ≡ lots_of rows i)
    (there : F (entry rows P l) ≡ entry rows' P l') where
  left : (j : ℕ) (x : Line) → same_series x.terms.series k ≡ false → (j ≡ P → ⊥) → entry rows' j x ≡ cond (is_named k (entry rows j x)) (F (entry rows j x)) (entry rows j x)
  left j x n away = cc (others j away, cond-false (same_series x.terms.series k) (F (entry rows j x)) (entry rows j x) n)

  past : (j : ℕ) (ls : List Place) → any_of (holds (Some k)) ls ≡ false → P < j → view_from rows' j ls ≡ at_name k F (view_from rows j ls)
  past =
      walk_past k P (λ j ls. view_from rows' j ls ≡ at_name k F (view_from rows j ls)) (λ j. refl) (λ j ls q. q)
      (λ j x ls n away q. ap₂ (λ (e : Entry) (es : List Entry). e ∷ es) (left j x n away) q)

  pub view_amend : (j : ℕ) (ls : List Place) (i : ℕ) → NamesDiffer ls → get_or ls i Free ≡ Taken l → j + i ≡ P → view_from rows' j (set ls i (Taken l')) ≡ at_name k F (view_from rows j ls)
  view_amend =
      walk k P l named (λ j ls i. view_from rows' j (set ls i (Taken l')) ≡ at_name k F (view_from rows j ls))
      (λ ls n. ap₂ (λ (e : Entry) (es : List Entry). e ∷ es)
      (sym (cond-true (same_series l.terms.series k) (F (entry rows P l)) (entry rows P l) (is_series l.terms.series k named) ∙ there))
      (past (suc P) ls n (omega arith)))
      (λ j ls i q. q)
      (λ j x ls i n away q. ap₂ (λ (e : Entry) (es : List Entry). e ∷ es) (left j x n away) q)

-- a sum over the entries of a name is that of its line
module _ (rows : List Account) (k : Series) (h : Entry → ℤ) (P : ℕ) (l : Line) (named : l.terms.series ≡ k) where
  abbrev sum : ℕ → List Place → ℤ
  sum j ls = total (if_so (is_named k) h) (view_from rows j ls)

  not_counted : (j : ℕ) (x : Line) (ls : List Place) (z : ℤ) → same_series x.terms.series k ≡ false → sum (suc j) ls ≡ z → sum j (Taken x ∷ ls) ≡ z
  not_counted j x ls z n q =
      second_alone (if_so (is_named k) h (entry rows j x)) (sum (suc j) ls) z
      (cond-false (same_series x.terms.series k) (h (entry rows j x)) (pos 0) n) q

  none_named : (j : ℕ) (ls : List Place) → any_of (holds (Some k)) ls ≡ false → P < j → sum j ls ≡ pos 0
  none_named =
      walk_past k P (λ j ls. sum j ls ≡ pos 0) (λ j. refl) (λ j ls q. q) (λ j x ls n away q. not_counted j x ls (pos 0) n q)

  pub view_pick : (j : ℕ) (ls : List Place) (i : ℕ) → NamesDiffer ls → get_or ls i Free ≡ Taken l → j + i ≡ P → total (if_so (is_named k) h) (view_from rows j ls) ≡ h (entry rows P l)
  view_pick =
      walk k P l named (λ j ls i. sum j ls ≡ h (entry rows P l))
      (λ ls n.
      first_alone (if_so (is_named k) h (entry rows P l)) (sum (suc P) ls) (h (entry rows P l))
      (cond-true (same_series l.terms.series k) (h (entry rows P l)) (pos 0) (is_series l.terms.series k named))
      (none_named (suc P) ls n (omega arith)))
      (λ j ls i q. q)
      (λ j x ls i n away q. not_counted j x ls (h (entry rows P l)) n q)
