-- The lines but for that of a name: their order, sums over them, and the view once the line's place
-- is free.
use Rattle.std.proofs.Common.{◌≡◌, ℕ, suc, ◌+◌, ◌<◌, Bool, true, false, cond, List, [], ◌∷◌, get_or, set, ℤ, pos, ◌+ℤ◌, Some, sym, refl, ◌∙◌, arith}
use Rattle.std.proofs.lemmas.Bool.{cond-true, cond-false}
use Rattle.std.proofs.lemmas.Int.{ints}
use Rattle.lookup.specs.Seek.{any_of}
use Rattle.terms.specs.declared.code.Series.{Series}
use Rattle.rows.specs.Rows.{same_series, holds}
use Rattle.rows.specs.declared.table.Line.{Line}
use Rattle.rows.specs.declared.table.Account.{Account}
use Rattle.rows.specs.declared.table.Place.{Place}
use Rattle.rows.specs.declared.table.Place.TheVariants.{Free, Taken}
use Rattle.ledger.specs.Ledger.{Entry, total, is_named, if_so, without}
use Rattle.ledger.specs.Agreement.{Perm, none, keep, swap, join, lots_of, view_from, NamesDiffer}
use Rattle.ledger.proofs.Sums.{perm_refl}
use Rattle.ledger.proofs.SameSeries.{is_series}
use Rattle.ledger.proofs.Views.{entry, walk_past, walk}

-- in another order
keep_by : (b : Bool) (x : Entry) {xs ys : List Entry} → Perm xs ys → Perm (cond b xs (x ∷ xs)) (cond b ys (x ∷ ys))
keep_by true x p = p
keep_by false x p = keep p

swap_by : (b c : Bool) (x y : Entry) (es : List Entry) → Perm (cond b (cond c es (y ∷ es)) (x ∷ cond c es (y ∷ es))) (cond c (cond b es (x ∷ es)) (y ∷ cond b es (x ∷ es)))
swap_by true true x y es = perm_refl es
swap_by true false x y es = perm_refl (y ∷ es)
swap_by false true x y es = perm_refl (x ∷ es)
swap_by false false x y es = swap

pub perm_without : (k : Series) {xs ys : List Entry} → Perm xs ys → Perm (without k xs) (without k ys)
perm_without k none = none
perm_without k (keep {x} p) = keep_by (is_named k x) x (perm_without k p)
perm_without k (swap {x} {y} {xs}) = swap_by (is_named k x) (is_named k y) x y (without k xs)
perm_without k (join p q) = join (perm_without k p) (perm_without k q)

-- a sum over them, with that of the name, is that over all
module _ (f : Entry → ℤ) where
  part_by : (b : Bool) (e : Entry) (es : List Entry) (named all : ℤ) → total f es +ℤ named ≡ all → total f (cond b es (e ∷ es)) +ℤ (cond b (f e) (pos 0) +ℤ named) ≡ f e +ℤ all
  part_by true e es named all h = omega (arith, ints)
  part_by false e es named all h = omega (arith, ints)

  pub total_without : (k : Series) (es : List Entry) → total f (without k es) +ℤ total (if_so (is_named k) f) es ≡ total f es
  total_without k [] = refl
  total_without k (e ∷ es) =
      part_by (is_named k e) e (without k es) (total (if_so (is_named k) f) es) (total f es) (total_without k es)

-- the line of a name gone
module _ (rows rows' : List Account) (k : Series) (P : ℕ) (l : Line)
    (named : l.terms.series ≡ k)
    (others : (i : ℕ) → (i ≡ P → ⊥) → lots_of rows' i ≡ lots_of rows i) where
  left : (j : ℕ) (x : Line) (es es' : List Entry) → same_series x.terms.series k ≡ false → (j ≡ P → ⊥) → es' ≡ without k es → entry rows' j x ∷ es' ≡ without k (entry rows j x ∷ es)
  left j x es es' n away e = cc (others j away, cond-false (same_series x.terms.series k) (without k es) (entry rows j x ∷ without k es) n)

  past : (j : ℕ) (ls : List Place) → any_of (holds (Some k)) ls ≡ false → P < j → view_from rows' j ls ≡ without k (view_from rows j ls)
  past =
      walk_past k P (λ j ls. view_from rows' j ls ≡ without k (view_from rows j ls)) (λ j. refl) (λ j ls q. q)
      (λ j x ls n away q. left j x _ _ n away q)

  pub view_without : (j : ℕ) (ls : List Place) (i : ℕ) → NamesDiffer ls → get_or ls i Free ≡ Taken l → j + i ≡ P → view_from rows' j (set ls i Free) ≡ without k (view_from rows j ls)
  view_without =
      walk k P l named (λ j ls i. view_from rows' j (set ls i Free) ≡ without k (view_from rows j ls))
      (λ ls n.
      past (suc P) ls n (omega arith)
      ∙ sym (cond-true (same_series l.terms.series k) (without k (view_from rows (suc P) ls)) (entry rows P l ∷ without k (view_from rows (suc P) ls)) (is_series l.terms.series k named)))
      (λ j ls i q. q)
      (λ j x ls i n away q. left j x _ _ n away q)
