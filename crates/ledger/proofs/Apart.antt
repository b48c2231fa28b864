-- Names stay different, and prefixes and stocks in agreement, where a line is changed under its
-- terms, a new one comes that meets no other, or one goes.
use Rattle.std.proofs.Common.{◌≡◌, ℕ, zero, suc, Bool, false, not, ◌&&◌, ◌||◌, List, [], ◌∷◌, get_or, set, Some, sym, refl, ap, ◌∙◌, subst, ap₂}
use mathlib.Core.Path.{transport, transport⁻¹}
use Rattle.std.proofs.lemmas.Bool.{or_parts, or_from}
use Rattle.lookup.specs.Seek.{any_of}
use Rattle.terms.specs.declared.terms.Terms.{Terms}
use Rattle.rows.specs.Rows.{holds}
use Rattle.rows.specs.Listing.{clashes}
use Rattle.rows.specs.declared.table.Line.{Line}
use Rattle.rows.specs.declared.table.Place.{Place}
use Rattle.rows.specs.declared.table.Place.TheVariants.{Free, Taken}
use Rattle.ledger.specs.Agreement.{NamesDiffer, StocksAgree}
use Rattle.ledger.proofs.At.{set_at}
use Rattle.ledger.proofs.SameSeries.{eqb_turn, prefix_turn, series_turn}
use Rattle.ledger.proofs.Views.{not_both}

-- a test that passes nowhere passes nowhere after a write at which it does not
any_set : (f : Place → Bool) (ls : List Place) (i : ℕ) (y : Place) → f y ≡ false → any_of f ls ≡ false → any_of f (set ls i y) ≡ false
any_set f [] i y n e = refl
any_set f (x ∷ ls) zero y n e = or_from (f y) (any_of f ls) n (or_parts (f x) (any_of f ls) e).1
any_set f (x ∷ ls) (suc i) y n e =
    let q = or_parts (f x) (any_of f ls) e in
    or_from (f x) (any_of f (set ls i y)) q.0 (any_set f ls i y n q.1)

-- no live line meets another, by a test that does not depend on which comes first
module _ (p : Line → Place → Bool) where
  abbrev pub Apart : List Place → Type 0
  Apart [] = Unit {0}
  Apart (Free ∷ ls) = Apart ls
  Apart (Taken l ∷ ls) = (any_of (p l) ls ≡ false) × Apart ls

  module _ (turn : (x y : Line) → p x (Taken y) ≡ p y (Taken x)) where
    -- a line written in the place of another that meets the same
    module _ (l l' : Line) (same : p l' ≡ p l) where
      any_amend : (x : Line) (ls : List Place) (i : ℕ) → get_or ls i Free ≡ Taken l → any_of (p x) (set ls i (Taken l')) ≡ any_of (p x) ls
      any_amend x [] i e = refl
      any_amend x (y ∷ ls) zero e = cc (turn x l', turn l x)
      any_amend x (y ∷ ls) (suc i) e = ap (λ (b : Bool). p x y || b) (any_amend x ls i e)

      amend : (ls : List Place) (i : ℕ) → get_or ls i Free ≡ Taken l → Apart ls → Apart (set ls i (Taken l'))
      amend [] i e u = tt
      amend (Free ∷ ls) zero e u = not_both l e
      amend (Taken x ∷ ls) zero e u =
          let x_is : x ≡ l = cc in
          (subst (λ (f : Place → Bool). any_of f ls ≡ false) (ap p x_is ∙ sym same) u.0, u.1)
      amend (Free ∷ ls) (suc i) e u = amend ls i e u
      amend (Taken x ∷ ls) (suc i) e u = (any_amend x ls i e ∙ u.0, amend ls i e u.1)

    -- a line that meets no other, written anywhere
    module _ (l : Line) where
      insert : (ls : List Place) (i : ℕ) → any_of (p l) ls ≡ false → Apart ls → Apart (set ls i (Taken l))
      insert [] i n u = tt
      insert (Free ∷ ls) zero n u = ((or_parts (p l Free) (any_of (p l) ls) n).1, u)
      insert (Taken x ∷ ls) zero n u = ((or_parts (p l (Taken x)) (any_of (p l) ls) n).1, u.1)
      insert (Free ∷ ls) (suc i) n u = insert ls i (or_parts (p l Free) (any_of (p l) ls) n).1 u
      insert (Taken x ∷ ls) (suc i) n u =
          let q = or_parts (p l (Taken x)) (any_of (p l) ls) n in
          (any_set (p x) ls i (Taken l) (turn x l ∙ q.0) u.0, insert ls i q.1 u.1)

  -- a line that goes
  remove : ((x : Line) → p x Free ≡ false) → (ls : List Place) (i : ℕ) → Apart ls → Apart (set ls i Free)
  remove at_free [] i u = tt
  remove at_free (Free ∷ ls) zero u = u
  remove at_free (Taken x ∷ ls) zero u = u.1
  remove at_free (Free ∷ ls) (suc i) u = remove at_free ls i u
  remove at_free (Taken x ∷ ls) (suc i) u = (any_set (p x) ls i Free (at_free x) u.0, remove at_free ls i u.1)

-- of names
abbrev pub by_name : Line → Place → Bool
by_name l = holds (Some l.terms.series)

name_turn : (x y : Line) → by_name x (Taken y) ≡ by_name y (Taken x)
name_turn x y = series_turn y.terms.series x.terms.series

pub names_are : (ls : List Place) → NamesDiffer ls ≡ Apart by_name ls
names_are [] = refl
names_are (Free ∷ ls) = names_are ls
names_are (Taken l ∷ ls) = ap (λ (T : Type 0). (any_of (by_name l) ls ≡ false) × T) (names_are ls)

-- of prefixes and stocks
abbrev pub by_stock : Line → Place → Bool
by_stock l = clashes l.terms.series.prefix l.terms.stock

pub stock_turn : (x y : Line) → by_stock x (Taken y) ≡ by_stock y (Taken x)
stock_turn x y =
    ap₂ (λ (a b : Bool). (a && not b) || (b && not a))
    (prefix_turn y.terms.series.prefix x.terms.series.prefix) (eqb_turn y.terms.stock x.terms.stock)

pub stocks_are : (ls : List Place) → StocksAgree ls ≡ Apart by_stock ls
stocks_are [] = refl
stocks_are (Free ∷ ls) = stocks_are ls
stocks_are (Taken l ∷ ls) = ap (λ (T : Type 0). (any_of (by_stock l) ls ≡ false) × T) (stocks_are ls)

-- a line keeps its terms, a new one comes, or one goes
module _ (p : Line → Place → Bool) (turn : (x y : Line) → p x (Taken y) ≡ p y (Taken x)) (D : List Place → Type 0) (are : (ls : List Place) → D ls ≡ Apart p ls) where
  amended : (l l' : Line) → p l' ≡ p l → (ls : List Place) (i : ℕ) → get_or ls i Free ≡ Taken l → D ls → D (set ls i (Taken l'))
  amended l l' same ls i e u =
      transport⁻¹ (are (set ls i (Taken l'))) (amend p turn l l' same ls i e (transport (are ls) u))

  inserted : (l : Line) (ls : List Place) (i : ℕ) → any_of (p l) ls ≡ false → D ls → D (set ls i (Taken l))
  inserted l ls i n u =
      transport⁻¹ (are (set ls i (Taken l))) (insert p turn l ls i n (transport (are ls) u))

  removed : ((x : Line) → p x Free ≡ false) → (ls : List Place) (i : ℕ) → D ls → D (set ls i Free)
  removed at_free ls i u =
      transport⁻¹ (are (set ls i Free)) (remove p at_free ls i (transport (are ls) u))

pub names_amend : (l l' : Line) → l'.terms ≡ l.terms → (ls : List Place) (i : ℕ) → get_or ls i Free ≡ Taken l → NamesDiffer ls → NamesDiffer (set ls i (Taken l'))
names_amend l l' same =
    amended by_name name_turn NamesDiffer names_are l l' (ap (λ (t : Terms). holds (Some t.series)) same)

pub names_insert : (l : Line) (ls : List Place) (i : ℕ) → any_of (by_name l) ls ≡ false → NamesDiffer ls → NamesDiffer (set ls i (Taken l))
names_insert = inserted by_name name_turn NamesDiffer names_are

pub names_remove : (ls : List Place) (i : ℕ) → NamesDiffer ls → NamesDiffer (set ls i Free)
names_remove = removed by_name name_turn NamesDiffer names_are (λ x. refl)

pub stocks_amend : (l l' : Line) → l'.terms ≡ l.terms → (ls : List Place) (i : ℕ) → get_or ls i Free ≡ Taken l → StocksAgree ls → StocksAgree (set ls i (Taken l'))
stocks_amend l l' same =
    amended by_stock stock_turn StocksAgree stocks_are l l' (ap (λ (t : Terms). clashes t.series.prefix t.stock) same)

pub stocks_insert : (l : Line) (ls : List Place) (i : ℕ) → any_of (by_stock l) ls ≡ false → StocksAgree ls → StocksAgree (set ls i (Taken l))
stocks_insert = inserted by_stock stock_turn StocksAgree stocks_are

pub stocks_remove : (ls : List Place) (i : ℕ) → StocksAgree ls → StocksAgree (set ls i Free)
stocks_remove = removed by_stock stock_turn StocksAgree stocks_are (λ x. refl)

-- after a line was written, a place that is free was so before
pub free_before : (l : Line) (ls : List Place) (i j : ℕ) → get_or (set ls i (Taken l)) j Free ≡ Free → get_or ls j Free ≡ Free
free_before l ls i j = set_at (λ (x : Place). x ≡ Free → get_or ls j Free ≡ Free) Free ls i (Taken l) (λ e. not_both l (sym e)) j (λ e. e)
