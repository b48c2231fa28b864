-- The lines of a book, each changed where it stands: a free place stays free and a live line live.
use Rattle.std.proofs.Common.{◌≡◌, ℕ, suc, Bool, false, cond, not, ◌&&◌, ◌||◌, eqb, List, [], ◌∷◌, map, get_or, pos, ◌*ℤ◌, sym, refl, ap, ◌∙◌, subst, ap₂, arith}
use mathlib.Core.Path.{transport, transport⁻¹, fun_ext}
use Rattle.std.proofs.lemmas.Bool.{or_parts, or_from}
use Rattle.lookup.specs.Seek.{any_of}
use Rattle.terms.specs.declared.code.Series.{Series}
use Rattle.rows.specs.Rows.{same_prefix, same_series}
use Rattle.rows.specs.declared.table.Line.{Line}
use Rattle.rows.specs.declared.table.Account.{Account}
use Rattle.rows.specs.declared.table.Place.{Place}
use Rattle.rows.specs.declared.table.Place.TheVariants.{Free, Taken}
use Rattle.ledger.specs.Ledger.{Entry, total, where_so}
use Rattle.ledger.specs.Agreement.{view_from, carry_worth, NamesDiffer, StocksAgree}
use Rattle.ledger.proofs.Sums.{total_ext, total_map}
use Rattle.ledger.proofs.At.{map_at}
use Rattle.ledger.proofs.Apart.{Apart, by_name, names_are, by_stock, stocks_are}

-- a line stands in one of the places
abbrev pub Among : Line → List Place → Type 0
Among l ls = (j : ℕ) × (get_or ls j Free ≡ Taken l)

-- an entry whose line is changed
abbrev pub with_line : (Line → Line) → Entry → Entry
with_line g e = record { line = g e.line; lots = e.lots }

-- a free place stays free, and the line in another is changed
pub record Changes (f : Place → Place) (g : Line → Line) : Type 0 where
  pub free : f Free ≡ Free
  pub taken : (l : Line) → f (Taken l) ≡ Taken (g l)

module _ {f : Place → Place} {g : Line → Line} (changes : Changes f g) where
  pub view_map : (rows : List Account) (j : ℕ) (ls : List Place) → view_from rows j (map f ls) ≡ map (with_line g) (view_from rows j ls)
  view_map rows j [] = refl
  view_map rows j (Free ∷ ls) = ap (λ (x : Place). view_from rows j (x ∷ map f ls)) changes.free ∙ view_map rows (suc j) ls
  view_map rows j (Taken l ∷ ls) = cc (changes.taken l, view_map rows (suc j) ls)

  -- what stands in a place afterwards, and what stood there
  pub place_map : (ls : List Place) (j : ℕ) → get_or (map f ls) j Free ≡ f (get_or ls j Free)
  place_map = map_at f Free Free changes.free

  pub taken_map : (ls : List Place) (j : ℕ) (l : Line) → get_or ls j Free ≡ Taken l → get_or (map f ls) j Free ≡ Taken (g l)
  taken_map ls j l e = place_map ls j ∙ (ap f e ∙ changes.taken l)

  was_free : (x : Place) → f x ≡ Free → x ≡ Free
  was_free x e = grind (arith, changes.free, changes.taken)

  pub free_before_map : (ls : List Place) (j : ℕ) → get_or (map f ls) j Free ≡ Free → get_or ls j Free ≡ Free
  free_before_map ls j e = was_free (get_or ls j Free) (sym (place_map ls j) ∙ e)

  -- lines stay apart where each two that were apart stay so
  module _ (p : Line → Place → Bool) (at_free : (x : Line) → p x Free ≡ false) where
    none_map :
        (x : Line) (ls : List Place) →
        ((y : Line) → Among y ls → p x (Taken y) ≡ false → p (g x) (Taken (g y)) ≡ false) →
        any_of (p x) ls ≡ false →
        any_of (p (g x)) (map f ls) ≡ false
    none_map x [] h n = refl
    none_map x (Free ∷ ls) h n =
        or_from (p (g x) (f Free)) (any_of (p (g x)) (map f ls)) (ap (p (g x)) changes.free ∙ at_free (g x))
        (none_map x ls (λ y m. h y (suc m.0, m.1)) (or_parts (p x Free) (any_of (p x) ls) n).1)
    none_map x (Taken y ∷ ls) h n =
        let q = or_parts (p x (Taken y)) (any_of (p x) ls) n in
        or_from (p (g x) (f (Taken y))) (any_of (p (g x)) (map f ls)) (ap (p (g x)) (changes.taken y) ∙ h y (0, refl) q.0)
        (none_map x ls (λ z m. h z (suc m.0, m.1)) q.1)

    pub apart_map :
        (ls : List Place) →
        ((x y : Line) → Among x ls → Among y ls → p x (Taken y) ≡ false → p (g x) (Taken (g y)) ≡ false) →
        Apart p ls →
        Apart p (map f ls)
    apart_map [] h u = tt
    apart_map (Free ∷ ls) h u =
        subst (λ (x : Place). Apart p (x ∷ map f ls)) (sym changes.free)
        (apart_map ls (λ x y m n. h x y (suc m.0, m.1) (suc n.0, n.1)) u)
    apart_map (Taken x ∷ ls) h u =
        subst (λ (y : Place). Apart p (y ∷ map f ls)) (sym (changes.taken x)) (
          none_map x ls (λ y n. h x y (0, refl) (suc n.0, n.1)) u.0,
          apart_map ls (λ y z m n. h y z (suc m.0, m.1) (suc n.0, n.1)) u.1,
        )

  -- of names, and of prefixes and stocks
  pub names_map :
      (ls : List Place) →
      ((x y : Line) → Among x ls → Among y ls → by_name x (Taken y) ≡ false → by_name (g x) (Taken (g y)) ≡ false) →
      NamesDiffer ls →
      NamesDiffer (map f ls)
  names_map ls h u =
      transport⁻¹ (names_are (map f ls)) (apart_map by_name (λ x. refl) ls h (transport (names_are ls) u))

  pub stocks_map :
      (ls : List Place) →
      ((x y : Line) → Among x ls → Among y ls → by_stock x (Taken y) ≡ false → by_stock (g x) (Taken (g y)) ≡ false) →
      StocksAgree ls →
      StocksAgree (map f ls)
  stocks_map ls h u =
      transport⁻¹ (stocks_are (map f ls)) (apart_map by_stock (λ x. refl) ls h (transport (stocks_are ls) u))

  -- where each line keeps its series, and its stock
  module _ (series : (l : Line) → (g l).terms.series ≡ l.terms.series) where
    pub names_kept : (ls : List Place) → NamesDiffer ls → NamesDiffer (map f ls)
    names_kept ls = names_map ls (λ x y m n e. ap₂ (λ (s t : Series). same_series t s) (series x) (series y) ∙ e)

    pub stocks_kept : (ls : List Place) → ((l : Line) → (g l).terms.stock ≡ l.terms.stock) → StocksAgree ls → StocksAgree (map f ls)
    stocks_kept ls stock =
        stocks_map ls
        (λ x y m n e.
        ap₂ (λ (a b : Bool). (a && not b) || (b && not a))
        (ap₂ (λ (s t : Series). same_prefix t.prefix s.prefix) (series x) (series y))
        (ap₂ (λ (s t : ℕ). eqb t s) (stock x) (stock y))
        ∙ e)

-- where the lines that pass a test are changed, so are their entries
pub cond_kept : {X Y : Type 0} (f : X → Y) (b : Bool) (x y : X) → f x ≡ f y → f (cond b x y) ≡ f y
cond_kept f b x y e = grind arith

cond_line : (b : Bool) (l : Line) (e : Entry) → record { line = cond b l e.line; lots = e.lots } ≡ cond b (record { line = l; lots = e.lots }) e
cond_line b l e = grind arith

module _ (p : Line → Bool) (g : Line → Line) where
  abbrev pub if_passes : Line → Line
  if_passes l = cond (p l) (g l) l

  pub view_where :
      {f : Place → Place} →
      Changes f if_passes →
      (rows : List Account) (j : ℕ) (ls : List Place) →
      view_from rows j (map f ls) ≡ where_so (λ e. p e.line) (with_line g) (view_from rows j ls)
  view_where changes rows j ls =
      view_map changes rows j ls
      ∙ ap (λ (F : Entry → Entry). map F (view_from rows j ls)) (fun_ext (λ e. cond_line (p e.line) (g e.line) e))

  -- lots at their carry are worth what they were, where the carry stays
  pub worth_where : (n : ℕ) → ((l : Line) → (g l).carry ≡ l.carry) → (es : List Entry) → total (carry_worth n) (where_so (λ e. p e.line) (with_line g) es) ≡ total (carry_worth n) es
  worth_where n same es =
      total_map (carry_worth n) (λ e. cond (p e.line) (with_line g e) e) es
      ∙ total_ext (λ e. carry_worth n (cond (p e.line) (with_line g e) e)) (carry_worth n)
      (λ e. cond_kept (carry_worth n) (p e.line) (with_line g e) e (ap (λ (c : ℕ). e.lots n *ℤ pos c) (same e.line))) es
