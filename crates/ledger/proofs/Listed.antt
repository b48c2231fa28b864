-- A listed line has the prefix of its call, unless the family cannot read its standard letter: then
-- no line has a name, and so there is one at most.
use Rattle.std.proofs.Common.{◌≡◌, ℕ, suc, true, false, ◌⊎◌, List, [], ◌∷◌, map, get_or, set, Some, None, Option, sym, refl, ap, ◌∙◌, subst, ⊎_elim, arith}
use Rattle.std.proofs.lemmas.Bool.{and_parts, cond-true}
use Rattle.lookup.specs.Seek.{any_of}
use Rattle.terms.specs.Names.{is_prefix, right_of}
use Rattle.terms.specs.Family.{Answers}
use Rattle.terms.specs.Reading.{code_level, right_fits, name_fits, series_with}
use Rattle.terms.specs.declared.right.Right.{Right}
use Rattle.terms.specs.declared.code.Prefix.{Prefix}
use Rattle.terms.specs.declared.code.Name.{Name}
use Rattle.rows.specs.Rows.{holds, no_series}
use Rattle.rows.specs.Names.{series_or, series_of, is_letter, is_standard}
use Rattle.rows.specs.Listing.{clashes}
use Rattle.rows.specs.declared.table.Line.{Line}
use Rattle.rows.specs.declared.table.Place.{Place}
use Rattle.rows.specs.declared.table.Place.TheVariants.{Free, Taken}
use Rattle.ledger.proofs.At.{set_at}
use Rattle.ledger.proofs.Views.{not_both, not_held}
use Rattle.ledger.proofs.Mapped.{Changes, place_map}

-- the level of a letter, where there is one, and of the standard one
abbrev level_by : Answers → Option ℕ → Option ℕ
level_by a None = None
level_by a (Some c) = a.level c

abbrev standard_level : Answers → Option ℕ
standard_level a = level_by a (a.letter 0)

-- where the standard letter cannot be read, no line has a name
abbrev pub Nameless : Answers → List Place → Type 0
Nameless a ls = standard_level a ≡ None → (j : ℕ) (l : Line) → get_or ls j Free ≡ Taken l → l.terms.series ≡ no_series

letter_level : (a : Answers) (o : Option ℕ) (c : ℕ) → is_letter o c ≡ true → a.level c ≡ level_by a o
letter_level a o c h = grind arith

prefix_by : (a : Answers) (n : Name) (o : Option ℕ) (r : Option Right) → right_fits a r n.strike ≡ true → (o ≡ None) ⊎ ((series_or (series_with o r n)).prefix ≡ n.code.prefix)
prefix_by a n o r f = grind arith

-- where no place is taken, nothing clashes
none_clashes : (prefix : Prefix) (stock : ℕ) (ls : List Place) → ((j : ℕ) (l : Line) → get_or ls j Free ≡ Taken l → ⊥) → any_of (clashes prefix stock) ls ≡ false
none_clashes prefix stock [] h = refl
none_clashes prefix stock (Free ∷ ls) h = none_clashes prefix stock ls (λ j l. h (suc j) l)
none_clashes prefix stock (Taken l ∷ ls) h = absurd (h 0 l refl)

module _ (a : Answers) (n : Name) (standard : is_standard a n.code ≡ true) where
  level_is : code_level a n.code ≡ standard_level a
  level_is =
      let q = and_parts (is_prefix n.code.prefix) (is_letter (a.letter 0) n.code.letter) standard in
      cc (cond-true (is_prefix n.code.prefix) (a.level n.code.letter) None q.0, letter_level a (a.letter 0) n.code.letter q.1)

  pub nameless : standard_level a ≡ None → series_of a n ≡ no_series
  nameless e = ap (λ (o : Option ℕ). series_or (series_with o (right_of n.right) n)) (level_is ∙ e)

  module _ (stock : ℕ) (ls : List Place) (fits : name_fits a n ≡ true)
      (new : any_of (holds (Some (series_of a n))) ls ≡ false)
      (clear : any_of (clashes n.code.prefix stock) ls ≡ false)
      (rest : Nameless a ls) where
    pub no_clash : any_of (clashes (series_of a n).prefix stock) ls ≡ false
    no_clash =
        ⊎_elim
        (λ e. let none : standard_level a ≡ None = sym level_is ∙ e in
        none_clashes (series_of a n).prefix stock ls
        (λ j l t. not_held (series_of a n) ls j l new t (rest none j l t ∙ sym (nameless none))))
        (λ e. subst (λ (p : Prefix). any_of (clashes p stock) ls ≡ false) (sym e) clear)
        (prefix_by a n (code_level a n.code) (right_of n.right) fits)

-- lines without a name stay so where one line is written or one place made free
pub nameless_set : (a : Answers) (ls : List Place) (p : ℕ) (x : Place) → ((l : Line) → x ≡ Taken l → standard_level a ≡ None → l.terms.series ≡ no_series) → Nameless a ls → Nameless a (set ls p x)
nameless_set a ls p x new rest e j l =
    set_at (λ (y : Place). y ≡ Taken l → l.terms.series ≡ no_series) Free ls p x (λ t. new l t e) j (rest e j l)

-- and where each line is changed, if that leaves a line without a name so
module _ {f : Place → Place} {g : Line → Line} (changes : Changes f g) (keeps : (l : Line) → l.terms.series ≡ no_series → (g l).terms.series ≡ no_series) where
  line_kept : (x : Place) (m : Line) → ((l : Line) → x ≡ Taken l → l.terms.series ≡ no_series) → f x ≡ Taken m → m.terms.series ≡ no_series
  line_kept Free m rest e = not_both m (sym changes.free ∙ e)
  line_kept (Taken l) m rest e = cc (changes.taken l, keeps l (rest l refl))

  pub nameless_map : (a : Answers) (ls : List Place) → Nameless a ls → Nameless a (map f ls)
  nameless_map a ls rest e j m q = line_kept (get_or ls j Free) m (rest e j) (sym (place_map changes ls j) ∙ q)
