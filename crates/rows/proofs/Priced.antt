-- A line that is found by a name that fits its family can be valued.
use Rattle.std.proofs.Common.{◌≡◌, ℕ, ◌<◌, Bool, true, false, cond, not, ◌&&◌, eqb, leb, List, length, get_or, is_some, Some, None, Option, sym, refl, ap, ◌∙◌, arith}
use Rattle.std.proofs.lemmas.Bool.{and_parts, and_from, le-leb, eqb-true, not-false, both_ways}
use Rattle.lookup.specs.Seek.{sought, FirstAt}
use Rattle.lookup.proofs.Seek.{sought_first}
use Rattle.terms.specs.Units.{is_day, is_number, is_units, is_price, is_lot_cash, last_level, largest_price, largest_value}
use Rattle.terms.specs.Names.{is_prefix, right_of, right_number}
use Rattle.terms.specs.Claims.{claim_fits}
use Rattle.terms.specs.Terms.{series_fits, terms_fit, lot_of}
use Rattle.terms.specs.Family.{Answers, Law, lot_fits, priced}
use Rattle.terms.specs.Reading.{code_level, right_fits, name_fits, series_with}
use Rattle.terms.specs.declared.right.Right.{Right}
use Rattle.terms.specs.declared.right.Right.TheVariants.{Without, Call, Put}
use Rattle.terms.specs.declared.code.Name.{Name}
use Rattle.terms.specs.declared.code.Series.{Series}
use Rattle.terms.specs.declared.terms.Terms.{Terms}
use Rattle.sweep.specs.Sweep.{all_of}
use Rattle.sweep.proofs.Every.{all_at}
use Rattle.rows.specs.Rows.{same_prefix, holds, line_or}
use Rattle.rows.specs.Fits.{line_fits}
use Rattle.rows.specs.Names.{malformed, misfit, series_or, series_of, is_letter, is_standard}
use Rattle.rows.specs.declared.table.Line.{Line}
use Rattle.rows.specs.declared.table.Place.{Place}
use Rattle.rows.specs.declared.table.Place.TheVariants.{Free, Taken}
use Rattle.terms.specs.declared.lot.Lot.{Lot}
use Rattle.rows.specs.Listing.{listed_terms}

same_right : (r s : Right) → right_number r ≡ right_number s → r ≡ s
same_right Without Without h = refl
same_right Without Call h = absurd (omega arith)
same_right Without Put h = absurd (omega arith)
same_right Call Without h = absurd (omega arith)
same_right Call Call h = refl
same_right Call Put h = absurd (omega arith)
same_right Put Without h = absurd (omega arith)
same_right Put Call h = absurd (omega arith)
same_right Put Put h = refl

-- right and strike of a name that fits
with_fits :
    (a : Answers) (n : Name) (level : Option ℕ) (right : Option Right) →
    is_some level ≡ true →
    right_fits a right n.strike ≡ true →
    a.fits (series_or (series_with level right n)).right (series_or (series_with level right n)).strike ≡ true
with_fits a n None right h k = absurd (both_ways false refl h)
with_fits a n (Some level) None h k = absurd (both_ways false refl k)
with_fits a n (Some level) (Some right) h k = k

pub series_fit :
    (a : Answers) (n : Name) →
    malformed a n ≡ false →
    misfit a n ≡ false →
    a.fits (series_of a n).right (series_of a n).strike ≡ true
series_fit a n h k =
    with_fits a n (code_level a n.code) (right_of n.right) (not-false (is_some (code_level a n.code)) h)
    (not-false (name_fits a n) k)

-- a lot of terms within Units, whose right and strike fit, at a price
pub priced_from :
    (a : Answers) (t : Terms) (price : ℕ) →
    a.fits t.series.right t.series.strike ≡ true →
    terms_fit t ≡ true →
    is_price price ≡ true →
    priced a (lot_of t) price ≡ true
priced_from a t price f h p =
    let claim = claim_fits t.claim in
    let cash = is_lot_cash t.cash && claim in
    let strike = is_units t.strike_lot && cash in
    let units = is_units t.units && strike in
    let all = and_parts (series_fits t.series) (is_number t.stock && units) h in
    let stock = and_parts (is_number t.stock) units all.1 in
    let lot = and_parts (is_units t.units) strike stock.1 in
    let struck = and_parts (is_units t.strike_lot) cash lot.1 in
    let kept = and_parts (is_lot_cash t.cash) claim struck.1 in
    and_from (a.fits t.series.right t.series.strike) (lot_fits (lot_of t) && is_price price) f
    (and_from (lot_fits (lot_of t)) (is_price price)
    (and_from (is_units t.units) (is_units t.strike_lot && is_lot_cash t.cash) lot.0
    (and_from (is_units t.strike_lot) (is_lot_cash t.cash) struck.0 kept.0))
    p)

-- the line in a place that holds a series
place_fits :
    (a : Answers) (k : Series) (o : Place) →
    holds (Some k) o ≡ true →
    a.fits k.right k.strike ≡ true →
    a.fits (line_or o).terms.series.right (line_or o).terms.series.strike ≡ true
place_fits a k Free h f = absurd (both_ways false refl h)
place_fits a k (Taken l) h f =
    let s = l.terms.series in
    let expiry = and_parts (eqb s.expiry k.expiry) (same_prefix s.prefix k.prefix && (eqb s.level k.level && (eqb (right_number s.right) (right_number k.right) && eqb s.strike k.strike))) h in
    let prefix = and_parts (same_prefix s.prefix k.prefix) (eqb s.level k.level && (eqb (right_number s.right) (right_number k.right) && eqb s.strike k.strike)) expiry.1 in
    let level = and_parts (eqb s.level k.level) (eqb (right_number s.right) (right_number k.right) && eqb s.strike k.strike) prefix.1 in
    let right = and_parts (eqb (right_number s.right) (right_number k.right)) (eqb s.strike k.strike) level.1 in
    let r : s.right ≡ k.right = same_right s.right k.right (eqb-true (right_number s.right) (right_number k.right) right.0) in
    let x : s.strike ≡ k.strike = eqb-true s.strike k.strike right.1 in
    ap (λ (v : Right). a.fits v s.strike) r ∙ (ap (a.fits k.right) x ∙ f)

place_terms : (k : Series) (o : Place) → holds (Some k) o ≡ true → line_fits o ≡ true → terms_fit (line_or o).terms ≡ true
place_terms k Free h f = absurd (both_ways false refl h)
place_terms k (Taken l) h f = (and_parts (terms_fit l.terms) (leb l.carry largest_value) f).0

module _ (a : Answers) (n : Name) (lines : List Place) (j : ℕ) (found : Some j ≡ sought (holds (Some (series_of a n))) lines) (fit : all_of line_fits lines ≡ true) where
  first_at : FirstAt (holds (Some (series_of a n))) lines j
  first_at = sought_first (holds (Some (series_of a n))) lines (Some j) found

  pub place_within : j < length lines
  place_within = first_at.within

  -- the line found is within Units
  pub found_fit : terms_fit (line_or (get_or lines j Free)).terms ≡ true
  found_fit =
      place_terms (series_of a n) (get_or lines j Free) (first_at.passes Free) (all_at line_fits lines j Free refl fit)

  pub found_priced :
      (price : ℕ) → malformed a n ≡ false → misfit a n ≡ false → is_price price ≡ true →
      priced a (lot_of (line_or (get_or lines j Free)).terms) price ≡ true
  found_priced price h k p =
      priced_from a (line_or (get_or lines j Free)).terms price
      (place_fits a (series_of a n) (get_or lines j Free) (first_at.passes Free) (series_fit a n h k))
      found_fit p

-- a lot and a line that were read from a place
pub lot_priced :
    (a : Answers) (l : Line) (o : Place) (lot : Lot) (price : ℕ) →
    lot ≡ lot_of l.terms →
    l ≡ line_or o →
    priced a (lot_of (line_or o).terms) price ≡ true →
    priced a lot price ≡ true
lot_priced a l o lot price e f h =
    ap (λ (x : Lot). priced a x price) (e ∙ ap (λ (x : Line). lot_of x.terms) f) ∙ h

-- a place that was found by a series that was read from a name
-- a standard letter is the letter of level 0
letter_found : (a : Answers) → Law a → (o : Option ℕ) (c : ℕ) → a.letter 0 ≡ o → is_letter o c ≡ true → a.level c ≡ Some 0
letter_found a law None c e h = absurd (both_ways false refl h)
letter_found a law (Some x) c e h = ap a.level (sym (eqb-true x c h)) ∙ law.reads 0 x e

pub standard_level : (a : Answers) → Law a → (n : Name) → is_standard a n.code ≡ true → code_level a n.code ≡ Some 0
standard_level a law n h =
    let p = and_parts (is_prefix n.code.prefix) (is_letter (a.letter 0) n.code.letter) h in
    ap (λ (b : Bool). cond b (a.level n.code.letter) None) p.0
    ∙ letter_found a law (a.letter 0) n.code.letter refl p.1

pub standard_formed : (a : Answers) → Law a → (n : Name) → is_standard a n.code ≡ true → malformed a n ≡ false
standard_formed a law n h = ap (λ (o : Option ℕ). not (is_some o)) (standard_level a law n h)

-- the series of a listing is within Units
listed_series :
    (a : Answers) → Law a → (n : Name) (level : Option ℕ) (right : Option Right) →
    level ≡ Some 0 →
    right_fits a right n.strike ≡ true →
    is_day n.expiry ≡ true →
    series_fits (series_or (series_with level right n)) ≡ true
listed_series a law n None right e h d = cc
listed_series a law n (Some x) None e h d = absurd (both_ways false refl h)
listed_series a law n (Some x) (Some right) e h d =
    let z : x ≡ 0 = cc in
    and_from (leb x last_level) (is_day n.expiry && leb n.strike largest_price) (le-leb x last_level (omega arith))
    (and_from (is_day n.expiry) (leb n.strike largest_price) d (le-leb n.strike largest_price (law.strikes right n.strike h)))

pub listed_fit :
    (a : Answers) → Law a → (n : Name) (stock units : ℕ) →
    is_standard a n.code ≡ true →
    misfit a n ≡ false →
    is_day n.expiry ≡ true →
    is_number stock ≡ true →
    is_units units ≡ true →
    terms_fit (listed_terms a n stock units) ≡ true
listed_fit a law n stock units s m d k u =
    and_from (series_fits (series_of a n)) (is_number stock && (is_units units && (is_units units && (is_lot_cash 0 && true))))
    (listed_series a law n (code_level a n.code) (right_of n.right) (standard_level a law n s) (not-false (name_fits a n) m) d)
    (and_from (is_number stock) (is_units units && (is_units units && (is_lot_cash 0 && true))) k
    (and_from (is_units units) (is_units units && (is_lot_cash 0 && true)) u (and_from (is_units units) (is_lot_cash 0 && true) u refl)))
