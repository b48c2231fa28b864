-- Lines that an adjustment or a fixing has changed are within their limits.
use Rattle.std.proofs.Common.{◌≡◌, ℕ, ◌≤◌, Bool, true, false, ◌&&◌, ltb, leb, List, [], ◌∷◌, map, refl}
use Rattle.std.proofs.lemmas.Bool.{and_parts, and_from, or_parts, le-leb, both_ways, cond_both}
use Rattle.lookup.specs.Seek.{any_of}
use Rattle.sweep.specs.Sweep.{all_of}
use Rattle.terms.specs.Units.{last_level, largest_price, largest_number, largest_claim, largest_value, is_number, is_units, is_lot_cash, is_claim}
use Rattle.terms.specs.Events.{event_outside, ill_formed}
use Rattle.terms.specs.Claims.{claim_fits, claim_dollars}
use Rattle.terms.specs.Terms.{series_fits, terms_fit}
use Rattle.terms.specs.Family.{Answers, Law}
use Rattle.terms.specs.Adjust.{takes_in, next_level, next_terms, lot_misfits}
use Rattle.terms.specs.declared.event.Event.{Event}
use Rattle.terms.specs.declared.terms.Terms.{Terms}
use Rattle.terms.proofs.Within.{next_fit, next_numbered}
use Rattle.rows.specs.Fits.{line_fits}
use Rattle.rows.specs.Adjustment.{level_passes, lot_leaves, adjusted_line, place_adjusted}
use Rattle.rows.specs.Fixing.{fixes, fixed_terms, fixed_line, place_fixed}
use Rattle.rows.specs.declared.table.Line.{Line}
use Rattle.rows.specs.declared.table.Place.{Place}
use Rattle.rows.specs.declared.table.Place.TheVariants.{Free, Taken}
use Rattle.rows.proofs.Claimed.{dollars_in}

-- a test that does not fail where its first part passes
second : (x y : Bool) → x ≡ true → x && y ≡ false → y ≡ false
second true y e h = h
second false y e h = absurd (both_ways false refl e)

-- a line with the same carry
with_terms : (l : Line) (t : Terms) → line_fits (Taken l) ≡ true → terms_fit t ≡ true → line_fits (Taken (record { terms = t; carry = l.carry })) ≡ true
with_terms l t fit h =
    and_from (terms_fit t) (leb l.carry largest_value) h (and_parts (terms_fit l.terms) (leb l.carry largest_value) fit).1

module _ (a : Answers) (law : Law a) (day : ℕ) (e : Event) (well : ill_formed e ≡ false) (inside : event_outside e ≡ false) (numbered : e.successor.stock ≤ largest_number) where
  place_in : (o : Place) → line_fits o ≡ true → level_passes a day e o ≡ false → lot_leaves a day e o ≡ false → line_fits (place_adjusted a day e o) ≡ true
  place_in Free fit level lot = refl
  place_in (Taken l) fit level lot =
      cond_both (takes_in day e l.terms) (adjusted_line a day e l) l (λ (x : Line). line_fits (Taken x) ≡ true)
      (λ in_it. with_terms l (next_terms a e l.terms) fit
      (next_fit e well inside a law l.terms (and_parts (terms_fit l.terms) (leb l.carry largest_value) fit).0
      (next_numbered e l.terms (and_parts (terms_fit l.terms) (leb l.carry largest_value) fit).0 numbered)
      (second (takes_in day e l.terms) (ltb last_level (next_level a e l.terms)) in_it level)
      (second (takes_in day e l.terms) (lot_misfits a (next_terms a e l.terms)) in_it lot)))
      (λ out. fit)

  pub adjusted_fit : (ls : List Place) → all_of line_fits ls ≡ true → any_of (level_passes a day e) ls ≡ false → any_of (lot_leaves a day e) ls ≡ false → all_of line_fits (map (place_adjusted a day e) ls) ≡ true
  adjusted_fit [] fit level lot = refl
  adjusted_fit (o ∷ ls) fit level lot =
      let f = and_parts (line_fits o) (all_of line_fits ls) fit in
      let p = or_parts (level_passes a day e o) (any_of (level_passes a day e) ls) level in
      let q = or_parts (lot_leaves a day e o) (any_of (lot_leaves a day e) ls) lot in
      and_from (line_fits (place_adjusted a day e o)) (all_of line_fits (map (place_adjusted a day e) ls))
      (place_in o f.0 p.0 q.0) (adjusted_fit ls f.1 p.1 q.1)

-- fixed terms differ in the claim alone
fixed_in : (close : ℕ) → close ≤ largest_price → (t : Terms) → terms_fit t ≡ true → terms_fit (fixed_terms close t) ≡ true
fixed_in close most t h =
    let claim = claim_fits t.claim in
    let cash = is_lot_cash t.cash && claim in
    let strike = is_units t.strike_lot && cash in
    let units = is_units t.units && strike in
    let dollars = is_claim (claim_dollars close t.claim) in
    let all = and_parts (series_fits t.series) (is_number t.stock && units) h in
    let stock = and_parts (is_number t.stock) units all.1 in
    let lot = and_parts (is_units t.units) strike stock.1 in
    let struck = and_parts (is_units t.strike_lot) cash lot.1 in
    let kept = and_parts (is_lot_cash t.cash) claim struck.1 in
    and_from (series_fits t.series) (is_number t.stock && (is_units t.units && (is_units t.strike_lot && (is_lot_cash t.cash && dollars)))) all.0
    (and_from (is_number t.stock) (is_units t.units && (is_units t.strike_lot && (is_lot_cash t.cash && dollars))) stock.0
    (and_from (is_units t.units) (is_units t.strike_lot && (is_lot_cash t.cash && dollars)) lot.0
    (and_from (is_units t.strike_lot) (is_lot_cash t.cash && dollars) struck.0
    (and_from (is_lot_cash t.cash) dollars kept.0 (le-leb (claim_dollars close t.claim) largest_claim (dollars_in close t.claim kept.1 most))))))

place_fixed_in : (stock deadline close : ℕ) → close ≤ largest_price → (o : Place) → line_fits o ≡ true → line_fits (place_fixed stock deadline close o) ≡ true
place_fixed_in stock deadline close most Free fit = refl
place_fixed_in stock deadline close most (Taken l) fit =
    cond_both (fixes stock deadline l.terms) (fixed_line close l) l (λ (x : Line). line_fits (Taken x) ≡ true)
    (λ due. with_terms l (fixed_terms close l.terms) fit (fixed_in close most l.terms (and_parts (terms_fit l.terms) (leb l.carry largest_value) fit).0))
    (λ not_due. fit)

pub fixed_fit : (stock deadline close : ℕ) → close ≤ largest_price → (ls : List Place) → all_of line_fits ls ≡ true → all_of line_fits (map (place_fixed stock deadline close) ls) ≡ true
fixed_fit stock deadline close most [] fit = refl
fixed_fit stock deadline close most (o ∷ ls) fit =
    let f = and_parts (line_fits o) (all_of line_fits ls) fit in
    and_from (line_fits (place_fixed stock deadline close o)) (all_of line_fits (map (place_fixed stock deadline close) ls))
    (place_fixed_in stock deadline close most o f.0) (fixed_fit stock deadline close most ls f.1)
