-- What an adjustment leaves is within Units.
use Rattle.std.proofs.Common.{◌≡◌, ◌≤◌, true, false, ltb, arith}
use Rattle.std.proofs.lemmas.Bool.Decides.{nat_tests}
use Rattle.terms.specs.Units.{last_level, largest_units, largest_rate, largest_number, is_number, is_units, is_lot_cash}
use Rattle.terms.specs.Events.{event_outside, ill_formed}
use Rattle.terms.specs.Claims.{claim_fits}
use Rattle.terms.specs.Terms.{series_fits, terms_fit}
use Rattle.terms.specs.Family.{Answers, Law}
use Rattle.terms.specs.Adjust.{next_claim, next_level, next_series, next_stock, next_terms, lot_misfits}
use Rattle.terms.specs.declared.event.Event.{Event}
use Rattle.terms.specs.declared.terms.Terms.{Terms}
use Rattle.terms.proofs.Bounds.{share_in}

-- terms whose parts fit
terms_from :
    (t : Terms) →
    series_fits t.series ≡ true →
    is_number t.stock ≡ true →
    is_units t.units ≡ true →
    is_units t.strike_lot ≡ true →
    is_lot_cash t.cash ≡ true →
    claim_fits t.claim ≡ true →
    terms_fit t ≡ true
terms_from t series stock units strike_lot cash claim = grind (arith, nat_tests)

series_in :
    (a : Answers) (e : Event) (t : Terms) →
    terms_fit t ≡ true →
    ltb last_level (next_level a e t) ≡ false →
    (series_fits (next_series a e t) ≡ true) × (is_units t.strike_lot ≡ true)
series_in a e t fit level = grind (arith, nat_tests)

lot_in :
    (a : Answers) → Law a → (t : Terms) →
    lot_misfits a t ≡ false →
    (is_units t.units ≡ true) × (is_lot_cash t.cash ≡ true)
lot_in a law t lot = let most = law.lot_most in grind (arith, nat_tests)

module _ (e : Event) (well : ill_formed e ≡ false) where
  stock_in : (t : Terms) → terms_fit t ≡ true → next_stock e t ≤ largest_number → is_number (next_stock e t) ≡ true
  stock_in t fit most = grind (arith, nat_tests)

  module _ (inside : event_outside e ≡ false) where
    claim_in : (t : Terms) → terms_fit t ≡ true → claim_fits (next_claim e t) ≡ true
    claim_in t fit = grind (arith, nat_tests, share_in t.units e.rights.rate largest_units largest_rate 1000000000 largest_units)

    -- where level, lot and cash stay in their limits
    pub next_fit :
        (a : Answers) → Law a → (t : Terms) →
        terms_fit t ≡ true →
        next_stock e t ≤ largest_number →
        ltb last_level (next_level a e t) ≡ false →
        lot_misfits a (next_terms a e t) ≡ false →
        terms_fit (next_terms a e t) ≡ true
    next_fit a law t fit numbered level lot =
        let series = series_in a e t fit level in
        let units = lot_in a law (next_terms a e t) lot in
        terms_from (next_terms a e t) series.0 (stock_in t fit numbered) units.0 series.1 units.1 (claim_in t fit)

-- a new stock whose number is within Units
pub next_numbered : (e : Event) (t : Terms) → terms_fit t ≡ true → e.successor.stock ≤ largest_number → next_stock e t ≤ largest_number
next_numbered e t fit most = grind (arith, nat_tests)
