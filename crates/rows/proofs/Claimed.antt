-- The dollars of a claim within Units are within Units.
use Rattle.std.proofs.Common.{◌≡◌, ℕ, ◌-◌, ◌≤◌, true, ◌&&◌, leb, arith}
use Rattle.std.proofs.lemmas.Bool.{and_parts, leb-true}
use Rattle.terms.specs.Units.{largest_units, largest_price, largest_claim, is_number, is_units, is_lot_cash, is_price, is_day}
use Rattle.terms.specs.Claims.{claim_fits, claim_dollars}
use Rattle.terms.specs.Terms.{series_fits, terms_fit}
use Rattle.terms.specs.declared.claim.Claim.{Claim}
use Rattle.terms.specs.declared.claim.Claim.TheVariants.{Absent, Open, Fixed}
use Rattle.terms.specs.declared.terms.Terms.{Terms}
use Rattle.terms.proofs.Bounds.{share_in}
use Rattle.rows.specs.Fits.{line_fits}
use Rattle.rows.specs.declared.table.Line.{Line}
use Rattle.rows.specs.declared.table.Place.{Place}
use Rattle.rows.specs.declared.table.Place.TheVariants.{Taken}
use Rattle.rows.proofs.Sound.{taken_fits}

pub dollars_in : (close : ℕ) (x : Claim) → claim_fits x ≡ true → close ≤ largest_price → claim_dollars close x ≤ largest_claim
dollars_in close Absent h k = omega arith
dollars_in close (Open units price deadline) h k =
    share_in (close - price) units largest_price largest_units 1000000 largest_claim (omega arith)
    (leb-true units largest_units (and_parts (leb units largest_units) (is_price price && is_day deadline) h).0) (omega arith)
dollars_in close (Fixed dollars) h k = leb-true dollars largest_claim h

pub terms_claim : (t : Terms) → terms_fit t ≡ true → claim_fits t.claim ≡ true
terms_claim t h =
    let claim = claim_fits t.claim in
    let cash = is_lot_cash t.cash && claim in
    let strike = is_units t.strike_lot && cash in
    let units = is_units t.units && strike in
    let all = and_parts (series_fits t.series) (is_number t.stock && units) h in
    let stock = and_parts (is_number t.stock) units all.1 in
    let lot = and_parts (is_units t.units) strike stock.1 in
    let struck = and_parts (is_units t.strike_lot) cash lot.1 in
    (and_parts (is_lot_cash t.cash) claim struck.1).1

pub line_claim : (o : Place) (l : Line) → o ≡ Taken l → line_fits o ≡ true → claim_fits l.terms.claim ≡ true
line_claim o l is h = terms_claim l.terms (taken_fits o l is h)
