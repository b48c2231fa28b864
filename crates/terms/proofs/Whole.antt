-- What a test of the Units definitions tells of every part of a line and of an event.
use Rattle.std.proofs.Common.{◌≡◌, ◌≤◌, true, false, not, ◌&&◌, ◌||◌, ltb, leb}
use Rattle.std.proofs.lemmas.Bool.{and_parts, or_parts, ltb-false, not-false}
use Rattle.terms.specs.Units.{last_level, largest_price, is_day, is_number, is_units, is_lot_cash, is_cash, is_ratio, is_rate}
use Rattle.terms.specs.Events.{event_outside}
use Rattle.terms.specs.Claims.{claim_fits}
use Rattle.terms.specs.Terms.{series_fits, terms_fit}
use Rattle.terms.specs.declared.terms.Terms.{Terms}
use Rattle.terms.specs.declared.event.Event.{Event}
use Rattle.terms.specs.Tests.{Fit, Inside, terms_parts, event_parts}

pub record WholeFit (t : Terms) : Type 0 where
  pub fit : Fit t
  pub expiry : is_day t.series.expiry ≡ true
  pub strike : leb t.series.strike largest_price ≡ true
  pub stock : is_number t.stock ≡ true
  pub strike_lot : is_units t.strike_lot ≡ true
  pub claim : claim_fits t.claim ≡ true

pub all_terms_parts : (t : Terms) → terms_fit t ≡ true → WholeFit t
all_terms_parts t h =
    let claim = claim_fits t.claim in
    let cash = is_lot_cash t.cash && claim in
    let strike = is_units t.strike_lot && cash in
    let units = is_units t.units && strike in
    let all = and_parts (series_fits t.series) (is_number t.stock && units) h in
    let stock = and_parts (is_number t.stock) units all.1 in
    let lot = and_parts (is_units t.units) strike stock.1 in
    let struck = and_parts (is_units t.strike_lot) cash lot.1 in
    let level = and_parts (leb t.series.level last_level) (is_day t.series.expiry && leb t.series.strike largest_price) all.0 in
    let ends = and_parts (is_day t.series.expiry) (leb t.series.strike largest_price) level.1 in
    record {
      fit = terms_parts t h;
      expiry = ends.0;
      strike = ends.1;
      stock = stock.0;
      strike_lot = struck.0;
      claim = (and_parts (is_lot_cash t.cash) claim struck.1).1;
    }

pub record WholeInside (e : Event) : Type 0 where
  pub inside : Inside e
  pub price : e.rights.price ≤ largest_price
  pub deadline : is_day e.rights.deadline ≡ true

pub all_event_parts : (e : Event) → event_outside e ≡ false → WholeInside e
all_event_parts e h =
    let deadline = ltb largest_price e.rights.price || not (is_day e.rights.deadline) in
    let rate = not (is_rate e.rights.rate) || deadline in
    let ratio = not (is_ratio e.ratio) || rate in
    let cash = not (is_cash e.cash) || ratio in
    let all = or_parts (not (is_number e.stock)) cash h in
    let paid = or_parts (not (is_cash e.cash)) ratio all.1 in
    let shared = or_parts (not (is_ratio e.ratio)) rate paid.1 in
    let offered = or_parts (not (is_rate e.rights.rate)) deadline shared.1 in
    let asked = or_parts (ltb largest_price e.rights.price) (not (is_day e.rights.deadline)) offered.1 in
    record {
      inside = event_parts e h;
      price = ltb-false largest_price e.rights.price asked.0;
      deadline = not-false (is_day e.rights.deadline) asked.1;
    }
