-- What a test of the Units definitions tells, as facts about numbers.
use Rattle.std.specs.Prelude.{◌≡◌, ℕ, ◌≤◌, true, false}
use Rattle.std.proofs.Common.{arith}
use Rattle.std.proofs.lemmas.Bool.Decides.{nat_tests}
use Rattle.terms.specs.Units.{between, last_level, largest_units, largest_lot_cash, largest_price, largest_cash, largest_ratio, largest_rate}
use Rattle.terms.specs.Events.{event_outside}
use Rattle.terms.specs.Terms.{terms_fit}
use Rattle.terms.specs.Family.{Answers, priced}
use Rattle.terms.specs.declared.lot.Lot.{Lot}
use Rattle.terms.specs.declared.terms.Terms.{Terms}
use Rattle.terms.specs.declared.event.Event.{Event}

pub between_parts : (low high n : ℕ) → between low high n ≡ true → (low ≤ n) × (n ≤ high)
between_parts low high n h = grind (arith, nat_tests)

pub record Priced (a : Answers) (l : Lot) (price : ℕ) : Type 0 where
  pub fits : a.fits l.right l.strike ≡ true
  pub units : l.units ≤ largest_units
  pub strike_lot : l.strike_lot ≤ largest_units
  pub cash : l.cash ≤ largest_lot_cash
  pub price_most : price ≤ largest_price

pub priced_parts : (a : Answers) (l : Lot) (price : ℕ) → priced a l price ≡ true → Priced a l price
priced_parts a l price h = grind (arith, nat_tests)

pub record Fit (t : Terms) : Type 0 where
  pub level : t.series.level ≤ last_level
  pub units_least : 1 ≤ t.units
  pub units_most : t.units ≤ largest_units
  pub cash : t.cash ≤ largest_lot_cash

pub terms_parts : (t : Terms) → terms_fit t ≡ true → Fit t
terms_parts t h = grind (arith, nat_tests)

pub record Inside (e : Event) : Type 0 where
  pub cash : e.cash ≤ largest_cash
  pub ratio : e.ratio ≤ largest_ratio
  pub rate : e.rights.rate ≤ largest_rate

pub event_parts : (e : Event) → event_outside e ≡ false → Inside e
event_parts e h = grind (arith, nat_tests)
