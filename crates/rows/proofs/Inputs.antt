-- What it tells that the numbers of a call are within their units.
use Rattle.std.proofs.Common.{◌≡◌, ℕ, ◌≤◌, true, false, not, ◌||◌, [], ◌∷◌, sym, arith}
use Rattle.std.proofs.lemmas.Bool.{or_parts}
use Rattle.std.proofs.lemmas.Bool.Decides.{nat_tests}
use Rattle.terms.specs.Units.{most_lots, largest_price, is_day, is_number, is_units, is_price}
use Rattle.terms.specs.Refusals.{first}
use Rattle.terms.specs.Events.{bad_prefix, event_outside, ill_formed, too_late, event_refusals}
use Rattle.terms.specs.Family.{Answers}
use Rattle.terms.specs.declared.code.Name.{Name}
use Rattle.terms.specs.declared.event.Event.{Event}
use Rattle.terms.proofs.Refusals.{passed}
use Rattle.rows.specs.Listing.{listing_outside}
use Rattle.rows.specs.Trade.{trade_outside}
use Rattle.rows.specs.Mark.{mark_outside}
use Rattle.rows.specs.Fixing.{fixing_outside}
use Rattle.rows.specs.Expiry.{expiry_outside}

pub trade_inside :
    (day : ℕ) (n : Name) (buyer seller price lots : ℕ) →
    trade_outside day n buyer seller price lots ≡ false →
    (is_price price ≡ true) × (lots ≤ most_lots)
trade_inside day n buyer seller price lots h = (grind (arith, nat_tests), grind (arith, nat_tests))

pub mark_inside : (day : ℕ) (n : Name) (price : ℕ) → mark_outside day n price ≡ false → is_price price ≡ true
mark_inside day n price h = grind (arith, nat_tests)

pub expiry_inside : (day : ℕ) (n : Name) (price close : ℕ) → expiry_outside day n price close ≡ false → (is_price price ≡ true) × (close ≤ largest_price)
expiry_inside day n price close h = (grind (arith, nat_tests), grind (arith, nat_tests))

pub fixing_inside : (day stock deadline close : ℕ) → fixing_outside day stock deadline close ≡ false → close ≤ largest_price
fixing_inside day stock deadline close h = grind (arith, nat_tests)

pub record Listable (n : Name) (stock units price : ℕ) : Type 0 where
  pub expiry : is_day n.expiry ≡ true
  pub stock_in : is_number stock ≡ true
  pub units_in : is_units units ≡ true
  pub price_in : is_price price ≡ true

pub listing_inside :
    (a : Answers) (day : ℕ) (n : Name) (stock units price : ℕ) →
    listing_outside a day n stock units price ≡ false →
    Listable n stock units price
listing_inside a day n stock units price h =
    record {
      expiry = grind (arith, nat_tests);
      stock_in = grind (arith, nat_tests);
      units_in = grind (arith, nat_tests);
      price_in = grind (arith, nat_tests);
    }

-- an event that is judged is within its units and well-formed
pub event_judged : (day : ℕ) (e : Event) → 0 ≡ first (event_refusals day e) → (event_outside e ≡ false) × (ill_formed e ≡ false)
event_judged day e h =
    let late = (6, too_late day e) ∷ [] in
    let formed = (4, ill_formed e) ∷ late in
    let outside = not (is_day day) || event_outside e in
    let p = passed 1 (bad_prefix e) ((2, outside) ∷ formed) (omega arith) (sym h) in
    let q = passed 2 outside formed (omega arith) p.1 in
    let r = passed 4 (ill_formed e) late (omega arith) q.1 in
    ((or_parts (not (is_day day)) (event_outside e) q.0).1, r.0)
