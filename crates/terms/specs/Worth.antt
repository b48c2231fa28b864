-- The worth of a lot is kept: what a lot is worth at a price before an event, and at its reference
-- price after it, differs by no more than rounding makes it.
use Rattle.std.specs.Prelude.{◌≡◌, ℕ, ◌+◌, ◌-◌, ◌*◌, ◌<◌}
use Rattle.terms.specs.Refusals.{first}
use Rattle.terms.specs.Reference.{reference, reference_refusals}
use Rattle.terms.specs.declared.event.Event.{Event}
use Rattle.terms.specs.declared.terms.Terms.{Terms}
use Rattle.terms.specs.declared.adjust.Adjusted.{Adjusted}

abbrev pub distance : ℕ → ℕ → ℕ
distance m n = (m - n) + (n - m)

-- the shares at a price and the cash in the lot, in micros
abbrev pub worth_before : ℕ → Terms → ℕ
worth_before price t = price * t.units + t.cash * 1000000

-- and the cash that was booked to the buyer
abbrev pub worth_after : ℕ → Adjusted → ℕ
worth_after price x = price * x.terms.units + (x.terms.cash + x.booked) * 1000000

-- twice a dollar for the cash, twice the price for the units, and the units for the price
abbrev pub rounding_bound : ℕ → Adjusted → ℕ
rounding_bound price x = 2000000 + 2 * price + x.terms.units + 1

-- at every price that has a reference price
abbrev pub WorthKept : Event → Terms → Adjusted → Type 0
WorthKept e t x =
    (price : ℕ) →
    first (reference_refusals price e.cash e.ratio) ≡ 0 →
    2 * distance (worth_before price t) (worth_after (reference price e.cash e.ratio) x)
    < rounding_bound (reference price e.cash e.ratio) x
