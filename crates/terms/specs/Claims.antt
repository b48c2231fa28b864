-- The claim of a lot on a subscription right.
use Rattle.std.specs.Prelude.{ℕ, ◌-◌, ◌*◌, ◌/◌, Bool, true, false, ◌&&◌, ◌==◌, nat_le}
use Rattle.terms.specs.Units.{largest_units, is_price, is_day, is_claim}
use Rattle.terms.specs.declared.claim.Claim.{Claim}
use Rattle.terms.specs.declared.claim.Claim.TheVariants.{Absent, Open, Fixed}

-- the shares subscribed, at what the close is above their price, in whole dollars
abbrev pub subscription_dollars : ℕ → ℕ → ℕ → ℕ
subscription_dollars close units price = (close - price) * units / 1000000

-- what a claim is worth when the stock closes at a price, 0 where that is below the subscription price
abbrev pub claim_dollars : ℕ → Claim → ℕ
claim_dollars close Absent = 0
claim_dollars close (Open units price deadline) = subscription_dollars close units price
claim_dollars close (Fixed dollars) = dollars

abbrev pub no_claim : Claim → Bool
no_claim Absent = true
no_claim (Open units price deadline) = false
no_claim (Fixed dollars) = false

abbrev pub open_claim : Claim → Bool
open_claim Absent = false
open_claim (Open units price deadline) = true
open_claim (Fixed dollars) = false

-- a claim may be on no units at all
abbrev pub claim_fits : Claim → Bool
claim_fits Absent = true
claim_fits (Open units price deadline) = nat_le units largest_units && (is_price price && is_day deadline)
claim_fits (Fixed dollars) = is_claim dollars

-- open with a given payment deadline
abbrev pub awaits : ℕ → Claim → Bool
awaits deadline Absent = false
awaits deadline (Open units price due) = due == deadline
awaits deadline (Fixed dollars) = false

-- open with a deadline that is not later than the expiry: it should have been fixed
abbrev pub unfixed : ℕ → Claim → Bool
unfixed expiry Absent = false
unfixed expiry (Open units price due) = nat_le due expiry
unfixed expiry (Fixed dollars) = false
