-- The number that a call is refused with is the smallest that fits.
use Rattle.std.proofs.Common.{◌≡◌, ℕ, true, sym, refl, subst}
use Rattle.terms.specs.Refusals.{rise_from, Smallest}
use Rattle.terms.specs.Family.{Answers}
use Rattle.terms.proofs.Refusals.{first_smallest}
use Rattle.rows.specs.Calls.{refusals, refusal}
use Rattle.rows.specs.declared.call.Call.{Call}
use Rattle.rows.specs.declared.call.Call.TheVariants.{Opening, Listing, Trade, Mark, Adjustment, Fixing, Expiry}
use Rattle.rows.specs.declared.table.Table.{Table}

-- each list of numbers rises
refusals_rise : (a : Answers) (t : Table) (c : Call) → rise_from 0 (refusals a t c) ≡ true
refusals_rise a t (Opening day account) = refl
refusals_rise a t (Listing day name stock units price) = refl
refusals_rise a t (Trade day name buyer seller price lots) = refl
refusals_rise a t (Mark day name price) = refl
refusals_rise a t (Adjustment day event) = refl
refusals_rise a t (Fixing day stock deadline close) = refl
refusals_rise a t (Expiry day name price close) = refl

pub call_smallest : (a : Answers) (t : Table) (c : Call) (n : ℕ) → n ≡ refusal a t c → Smallest n (refusals a t c)
call_smallest a t c n e = subst (λ (m : ℕ). Smallest m (refusals a t c)) (sym e) (first_smallest (refusals a t c) (refusals_rise a t c))
