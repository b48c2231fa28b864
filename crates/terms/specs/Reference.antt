-- The reference price: what a price becomes on the day of an event.
use Rattle.std.specs.Prelude.{ℕ, ◌+◌, ◌-◌, ◌*◌, ◌/◌, Bool, not, ◌&&◌, ◌||◌, List, [], ◌∷◌, nat_le}
use Rattle.terms.specs.Units.{is_price, is_cash, is_ratio}

-- a quotient to the nearest whole number, halves up
abbrev pub nearest : ℕ → ℕ → ℕ
nearest n d = (2 * n + d) / (2 * d)

-- a price without the cash, in the units in which it is divided by the ratio
abbrev pub without_cash : ℕ → ℕ → ℕ
without_cash price cash = (price * 10000 - cash) * 100000

abbrev pub reference : ℕ → ℕ → ℕ → ℕ
reference price cash ratio = nearest (without_cash price cash) ratio

-- the price is not above the cash, or its reference price is no price
abbrev pub no_reference : ℕ → ℕ → ℕ → Bool
no_reference price cash ratio = nat_le (price * 10000) cash || not (is_price (reference price cash ratio))

abbrev pub reference_refusals : ℕ → ℕ → ℕ → List (ℕ × Bool)
reference_refusals price cash ratio =
    (2, not (is_price price && (is_cash cash && is_ratio ratio)))
    ∷ (7, no_reference price cash ratio)
    ∷ []
