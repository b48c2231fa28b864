-- What an event makes of a line.
use Rattle.std.specs.Prelude.{ℕ, ◌+◌, ◌*◌, ◌/◌, Bool, cond, not, ◌&&◌, ◌||◌, List, [], ◌∷◌, ◌==◌, nat_lt}
use Rattle.terms.specs.Units.{last_level, is_day, is_lot_cash, between}
use Rattle.terms.specs.Family.{Answers}
use Rattle.terms.specs.Events.{no_rights, no_successor, bad_prefix, event_outside, ill_formed, too_late}
use Rattle.terms.specs.Claims.{no_claim, open_claim}
use Rattle.terms.specs.Terms.{terms_fit}
use Rattle.terms.specs.declared.code.Prefix.{Prefix}
use Rattle.terms.specs.declared.code.Series.{Series}
use Rattle.terms.specs.declared.claim.Claim.{Claim}
use Rattle.terms.specs.declared.claim.Claim.TheVariants.{Open}
use Rattle.terms.specs.declared.event.Event.{Event}
use Rattle.terms.specs.declared.terms.Terms.{Terms}
use Rattle.terms.specs.declared.adjust.Adjusted.{Adjusted}

abbrev pub next_units : Event → ℕ → ℕ
next_units e units = units * e.ratio / 1000000000

-- the dollars paid on a lot, by the units that it had
abbrev pub cash_amount : Event → ℕ → ℕ
cash_amount e units = units * e.cash / 10000000000

-- the part of it that is booked to the buyer, and the part kept in the lot
abbrev pub booked_part : Answers → Event → Terms → ℕ
booked_part a e t = a.booked (cash_amount e t.units)

abbrev pub next_cash : Answers → Event → Terms → ℕ
next_cash a e t = t.cash + a.kept (cash_amount e t.units)

-- rights open a claim by the units that the lot had; without rights the claim stays
abbrev pub next_claim : Event → Terms → Claim
next_claim e t = cond (no_rights e.rights) t.claim (Open (t.units * e.rights.rate / 1000000000) e.rights.price e.rights.deadline)

abbrev pub next_level : Answers → Event → Terms → ℕ
next_level a e t = cond (a.moves e) (t.series.level + 1) t.series.level

abbrev pub next_prefix : Event → Terms → Prefix
next_prefix e t = cond (no_successor e.successor) t.series.prefix e.successor.prefix

abbrev pub next_stock : Event → Terms → ℕ
next_stock e t = cond (no_successor e.successor) t.stock e.successor.stock

abbrev pub next_series : Answers → Event → Terms → Series
next_series a e t =
    record {
      prefix = next_prefix e t;
      level = next_level a e t;
      expiry = t.series.expiry;
      right = t.series.right;
      strike = t.series.strike;
    }

abbrev pub next_terms : Answers → Event → Terms → Terms
next_terms a e t =
    record {
      series = next_series a e t;
      stock = next_stock e t;
      units = next_units e t.units;
      strike_lot = t.strike_lot;
      cash = next_cash a e t;
      claim = next_claim e t;
    }

abbrev pub adjusted : Answers → Event → Terms → Adjusted
adjusted a e t = record { terms = next_terms a e t; booked = booked_part a e t }

-- no units, more than the largest lot, or too much cash
abbrev pub lot_misfits : Answers → Terms → Bool
lot_misfits a t = not (between 1 a.largest t.units) || not (is_lot_cash t.cash)

-- rights meet a claim, or a new stock meets an open one
abbrev pub claim_in_the_way : Event → Terms → Bool
claim_in_the_way e t =
    (not (no_rights e.rights) && not (no_claim t.claim))
    || (not (no_successor e.successor) && open_claim t.claim)

-- an event takes in the lines of its stock that expire after the day
abbrev pub takes_in : ℕ → Event → Terms → Bool
takes_in day e t = t.stock == e.stock && nat_lt day t.series.expiry

-- an event on a day, and how a line by itself stands in its way
abbrev pub line_refusals : Answers → ℕ → Event → Terms → List (ℕ × Bool)
line_refusals a day e t =
    (1, bad_prefix e)
    ∷ (2, not (is_day day) || (event_outside e || not (terms_fit t)))
    ∷ (4, ill_formed e)
    ∷ (6, too_late day e)
    ∷ (12, not (takes_in day e t))
    ∷ (21, nat_lt last_level (next_level a e t))
    ∷ (22, lot_misfits a (next_terms a e t))
    ∷ (23, claim_in_the_way e t)
    ∷ []
