-- What a company does: the event that adjusts the lines of its stock.
use Rattle.std.specs.Prelude.{ℕ, Bool, not, ◌&&◌, ◌||◌, List, [], ◌∷◌, ◌==◌, nat_lt}
use Rattle.terms.specs.Units.{one, largest_price, is_day, is_number, is_cash, is_ratio, is_rate}
use Rattle.terms.specs.Names.{is_prefix, no_prefix}
use Rattle.terms.specs.declared.event.Rights.{Rights}
use Rattle.terms.specs.declared.event.Successor.{Successor}
use Rattle.terms.specs.declared.event.Event.{Event}

-- in the optional parts of an event 0 means absent
abbrev pub absent : ℕ → Bool
absent n = n == 0

abbrev pub no_rights : Rights → Bool
no_rights r = absent r.rate && (absent r.price && absent r.deadline)

abbrev pub whole_rights : Rights → Bool
whole_rights r = not (absent r.rate) && (not (absent r.price) && not (absent r.deadline))

abbrev pub no_successor : Successor → Bool
no_successor s = absent s.stock && no_prefix s.prefix

abbrev pub whole_successor : Successor → Bool
whole_successor s = not (absent s.stock) && not (no_prefix s.prefix)

-- neither shares nor rights nor a new stock
abbrev pub shares_stay : Event → Bool
shares_stay e = e.ratio == one && (no_rights e.rights && no_successor e.successor)

abbrev pub cash_alone : Event → Bool
cash_alone e = not (e.cash == 0) && shares_stay e

abbrev pub no_effect : Event → Bool
no_effect e = e.cash == 0 && shares_stay e

-- a prefix that is given, and is none
abbrev pub bad_prefix : Event → Bool
bad_prefix e = not (no_prefix e.successor.prefix) && not (is_prefix e.successor.prefix)

-- a number outside its unit; an absent part is inside
abbrev pub event_outside : Event → Bool
event_outside e =
    not (is_number e.stock)
    || (not (is_cash e.cash)
    || (not (is_ratio e.ratio)
    || (not (is_rate e.rights.rate)
    || (nat_lt largest_price e.rights.price
    || not (is_day e.rights.deadline)))))

-- without effect, in part, or with its own stock as the new one
abbrev pub ill_formed : Event → Bool
ill_formed e =
    no_effect e
    || (not (no_rights e.rights || whole_rights e.rights)
    || (not (no_successor e.successor || whole_successor e.successor)
    || e.successor.stock == e.stock))

-- the deadline of the rights lies before the day
abbrev pub too_late : ℕ → Event → Bool
too_late day e = not (absent e.rights.deadline) && nat_lt e.rights.deadline day

abbrev pub event_refusals : ℕ → Event → List (ℕ × Bool)
event_refusals day e =
    (1, bad_prefix e)
    ∷ (2, not (is_day day) || event_outside e)
    ∷ (4, ill_formed e)
    ∷ (6, too_late day e)
    ∷ []
