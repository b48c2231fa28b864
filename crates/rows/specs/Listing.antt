-- Listing a line.
use Rattle.std.specs.Prelude.{ℕ, Bool, false, not, ◌&&◌, ◌||◌, List, [], ◌∷◌, ◌==◌, nat_le, nat_lt, slice_set}
use Rattle.lookup.specs.Seek.{any_of}
use Rattle.terms.specs.Units.{is_day, is_number, is_units, is_price}
use Rattle.terms.specs.Terms.{lot_of}
use Rattle.terms.specs.Family.{Answers}
use Rattle.terms.specs.declared.claim.Claim.TheVariants.{Absent}
use Rattle.terms.specs.declared.code.Prefix.{Prefix}
use Rattle.terms.specs.declared.code.Name.{Name}
use Rattle.terms.specs.declared.terms.Terms.{Terms}
use Rattle.rows.specs.Rows.{same_prefix, found_line, found_free, free_place, missing}
use Rattle.rows.specs.Names.{is_standard, misfit, series_of}
use Rattle.rows.specs.declared.table.Line.{Line}
use Rattle.rows.specs.declared.table.Place.{Place}
use Rattle.rows.specs.declared.table.Place.TheVariants.{Free, Taken}
use Rattle.rows.specs.declared.table.Table.{Table}

-- one prefix with two stocks, or one stock with two prefixes
abbrev pub clashes : Prefix → ℕ → Place → Bool
clashes prefix stock Free = false
clashes prefix stock (Taken l) =
    (same_prefix l.terms.series.prefix prefix && not (l.terms.stock == stock))
    || (l.terms.stock == stock && not (same_prefix l.terms.series.prefix prefix))

-- the terms and the line of a listing
abbrev pub listed_terms : Answers → Name → ℕ → ℕ → Terms
listed_terms a n stock units =
    record { series = series_of a n; stock = stock; units = units; strike_lot = units; cash = 0; claim = Absent }

abbrev pub listed : Answers → Name → ℕ → ℕ → ℕ → Line
listed a n stock units price =
    record { terms = listed_terms a n stock units; carry = a.mark (lot_of (listed_terms a n stock units)) price }

-- a number of the listing lies outside its unit, or the lot is too large for the family
abbrev pub listing_outside : Answers → ℕ → Name → ℕ → ℕ → ℕ → Bool
listing_outside a day n stock units price =
    not (is_day day)
    || (not (is_day n.expiry)
    || (not (is_number stock)
    || (not (is_units units)
    || (nat_lt a.largest units
    || not (is_price price)))))

abbrev pub listing_refusals : Answers → Table → ℕ → Name → ℕ → ℕ → ℕ → List (ℕ × Bool)
listing_refusals a t day n stock units price =
    (1, not (is_standard a n.code))
    ∷ (2, listing_outside a day n stock units price)
    ∷ (3, misfit a n)
    ∷ (11, nat_lt day t.day)
    ∷ (13, not (missing (found_line t (series_of a n))))
    ∷ (14, any_of (clashes n.code.prefix stock) t.lines)
    ∷ (15, missing (found_free t))
    ∷ (19, nat_le n.expiry day)
    ∷ []

abbrev pub listing_table : Answers → Table → ℕ → Name → ℕ → ℕ → ℕ → Table
listing_table a t day n stock units price =
    record {
      lines = slice_set t.lines (free_place t) (Taken (listed a n stock units price));
      accounts = t.accounts;
      count = t.count;
      day = day;
    }
