-- Fixing the claims of a stock at its close on the payment deadline.
use Rattle.std.specs.Prelude.{ℕ, Bool, false, cond, not, ◌&&◌, ◌||◌, List, [], ◌∷◌, map, ◌==◌, nat_le, nat_lt}
use Rattle.lookup.specs.Seek.{any_of}
use Rattle.terms.specs.Units.{is_day, is_number, is_price}
use Rattle.terms.specs.Claims.{claim_dollars, awaits}
use Rattle.terms.specs.declared.claim.Claim.TheVariants.{Fixed}
use Rattle.terms.specs.declared.terms.Terms.{Terms}
use Rattle.rows.specs.declared.table.Line.{Line}
use Rattle.rows.specs.declared.table.Place.{Place}
use Rattle.rows.specs.declared.table.Place.TheVariants.{Free, Taken}
use Rattle.rows.specs.declared.table.Table.{Table}

-- a line of the stock that expires on the deadline or later, with an open claim of that deadline
abbrev pub fixes : ℕ → ℕ → Terms → Bool
fixes stock deadline t = t.stock == stock && (nat_le deadline t.series.expiry && awaits deadline t.claim)

abbrev pub fixed_terms : ℕ → Terms → Terms
fixed_terms close t =
    record {
      series = t.series;
      stock = t.stock;
      units = t.units;
      strike_lot = t.strike_lot;
      cash = t.cash;
      claim = Fixed (claim_dollars close t.claim);
    }

abbrev pub fixed_line : ℕ → Line → Line
fixed_line close l = record { terms = fixed_terms close l.terms; carry = l.carry }

abbrev pub is_fixed : ℕ → ℕ → Place → Bool
is_fixed stock deadline Free = false
is_fixed stock deadline (Taken l) = fixes stock deadline l.terms

abbrev pub place_fixed : ℕ → ℕ → ℕ → Place → Place
place_fixed stock deadline close Free = Free
place_fixed stock deadline close (Taken l) = Taken (cond (fixes stock deadline l.terms) (fixed_line close l) l)

abbrev pub fixing_outside : ℕ → ℕ → ℕ → ℕ → Bool
fixing_outside day stock deadline close =
    not (is_day day) || (not (is_number stock) || (not (is_day deadline) || not (is_price close)))

abbrev pub fixing_refusals : Table → ℕ → ℕ → ℕ → ℕ → List (ℕ × Bool)
fixing_refusals t day stock deadline close =
    (2, fixing_outside day stock deadline close)
    ∷ (6, nat_lt day deadline)
    ∷ (11, nat_lt day t.day)
    ∷ (24, not (any_of (is_fixed stock deadline) t.lines))
    ∷ []

abbrev pub fixing_table : Table → ℕ → ℕ → ℕ → ℕ → Table
fixing_table t day stock deadline close =
    record {
      lines = map (place_fixed stock deadline close) t.lines;
      accounts = t.accounts;
      count = t.count;
      day = day;
    }
