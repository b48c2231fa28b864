-- The terms of a line.
use Rattle.std.specs.Prelude.{Bool, ◌&&◌, nat_le}
use Rattle.terms.specs.Units.{last_level, largest_price, is_day, is_number, is_units, is_lot_cash}
use Rattle.terms.specs.Claims.{claim_fits}
use Rattle.terms.specs.declared.code.Series.{Series}
use Rattle.terms.specs.declared.lot.Lot.{Lot}
use Rattle.terms.specs.declared.terms.Terms.{Terms}

abbrev pub series_fits : Series → Bool
series_fits s = nat_le s.level last_level && (is_day s.expiry && nat_le s.strike largest_price)

-- every number of the terms lies within Units
abbrev pub terms_fit : Terms → Bool
terms_fit t =
    series_fits t.series
    && (is_number t.stock
    && (is_units t.units
    && (is_units t.strike_lot
    && (is_lot_cash t.cash
    && claim_fits t.claim))))

-- what a family values of a line
abbrev pub lot_of : Terms → Lot
lot_of t =
    record {
      right = t.series.right;
      strike = t.series.strike;
      units = t.units;
      strike_lot = t.strike_lot;
      cash = t.cash;
    }
