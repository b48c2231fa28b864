-- A line carried at a new mark value, by its place: what a mark does once the line is found.
use Rattle.std.specs.Prelude.{ℕ, Bool, List, [], ◌∷◌, map, ℤ, slice_set}
use Rattle.lookup.specs.Seek.{any_of}
use Rattle.terms.specs.Terms.{lot_of}
use Rattle.terms.specs.Family.{Answers}
use Rattle.rows.specs.Rows.{line_at}
use Rattle.rows.specs.Trade.{change}
use Rattle.rows.specs.Mark.{gained, gains_past, carried}
use Rattle.rows.specs.declared.table.Place.TheVariants.{Taken}
use Rattle.rows.specs.declared.table.Table.{Table}

module _ (a : Answers) (t : Table) (place price : ℕ) where
  abbrev pub new_value : ℕ
  new_value = a.mark (lot_of (line_at t place).terms) price

  abbrev pub revalue_gain : ℤ
  revalue_gain = change (line_at t place).carry new_value

  abbrev pub revalue_refusals : List (ℕ × Bool)
  revalue_refusals = (27, any_of (gains_past place revalue_gain) t.accounts) ∷ []

  abbrev pub revalue_table : Table
  revalue_table =
      record {
        lines = slice_set t.lines place (Taken (carried new_value (line_at t place)));
        accounts = map (gained place revalue_gain) t.accounts;
        count = t.count;
        day = t.day;
      }
