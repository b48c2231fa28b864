use Rattle.std.proofs.Common.{◌≡◌, true, List, sym, subst}
use Rattle.sweep.specs.Sweep.{all_of}
use Rattle.rows.specs.Fits.{line_fits}
use Rattle.rows.specs.declared.table.Place.{Place}
use Rattle.rows.proofs.Inputs.{fixing_inside}
use Rattle.moves.proofs.Moved.{fixed_fit}
use Rattle.book.proofs.book.Book.fixing.Goals as goal

pub invariant_of-self : goal.invariant_of-self
invariant_of-self g c =
    let a = c.args in record {
      lines_fit = subst (λ (ls : List Place). all_of line_fits ls ≡ true) (sym c.fix_lines.ensures)
          (fixed_fit a.stock a.deadline a.close (fixing_inside a.day a.stock a.deadline a.close (sym c.if-is_fixing_outside.ensures)) a.self.now.table.lines a.self.now.lines_fit);
      rows_fit = a.self.now.rows_fit;
      count_in = a.self.now.count_in;
    }
