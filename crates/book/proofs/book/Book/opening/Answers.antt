use Rattle.std.proofs.Common.{refl, arith}
use Rattle.rows.specs.Fits.{row_fits}
use Rattle.rows.specs.Opening.{new_account}
use Rattle.sweep.proofs.Every.{all_set}
use Rattle.book.proofs.book.Book.opening.Goals as goal

-- a new row has no equity and no lots
pub invariant_of-self : goal.invariant_of-self
invariant_of-self g c =
    record {
      lines_fit = c.args.self.now.lines_fit;
      rows_fit = all_set row_fits c.args.self.now.table.accounts c.args.self.now.table.count (new_account c.args.account) refl c.args.self.now.rows_fit;
      count_in = omega arith;
    }
