use Rattle.std.proofs.Common.{set, sym, ◌∙◌}
use Rattle.std.proofs.lemmas.Bool.{or_parts}
use Rattle.terms.specs.Units.{most_lots, most_equity}
use Rattle.rows.specs.Rows.{lots_in}
use Rattle.rows.specs.Fits.{past, row_fits}
use Rattle.sweep.proofs.Every.{all_set}
use Rattle.rows.proofs.Sound.{traded_fit}
use Rattle.book.proofs.book.Book.deal.Goals as goal

pub invariant_of-self : goal.invariant_of-self
invariant_of-self g c =
    let t = c.args.self.now.table in
    let many = or_parts (past most_lots (lots_in c.args.place c.buys-bought.result)) (past most_lots (lots_in c.args.place c.sells-sold.result)) (sym c.either_has_too_many.ensures ∙ c.if-either_has_too_many.false) in
    let much = or_parts (past most_equity c.buys-bought.result.equity) (past most_equity c.sells-sold.result.equity) (sym c.either_has_too_much.ensures ∙ c.if-either_has_too_much.false) in record {
      lines_fit = c.args.self.now.lines_fit;
      rows_fit = all_set row_fits (set t.accounts c.args.b c.buys-bought.result) c.args.s c.sells-sold.result
          (traded_fit t.accounts c.args.s c.sells-sold.result c.args.place _ _ c.sells-sold.ensures c.args.self.now.rows_fit many.1 much.1)
          (all_set row_fits t.accounts c.args.b c.buys-bought.result
          (traded_fit t.accounts c.args.b c.buys-bought.result c.args.place _ _ c.buys-bought.ensures c.args.self.now.rows_fit many.0 much.0)
          c.args.self.now.rows_fit);
      count_in = c.args.self.now.count_in;
    }
