use Rattle.std.proofs.Common.{◌≡◌, ◌≤◌, true, List, get_or, sym, ◌∙◌, subst, arith}
use Rattle.terms.specs.Units.{largest_value}
use Rattle.terms.specs.Terms.{terms_fit}
use Rattle.sweep.specs.Sweep.{all_of}
use Rattle.rows.specs.Fits.{line_fits, row_fits}
use Rattle.rows.specs.Trade.{change}
use Rattle.rows.specs.declared.table.Line.{Line}
use Rattle.rows.specs.declared.table.Account.{Account}
use Rattle.rows.specs.declared.table.Place.TheVariants.{Free, Taken}
use Rattle.rows.proofs.Priced.{lot_priced}
use Rattle.sweep.proofs.Every.{all_set}
use Rattle.rows.proofs.Sound.{line_in, gained_fit}
use Rattle.book.proofs.book.Book.revalue.Goals as goal

pub invariant_of-self : goal.invariant_of-self
invariant_of-self g c =
    let fit = lot_priced g.F.Family.answers c.line_at-line.result (get_or c.args.self.now.table.lines c.args.place Free) c.lot.result c.args.price c.lot.ensures c.line_at-line.ensures c.requires.priced in
    let value : c.mark_value-value.result ≤ largest_value = omega (arith, c.mark_value-value.ensures, g.met.F.Family.keeps.mark_in c.lot.result c.args.price fit) in
    let terms : terms_fit c.line_at-line.result.terms ≡ true = subst (λ (l : Line). terms_fit l.terms ≡ true) (sym c.line_at-line.ensures) c.requires.fit in record {
      lines_fit = all_set line_fits c.args.self.now.table.lines c.args.place (Taken (record { terms = c.line_at-line.result.terms; carry = c.mark_value-value.result })) (line_in c.line_at-line.result.terms c.mark_value-value.result terms value) c.args.self.now.lines_fit;
      rows_fit = subst (λ (rows : List Account). all_of row_fits rows ≡ true) (sym c.give.ensures)
          (gained_fit c.args.self.now.table.accounts c.args.place (change c.line_at-line.result.carry c.mark_value-value.result) c.args.self.now.rows_fit (sym c.passes_a_limit.ensures ∙ c.if-passes_a_limit.false));
      count_in = c.args.self.now.count_in;
    }
