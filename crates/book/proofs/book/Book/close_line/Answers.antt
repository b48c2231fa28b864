use Rattle.std.proofs.Common.{◌≡◌, true, List, get_or, sym, refl, ap, ◌∙◌, subst, arith}
use Rattle.std.proofs.lemmas.Bool.{le-leb}
use Rattle.sweep.specs.Sweep.{all_of}
use Rattle.sweep.proofs.Every.{all_set}
use Rattle.terms.specs.Units.{largest_claim, is_claim}
use Rattle.terms.specs.Claims.{claim_fits}
use Rattle.rows.specs.Fits.{line_fits, row_fits}
use Rattle.rows.specs.Trade.{change}
use Rattle.rows.specs.declared.table.Line.{Line}
use Rattle.rows.specs.declared.table.Account.{Account}
use Rattle.rows.specs.declared.table.Place.TheVariants.{Free}
use Rattle.rows.proofs.Claimed.{dollars_in}
use Rattle.rows.proofs.Priced.{lot_priced}
use Rattle.rows.proofs.Sound.{carry_at, closed_fit}
use Rattle.book.proofs.book.Book.close_line.Goals as goal

pub invariant_of-gain : goal.invariant_of-gain
invariant_of-gain g c =
    let claimed = subst (λ (l : Line). claim_fits l.terms.claim ≡ true) (sym c.line_at-line.ensures) c.requires.claimed in
    let fit = lot_priced g.F.Family.answers c.line_at-line.result (get_or c.args.self.now.table.lines c.args.place Free) c.lot.result c.args.price c.lot.ensures c.line_at-line.ensures c.requires.priced in
    let few = ap is_claim c.dollars_of-dollars.ensures ∙ le-leb _ largest_claim (dollars_in c.args.close c.line_at-line.result.terms.claim claimed c.requires.closes) in record {
      within = c.requires.place;
      old = carry_at c.args.self.now.table.lines c.args.place c.line_at-line.result c.line_at-line.ensures c.args.self.now.lines_fit;
      new = omega (arith, c.final_value.ensures, g.met.F.Family.keeps.final_in c.lot.result c.args.price c.dollars_of-dollars.result fit few);
    }

pub invariant_of-self : goal.invariant_of-self
invariant_of-self g c =
    record {
      lines_fit = all_set line_fits c.args.self.now.table.lines c.args.place Free refl c.args.self.now.lines_fit;
      rows_fit = subst (λ (rows : List Account). all_of row_fits rows ≡ true) (sym c.give_last.ensures)
          (closed_fit c.args.self.now.table.accounts c.args.place (change c.line_at-line.result.carry c.final_value.result) c.args.self.now.rows_fit (sym c.if-passes_a_limit.ensures));
      count_in = c.args.self.now.count_in;
    }
