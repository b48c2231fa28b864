use Rattle.std.proofs.Common.{◌≡◌, true, List, sym, subst}
use Rattle.sweep.specs.Sweep.{all_of}
use Rattle.rows.specs.Fits.{line_fits, row_fits}
use Rattle.rows.specs.declared.table.Account.{Account}
use Rattle.rows.specs.declared.table.Place.{Place}
use Rattle.rows.proofs.Sound.{credited_fit}
use Rattle.moves.proofs.Moved.{adjusted_fit}
use Rattle.book.proofs.book.Book.move_on.Goals as goal

pub invariant_of-self : goal.invariant_of-self
invariant_of-self g c =
    let t = c.args.self.now.table in
    let onset = c.args.onset in record {
      lines_fit = subst (λ (ls : List Place). all_of line_fits ls ≡ true) (sym c.move_lines.ensures)
          (adjusted_fit g.F.Family.answers g.met.F.Family.keeps onset.day onset.event onset.whole onset.inside onset.numbered t.lines c.args.self.now.lines_fit c.requires.levels c.requires.lots);
      rows_fit = subst (λ (rs : List Account). all_of row_fits rs ≡ true) (sym c.book.ensures)
          (credited_fit t.accounts c.of-entries.result.dollars c.args.self.now.rows_fit (sym c.if-pass_a_limit.ensures));
      count_in = c.args.self.now.count_in;
    }
