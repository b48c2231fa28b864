use Rattle.std.proofs.Common.{◌≡◌, false, Some, rules}
use Rattle.lookup.specs.Seek.{sought}
use Rattle.rows.specs.Rows.{holds}
use Rattle.rows.specs.Names.{malformed, misfit, series_of}
use Rattle.rows.specs.Mark.{mark_outside}
use Rattle.rows.proofs.Inputs.{mark_inside}
use Rattle.rows.proofs.Priced.{found_fit, found_priced}
use Rattle.book.proofs.book.Book.mark.Goals as goal

-- the line that is found by the name can be valued
pub revalue-requires-clause-priced : goal.revalue-requires-clause-priced
revalue-requires-clause-priced g c =
    let a = g.F.Family.answers in
    let n = c.args.name in
    let lines = c.args.self.now.table.lines in
    let found : Some c.in_ok-place.place ≡ sought (holds (Some (series_of a n))) lines = search rules in
    let formed : malformed a n ≡ false = search rules in
    let fits : misfit a n ≡ false = search rules in
    let outside : mark_outside c.args.day n c.args.price ≡ false = search rules in
    found_priced a n lines c.in_ok-place.place found c.args.self.now.lines_fit c.args.price formed fits (mark_inside c.args.day n c.args.price outside)

pub revalue-requires-clause-fit : goal.revalue-requires-clause-fit
revalue-requires-clause-fit g c =
    let lines = c.args.self.now.table.lines in
    let found : Some c.in_ok-place.place ≡ sought (holds (Some (series_of g.F.Family.answers c.args.name))) lines = search rules in
    found_fit g.F.Family.answers c.args.name lines c.in_ok-place.place found c.args.self.now.lines_fit
