use Rattle.std.proofs.Common.{◌≡◌, false, Some, rules}
use Rattle.lookup.specs.Seek.{sought}
use Rattle.rows.specs.Rows.{holds}
use Rattle.rows.specs.Names.{malformed, misfit, series_of}
use Rattle.rows.specs.Trade.{trade_outside}
use Rattle.rows.proofs.Inputs.{trade_inside}
use Rattle.rows.proofs.Priced.{found_priced}
use Rattle.book.proofs.book.Book.trade.Goals as goal

-- the line that is found by the name can be valued
pub deal-requires-clause-priced : goal.deal-requires-clause-priced
deal-requires-clause-priced g c =
    let a = g.F.Family.answers in
    let n = c.args.name in
    let lines = c.args.self.now.table.lines in
    let found : Some c.in_ok-place.place ≡ sought (holds (Some (series_of a n))) lines = search rules in
    let formed : malformed a n ≡ false = search rules in
    let fits : misfit a n ≡ false = search rules in
    let outside : trade_outside c.args.day n c.args.buyer c.args.seller c.args.price c.args.lots ≡ false = search rules in
    found_priced a n lines c.in_ok-place.place found c.args.self.now.lines_fit c.args.price formed fits (trade_inside c.args.day n c.args.buyer c.args.seller c.args.price c.args.lots outside).0
