use Rattle.rows.proofs.Claimed.{line_claim}
use Rattle.moves.proofs.lines.FixChange.change.Goals as goal

pub dollars_of-dollars-requires : goal.dollars_of-dollars-requires
dollars_of-dollars-requires c =
    (line_claim c.args.place.now c.in-Taken.line c.in-Taken.is c.requires, c.args.self.now.most)
