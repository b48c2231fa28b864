use Rattle.rows.proofs.Sound.{taken_fits}
use Rattle.moves.proofs.Meeting.{meets_is}
use Rattle.moves.proofs.onset.Onset.meets.Goals as goal

pub after-requires-clause-within : goal.after-requires-clause-within
after-requires-clause-within g c = taken_fits c.args.place.now c.in-Taken.line c.in-Taken.is c.requires

pub returns-in-Taken : goal.returns-in-Taken
returns-in-Taken g c =
    let onset = c.args.self.now in
    meets_is g.F.Family.answers onset.day onset.event c.args.lines.now c.args.place.now c.in-Taken.line c.after.result
    c.any_bears.result c.in-Taken.is c.if-is_taken_in.ensures c.after.ensures c.any_bears.ensures
