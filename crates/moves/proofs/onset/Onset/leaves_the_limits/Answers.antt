use Rattle.rows.proofs.Sound.{taken_fits}
use Rattle.moves.proofs.onset.Onset.leaves_the_limits.Goals as goal

pub after-after-requires-clause-within : goal.after-after-requires-clause-within
after-after-requires-clause-within g c = taken_fits c.args.place.now c.in-Taken.line c.in-Taken.is c.requires
