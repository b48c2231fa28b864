use Rattle.rows.proofs.Sound.{taken_fits}
use Rattle.moves.proofs.onset.Onset.passes_the_level.Goals as goal

pub after-requires-clause-within : goal.after-requires-clause-within
after-requires-clause-within g c = taken_fits c.args.place.now c.in-Taken.line c.in-Taken.is c.requires
