use Rattle.rows.proofs.Sound.{all_held}
use Rattle.rows.proofs.gains.gain_all.Goals as goal

pub give-requires : goal.give-requires
give-requires c = all_held c.args.rows.now c.args.j c.args.from c.args.to c.requires.1
