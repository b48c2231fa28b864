use Rattle.rows.proofs.Sound.{all_held}
use Rattle.rows.proofs.gains.any_gains_too_much.Goals as goal

pub passes_a_limit-requires : goal.passes_a_limit-requires
passes_a_limit-requires c = all_held c.args.rows.now c.args.j c.args.from c.args.to c.requires.1
