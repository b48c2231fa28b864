use Rattle.notation.proofs.Days.{one_date}
use Rattle.notation.proofs.dates.Date.from_day.Goals as goal
use Rattle.std.proofs.Common.{arith}
use Rattle.std.proofs.lemmas.Grind.{common_steps}

pub returns-clause-only : goal.returns-clause-only
returns-clause-only c = λ other e. one_date other _ c.args.day e (grind (arith, common_steps))
