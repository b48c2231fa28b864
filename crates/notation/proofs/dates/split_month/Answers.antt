use Rattle.notation.proofs.Days.{before_month_more, month_left}
use Rattle.notation.proofs.dates.split_month.Goals as goal
use Rattle.std.proofs.Common.{arith}

pub loop-rest-preserved : goal.loop-rest-preserved
loop-rest-preserved c =
    let left = month_left c.args.year c.loop-rest.month c.loop-rest.rest (omega arith) (omega arith) (omega arith) in
    let more = before_month_more c.args.year c.loop-rest.month (omega arith) in
    (omega arith, omega arith, omega arith)
