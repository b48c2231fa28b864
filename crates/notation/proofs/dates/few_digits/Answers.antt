use Rattle.notation.proofs.Digits.{number_short}
use Rattle.notation.proofs.dates.few_digits.Goals as goal
use Rattle.std.proofs.Common.{length, arith, rules}

pub returns-then-is_numeral-clause-bound : goal.returns-then-is_numeral-clause-bound
returns-then-is_numeral-clause-bound c =
    let short = number_short c.args.text.now (length c.args.text.now) (search rules) (omega arith) in grind arith
