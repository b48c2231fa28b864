use Rattle.std.proofs.Common.{◌-◌, length, ◌∙◌, arith}
use Rattle.notation.proofs.Digits.{large_from_none, too_large, le_scaled}
use Rattle.notation.proofs.numbers.scaled.Goals as goal
use Rattle.notation.specs.Decimal.{number}

pub returns-in_err-number_in : goal.returns-in_err-number_in
returns-in_err-number_in c =
    let large = large_from_none (number 0 c.args.whole.now) c.in_err-number_in.ensures in
    let scaled = le_scaled (number 0 c.args.whole.now) c.args.places in
    c.from_residual.ensures ∙ too_large _ (omega arith)

pub returns-in_err-number_in-2 : goal.returns-in_err-number_in-2
returns-in_err-number_in-2 c =
    let large = large_from_none (number 0 c.args.decimals.now) c.in_err-number_in-2.ensures in
    let scaled = le_scaled (number 0 c.args.decimals.now) (c.args.places - length c.args.decimals.now) in
    c.from_residual-in_err-number_in-2.ensures ∙ too_large _ (omega arith)
