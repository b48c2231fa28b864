use Rattle.notation.proofs.DateText.{read_parts}
use Rattle.notation.proofs.dates.read_date.Goals as goal
use Rattle.std.proofs.Common.{sym, ◌∙◌}

pub returns : goal.returns
returns c =
    c.to_day.ensures
    ∙ read_parts c.args.text.now c.in_ok-few_digits.field-0 c.in_ok-few_digits-2.field-0
    c.in_ok-few_digits-3.field-0
    (sym c.if-not-is_dashed.ensures)
    c.in_ok-few_digits.ensures.value
    c.in_ok-few_digits-2.ensures.value
    c.in_ok-few_digits-3.ensures.value
