use Rattle.std.proofs.Common.{◌≡◌, ◌+◌, ◌≤◌}
use Rattle.notation.proofs.dates.split_month.Given as goal
use Rattle.notation.specs.Calendar.{days_before_month}

abbrev pub invariant-loop-rest : goal.invariant-loop-rest
invariant-loop-rest l =
    (1 ≤ l.month) × (l.month ≤ 12) × (days_before_month l.year l.month + l.rest ≡ l.initial.rest)

abbrev pub decreases-loop-rest : goal.decreases-loop-rest
decreases-loop-rest l = l.rest
