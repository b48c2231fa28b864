use Rattle.std.proofs.Common.{◌≡◌, ◌+◌, ◌-◌, ◌*◌, ◌≤◌}
use Rattle.notation.proofs.dates.split_year.Given as goal
use Rattle.notation.specs.Calendar.{days_before_year}

abbrev pub invariant-loop-rest : goal.invariant-loop-rest
invariant-loop-rest l =
    (2000 ≤ l.year) × (days_before_year l.year + l.rest ≡ l.initial.rest)
    × (365 * (l.year - 2000) + l.rest ≤ l.initial.rest)

abbrev pub decreases-loop-rest : goal.decreases-loop-rest
decreases-loop-rest l = l.rest
