use Rattle.std.proofs.Common.{◌≡◌, ◌*◌, ◌≤◌, length, drop, ◌+ℤ◌, nat_abs}
use Rattle.rows.specs.Adjustment.{credit}
use Rattle.moves.proofs.credits.credit.Given as goal

abbrev pub invariant-loop-n : goal.invariant-loop-n
invariant-loop-n l =
    ((goal.iterator-loop-n).can_next l.n-iterator × (goal.iterator-loop-n).is_finite l.n-iterator)
    × (l.sum +ℤ credit (drop (length l.yielded) l.lots) (drop (length l.yielded) l.dollars) ≡ credit l.lots l.dollars)
    × (nat_abs l.sum ≤ length l.yielded * 80000000000000000)
