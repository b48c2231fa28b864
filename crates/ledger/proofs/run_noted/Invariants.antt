use Rattle.rows.specs.Calls.{empty, run}
use Rattle.ledger.specs.Runs.{Noted, numbers_given}
use Rattle.ledger.proofs.run_noted.Given as goal
use Rattle.std.proofs.Common.{◌≡◌, take}

abbrev pub invariant-loop-i : goal.invariant-loop-i
invariant-loop-i g l =
    (l.book.table ≡ run g.F.Family.answers empty (take l.i l.calls))
    × Noted (numbers_given g.F.Family.answers empty (take l.i l.calls)) l.initial.given l.given
