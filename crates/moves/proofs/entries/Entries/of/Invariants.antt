use Rattle.std.proofs.Common.{◌≡◌, ◌++◌, map, take, drop}
use Rattle.rows.specs.Adjustment.{entry}
use Rattle.moves.proofs.entries.Entries.of.Given as goal

abbrev pub invariant-loop-j : goal.invariant-loop-j
invariant-loop-j g l =
    l.dollars ≡ map (entry g.F.Family.answers l.onset.day l.onset.event) (take l.j l.lines) ++ drop l.j l.initial.dollars
