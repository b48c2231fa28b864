use Rattle.std.proofs.Common.{◌≡◌, ◌++◌, map, take, drop}
use Rattle.sweep.proofs.change_all.Given as goal

abbrev pub invariant-loop-row : goal.invariant-loop-row
invariant-loop-row g l =
    l.rows ≡ map (g.C.Change.makes l.change) (take l.row-index l.initial.rows) ++ drop l.row-index l.initial.rows
