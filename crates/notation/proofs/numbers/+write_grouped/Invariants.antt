use Rattle.notation.proofs.numbers.+write_grouped.Given as goal

abbrev pub decreases-write-grouped : goal.decreases-write_grouped
decreases-write-grouped g l = l.n
