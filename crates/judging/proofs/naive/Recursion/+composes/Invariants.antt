use Rattle.judging.proofs.naive.Recursion.+composes.Given as goal

abbrev pub decreases-composes : goal.decreases-composes
decreases-composes l = l.depth
