use Rattle.judging.proofs.naive.Recursion.+misses.Given as goal

abbrev pub decreases-misses : goal.decreases-misses
decreases-misses l = l.depth
