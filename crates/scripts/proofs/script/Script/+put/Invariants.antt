use Rattle.scripts.proofs.script.Script.+put.Given as goal

abbrev pub decreases-put : goal.decreases-put
decreases-put l = l.term
