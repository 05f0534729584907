use Rattle.scripts.proofs.script.Script.+bring.Given as goal

abbrev pub decreases-bring : goal.decreases-bring
decreases-bring l = l.term
