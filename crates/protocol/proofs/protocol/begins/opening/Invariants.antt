use Rattle.scripts.specs.View.{written}
use Rattle.protocol.proofs.Initial.{Behind}
use Rattle.protocol.proofs.protocol.begins.opening.Given as goal

abbrev pub invariant-loop-line : goal.invariant-loop-line
invariant-loop-line l = Behind (written l.script) l.line-iterator.iter.rest.now l.opening
