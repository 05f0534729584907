use Rattle.protocol.proofs.Showing.{GivenUpTo}
use Rattle.protocol.proofs.protocol.Protocol.given.Given as goal

abbrev pub invariant-loop-script : goal.invariant-loop-script
invariant-loop-script l = GivenUpTo l.self l.script-index l.marks
