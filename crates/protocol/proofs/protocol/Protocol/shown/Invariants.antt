use Rattle.protocol.proofs.Showing.{ShownUpTo}
use Rattle.protocol.proofs.protocol.Protocol.shown.Given as goal

abbrev pub invariant-loop-step : goal.invariant-loop-step
invariant-loop-step l = ShownUpTo l.self l.step-index l.marks
