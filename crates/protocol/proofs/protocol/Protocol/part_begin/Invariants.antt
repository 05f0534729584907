use Rattle.std.proofs.Common.{◌≡◌}
use Rattle.parts.specs.Parts.{begin}
use Rattle.protocol.specs.View.{view_of}
use Rattle.protocol.proofs.protocol.Protocol.part_begin.Given as goal

abbrev pub invariant-loop-step : goal.invariant-loop-step
invariant-loop-step l = l.done ≡ begin (view_of l.self) l.step-index l.agent
