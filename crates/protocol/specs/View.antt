-- A protocol as a state of the rules.
use Rattle.std.specs.Prelude.{List, map}
use Rattle.bounded.specs.Items.{items}
use Rattle.terms.specs.Listed.{listed}
use Rattle.scripts.specs.declared.instruction.Line.{Line}
use Rattle.scripts.specs.View.{written}
use Rattle.rules.specs.State.{State}
use Rattle.protocol.specs.declared.step.Step.{Step}
use Rattle.protocol.specs.declared.protocol.Protocol.{Protocol}
use Rattle.protocol.specs.States.{state_by}

-- the instructions of the agents' scripts
abbrev pub lines_of : Protocol → List (List Line)
lines_of p = map written (items p.scripts)

abbrev pub steps_of : Protocol → List Step
steps_of p = items p.steps

abbrev pub view_of : Protocol → State
view_of p = state_by (listed p.terms) (lines_of p) (steps_of p)
