use Rattle.std.proofs.Common.{◌*◌, ◌≤◌, drop}
use Rattle.terms.specs.Listed.{listed}
use Rattle.protocol.specs.View.{lines_of, steps_of, view_of}
use Rattle.runs.specs.Tasks.{step_tasks}
use Rattle.runs.specs.Whole.{steps_tasks_of}
use Rattle.runs.proofs.Rests.{Rest}
use Rattle.runs.proofs.playing.play_steps.Given as goal

abbrev pub invariant-loop-number : goal.invariant-loop-number
invariant-loop-number g l =
    record {
      few : l.sames ≤ 1024 * l.number;
      rest : Rest g.P.Provider.algebra g.P.Provider.meaning (listed l.protocol.terms) (lines_of l.protocol) l.readings
          (step_tasks (view_of l.protocol) l.number (drop l.number (steps_of l.protocol))) l.sames l.provider l.slots (steps_tasks_of l.protocol) l.initial.provider l.initial.slots;
    }
