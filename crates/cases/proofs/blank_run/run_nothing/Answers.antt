use Rattle.std.proofs.Common.{[]}
use Rattle.terms.specs.Listed.{listed}
use Rattle.protocol.specs.View.{lines_of, steps_of}
use Rattle.cases.proofs.Blank.{nothing_needed, blank_played}
use Rattle.cases.proofs.blank_run.run_nothing.Goals as goal

pub returns : goal.returns
returns g c =
    let p = c.blank.result in
    let ts = listed p.terms in
    blank_played ts (lines_of p) (steps_of p) c.blank.ensures _ _ c.run.result c.run.new.provider c.run.new.readings c.run.new.slots
    (c.run.ensures.law [] c.blank.ensures (nothing_needed ts (lines_of p) (steps_of p) c.blank.ensures))
