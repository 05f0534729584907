use Rattle.protocol.proofs.Reading.{step_read, steps_read}
use Rattle.protocol.proofs.Showing.{shown_given, shown_more, shown_all}
use Rattle.protocol.proofs.protocol.Protocol.shown.Goals as goal

pub loop-step-init : goal.loop-step-init
loop-step-init c = shown_given c.args.self.now c.given-marks.result c.given-marks.ensures.size c.given-marks.ensures.given

pub loop-step-preserved : goal.loop-step-preserved
loop-step-preserved c =
    shown_more c.args.self.now c.loop-step.step-index _
    (step_read c.args.self.now _ c.as_slice-step-items.ensures c.loop-step.step-index _ c.loop-step-test.true)
    c.loop-step.marks c.insert.new.self c.loop-step.invariant (record { marks = c.insert.ensures.marks; size = c.insert.ensures.size })

pub returns : goal.returns
returns c = record {
  size = c.loop-step.invariant.size;
  uses = shown_all c.args.self.now c.loop-step.step-index c.loop-step.marks (steps_read c.args.self.now _ c.as_slice-step-items.ensures c.loop-step.step-index c.loop-step-test.false) c.loop-step.invariant;
}
