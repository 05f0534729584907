use Rattle.std.proofs.Common.{◌∙◌}
use Rattle.protocol.proofs.Initial.{one_earlier_read, all_earlier}
use Rattle.protocol.proofs.protocol.Protocol.part_begin.Goals as goal

pub loop-step-preserved : goal.loop-step-preserved
loop-step-preserved c =
    c.end_of-done.ensures
    ∙ one_earlier_read c.args.self.now c.args.agent _ c.as_slice-steps.ensures _ c.args.number c.min.ensures c.loop-step.step-index c.loop-step.done _ c.loop-step-test.true c.loop-step.invariant

pub returns : goal.returns
returns c =
    c.loop-step.invariant
    ∙ all_earlier c.args.self.now c.args.agent _ c.as_slice-steps.ensures _ c.args.number c.min.ensures c.loop-step.step-index c.loop-step-test.false c.loop-step.auto.step-index-end
