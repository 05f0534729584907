use Rattle.std.proofs.Common.{arith}
use Rattle.compiled.proofs.Making.{made_none, made_more, made_all}
use Rattle.compiled.proofs.calls.make_calls.Goals as goal

pub loop-number-init : goal.loop-number-init
loop-number-init c = made_none c.args.calls.now c.args.answers.now c.blank.result c.blank.ensures

pub loop-number-preserved : goal.loop-number-preserved
loop-number-preserved c =
    made_more c.args.calls.now c.args.answers.now c.loop-number.number c.loop-number.protocol c.call.new.self c.loop-number.answers _ c.call.result c.loop-number-test.true c.requires
    c.loop-number.invariant c.call.ensures

pub returns : goal.returns
returns c =
    made_all c.args.calls.now c.args.answers.now c.loop-number.number c.loop-number.protocol c.loop-number.answers
    (omega (arith, c.loop-number-test.false, c.loop-number.auto.number-end)) c.loop-number.invariant
