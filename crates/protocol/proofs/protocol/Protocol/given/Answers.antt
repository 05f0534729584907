use Rattle.protocol.proofs.Reading.{script_read, scripts_read}
use Rattle.protocol.proofs.Showing.{given_none, given_more, given_all}
use Rattle.protocol.proofs.protocol.Protocol.given.Goals as goal

pub loop-script-init : goal.loop-script-init
loop-script-init c = given_none c.args.self.now c.none-marks.result c.none-marks.ensures.size c.none-marks.ensures.marks

pub loop-script-preserved : goal.loop-script-preserved
loop-script-preserved c =
    given_more c.args.self.now c.loop-script.script-index c.script-item.result
    (script_read c.args.self.now _ c.as_slice-script-items.ensures c.loop-script.script-index c.script-item.result c.loop-script-test.true c.script-item.is)
    c.loop-script.marks c.mark_given.new.marks c.loop-script.invariant c.mark_given.ensures

pub returns : goal.returns
returns c = record {
  size = c.loop-script.invariant.size;
  given = given_all c.args.self.now c.loop-script.script-index c.loop-script.marks (scripts_read c.args.self.now _ c.as_slice-script-items.ensures c.loop-script.script-index c.loop-script-test.false) c.loop-script.invariant;
}
