use Rattle.protocol.specs.View.{view_of}
use Rattle.protocol.proofs.Granting.{recorded_last, three_placed, step_performed, step_all_known, step_came}
use Rattle.protocol.proofs.Laws.{step_law, refused_law}
use Rattle.protocol.proofs.protocol.Protocol.perform_step.Goals as goal

pub returns-in_err-delivery-clause-law : goal.returns-in_err-delivery-clause-law
returns-in_err-delivery-clause-law c =
    refused_law (view_of c.args.self.now) c.args.sender c.args.receiver c.args.message _ c.from_residual.result c.from_residual.ensures.1 c.in_err-delivery.ensures

pub returns-in_err-scripts-clause-law : goal.returns-in_err-scripts-clause-law
returns-in_err-scripts-clause-law c =
    refused_law (view_of c.args.self.now) c.args.sender c.args.receiver c.args.message _ c.from_residual-in_err-scripts.result c.from_residual-in_err-scripts.ensures.1 c.in_err-scripts.ensures

pub invariant_of-self : goal.invariant_of-self
invariant_of-self c =
    let p = c.args.self.now in
    let w = c.in_ok-delivery.ensures in
    let d = c.in_ok-scripts.scripts in
    let are = three_placed _ _ _ _ c.args.sender c.args.receiver d.sent d.received d.heard c.replace.ensures.now c.replace-2.ensures.now c.replace-3.ensures.now in
    let more = recorded_last p w.room c.push-place.result c.push-place.new.self _ c.recorded.result c.push-place.ensures.ok c.push-place.ensures.full c.recorded.ensures in
    record {
      known = step_all_known p c.args.sender c.args.receiver c.args.message c.in_ok-delivery.delivery w d c.in_ok-scripts.ensures _ are _ more;
      came = step_came p c.args.sender c.args.receiver c.args.message c.in_ok-delivery.delivery w d c.in_ok-scripts.ensures _ are _ more;
    }

pub returns : goal.returns
returns c =
    let p = c.args.self.now in
    let w = c.in_ok-delivery.ensures in
    let d = c.in_ok-scripts.scripts in
    let are = three_placed _ _ _ _ c.args.sender c.args.receiver d.sent d.received d.heard c.replace.ensures.now c.replace-2.ensures.now c.replace-3.ensures.now in
    let more = recorded_last p w.room c.push-place.result c.push-place.new.self _ c.recorded.result c.push-place.ensures.ok c.push-place.ensures.full c.recorded.ensures in
    let performed =
    step_performed p c.args.sender c.args.receiver c.args.message c.in_ok-delivery.delivery w d c.in_ok-scripts.ensures _ are _ more c.len-number.result c.len-number.ensures.is in
    record { performed = performed; unaltered = tt; law = step_law (view_of p) _ c.args.sender c.args.receiver c.args.message _ performed }
