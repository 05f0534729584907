use Rattle.protocol.proofs.Knowing.{know_performed, know_known, know_came}
use Rattle.protocol.proofs.protocol.Protocol.perform_knowledge.Goals as goal

pub invariant_of-self : goal.invariant_of-self
invariant_of-self c =
    let p = c.args.self.now in
    let w = c.in_ok-script.ensures in
    record {
      known = know_known p c.args.agent c.args.term c.in_ok-script.script w _ c.replace.ensures.now;
      came = know_came p c.args.agent c.args.term c.in_ok-script.script w _ c.replace.ensures.now;
    }

pub returns-clause-performed : goal.returns-clause-performed
returns-clause-performed c = know_performed c.args.self.now c.args.agent c.args.term c.in_ok-script.script c.in_ok-script.ensures _ c.replace.ensures.now
