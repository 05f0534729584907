use Rattle.std.proofs.Common.{◌<◌, length, arith}
use Rattle.terms.specs.Listed.{listed}
use Rattle.scripts.proofs.View.{named_known}
use Rattle.protocol.specs.View.{view_of}
use Rattle.protocol.proofs.Asking.{agent_known, can_no_agent, can_no_term, can_said}
use Rattle.protocol.proofs.Laws.{can_law}
use Rattle.protocol.proofs.protocol.Protocol.perform_question.Goals as goal

pub returns-in_default : goal.returns-in_default
returns-in_default c =
    let p = c.args.self.now in
    let performed = can_no_agent p c.args.agent c.args.term c.in_default.ensures in
    record { performed = performed; law = can_law (view_of p) (view_of p) c.args.agent c.args.term _ performed }

pub returns-then-term-len : goal.returns-then-term-len
returns-then-term-len c =
    let p = c.args.self.now in
    let performed = can_no_term p c.args.agent c.args.term c.in-Some.script.now c.in-Some.ensures (omega (arith, c.if-term-len.true, c.len.ensures.is)) in
    record { performed = performed; law = can_law (view_of p) (view_of p) c.args.agent c.args.term _ performed }

pub returns : goal.returns
returns c =
    let p = c.args.self.now in
    let x = c.in-Some.script.now in
    let l : c.args.term < length (listed p.terms) = omega (arith, c.if-term-len.false, c.len.ensures.is) in
    let performed =
    can_said p c.args.agent c.args.term x c.in-Some.ensures l c.missing.result c.is_none.result c.is_none.ensures
    (c.missing.ensures l (named_known _ _ (agent_known p c.args.agent x c.in-Some.ensures))) in
    record { performed = performed; law = can_law (view_of p) (view_of p) c.args.agent c.args.term _ performed }
