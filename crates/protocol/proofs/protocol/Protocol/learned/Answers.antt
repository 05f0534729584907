use Rattle.std.proofs.Common.{◌≡◌, ◌<◌, length, Ok, Err, MatchResult, arith, rules}
use Rattle.protocol.specs.declared.refusal.Refusal.TheVariants.{ScriptFull}
use Rattle.terms.specs.Listed.{listed}
use Rattle.protocol.proofs.Asking.{agent_known}
use Rattle.protocol.proofs.Knowing.{know_no_term, know_late, know_learned}
use Rattle.protocol.proofs.protocol.Protocol.learned.Goals as goal

pub returns-then-term-len : goal.returns-then-term-len
returns-then-term-len c = know_no_term c.args.self.now c.args.agent c.args.term c.in-Some.script.now c.in-Some.ensures (omega (arith, c.if-term-len.true, c.len.ensures.is))

pub returns-then-steps-gt0 : goal.returns-then-steps-gt0
returns-then-steps-gt0 c =
    know_late c.args.self.now c.args.agent c.args.term c.in-Some.script.now c.in-Some.ensures (omega (arith, c.if-term-len.false, c.len.ensures.is)) (omega (arith, c.if-steps-gt0.true, c.steps.ensures))

pub returns : goal.returns
returns c =
    let p = c.args.self.now in
    let l : c.args.term < length (listed p.terms) = omega (arith, c.if-term-len.false, c.len.ensures.is) in
    let is : MatchResult c.know.result (λ y. c.map_err.result ≡ Ok y) (λ e. c.map_err.result ≡ Err (ScriptFull c.args.agent)) = search rules in
    know_learned p c.args.agent c.args.term c.in-Some.script.now c.in-Some.ensures l (omega (arith, c.if-steps-gt0.false, c.steps.ensures)) c.know.result c.map_err.result
    (c.know.ensures l (agent_known p c.args.agent c.in-Some.script.now c.in-Some.ensures)) is
