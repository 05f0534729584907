use Rattle.std.proofs.Common.{List, subst}
use Rattle.scripts.specs.Composing.{view}
use Rattle.deduction.specs.Term.{Term}
use Rattle.terms.specs.Listed.{listed}
use Rattle.terms.specs.Tree.{tree}
use Rattle.effects.specs.Sending.{Sends}
use Rattle.rules.specs.Script.{Script as RuleScript}
use Rattle.rules.specs.State.{fresh_names}
use Rattle.protocol.specs.View.{view_of}
use Rattle.protocol.proofs.Addressing.{view_at}
use Rattle.protocol.proofs.Asking.{agent_known}
use Rattle.protocol.proofs.Reading.{script_there}
use Rattle.protocol.proofs.Freshness.{fresh_marked, names_marked, mates_known}
use Rattle.protocol.proofs.protocol.Protocol.sent.Goals as goal

pub returns : goal.returns
returns c =
    let p = c.args.self.now in
    let ts = listed p.terms in
    let n = c.args.message in
    let fresh = c.fresh_names-fresh.result in
    let x = c.index-as_slice-sender.result in
    let at = script_there p _ c.as_slice.ensures c.args.sender x c.requires.agent c.index-as_slice-sender.is in
    let F = c.fresh_names-fresh.ensures in
    subst (λ (v : RuleScript). Sends ts v (fresh_names (view_of p) (tree ts n)) (tree ts n) c.args.address c.send.result) (view_at p c.args.sender x at)
    (subst (λ (f : List Term). Sends ts (view ts x) f (tree ts n) c.args.address c.send.result) (fresh_marked p n c.requires.term c.shown.result c.shown.ensures fresh F)
    (c.send.ensures c.requires.term (agent_known p c.args.sender x at) (names_marked p n c.requires.term c.shown.result c.shown.ensures fresh F) (mates_known p fresh)))
