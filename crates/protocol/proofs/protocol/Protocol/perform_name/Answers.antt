use denote.Enum.Bare.{same_true, same_false}
use Rattle.std.proofs.Common.{sym, ◌∙◌}
use Rattle.terms.specs.contracts.node.Kind.{the_type}
use Rattle.std.proofs.lemmas.Result.{err_from_is_err_and}
use Rattle.protocol.specs.View.{lines_of}
use Rattle.protocol.proofs.Naming.{name_new, refused_name, room_for, named_performed, named_known, named_came, no_lines, agent_lines}
use Rattle.protocol.proofs.protocol.Protocol.perform_name.Goals as goal

pub returns-in_err-admits-clause-performed : goal.returns-in_err-admits-clause-performed
returns-in_err-admits-clause-performed c =
    let q = err_from_is_err_and c.from_residual.result c.from_residual.ensures.1 in
    refused_name c.args.self.now c.args.kind c.in-Some.kind c.in-Some.ensures c.from_residual.result q.0 c.in_err-admits.field-0.0 q.1 q.2 c.in_err-admits.ensures

pub add_name-requires : goal.add_name-requires
add_name-requires c = record {
  room = (room_for c.args.self.now c.args.kind c.in-Some.kind c.in-Some.ensures c.in_ok-admits.ensures).0;
  new = name_new c.args.self.now c.in-Some.kind;
}

pub invariant_of-self-then-eq : goal.invariant_of-self-then-eq
invariant_of-self-then-eq c =
    let self = c.args.self.now in
    let k = c.in-Some.kind in
    let w = c.in_ok-name.ensures in
    let room = c.in_ok-admits.ensures in
    let is = same_true the_type tt _ _ (sym c.eq.ensures ∙ c.if-eq.true) in
    let lines =
    agent_lines self c.args.kind k c.in-Some.ensures c.in_ok-name.name room is c.party_script.result c.party_script.ensures c.push-agent.result c.push-agent.new.self c.push-agent.ensures.ok c.push-agent.ensures.full in
    record {
      known = named_known self c.args.kind k c.in-Some.ensures c.in_ok-name.name c.add_name.new.terms _ room w.0 w.1 lines;
      came = named_came self c.args.kind k c.in-Some.ensures c.in_ok-name.name c.add_name.new.terms _ room w.0 w.1 lines;
    }

pub invariant_of-self-else-eq : goal.invariant_of-self-else-eq
invariant_of-self-else-eq c =
    let self = c.args.self.now in
    let k = c.in-Some.kind in
    let w = c.in_ok-name.ensures in
    let room = c.in_ok-admits.ensures in
    let lines = no_lines k c.in_ok-name.name (lines_of self) (same_false the_type _ _ (sym c.eq.ensures ∙ c.if-eq.false)) in
    record {
      known = named_known self c.args.kind k c.in-Some.ensures c.in_ok-name.name c.add_name.new.terms _ room w.0 w.1 lines;
      came = named_came self c.args.kind k c.in-Some.ensures c.in_ok-name.name c.add_name.new.terms _ room w.0 w.1 lines;
    }

pub returns-then-eq-clause-performed : goal.returns-then-eq-clause-performed
returns-then-eq-clause-performed c =
    let self = c.args.self.now in
    let k = c.in-Some.kind in
    let w = c.in_ok-name.ensures in
    let room = c.in_ok-admits.ensures in
    let is = same_true the_type tt _ _ (sym c.eq.ensures ∙ c.if-eq.true) in
    named_performed self c.args.kind k c.in-Some.ensures c.in_ok-name.name c.add_name.new.terms _ room w.0 w.1
    (agent_lines self c.args.kind k c.in-Some.ensures c.in_ok-name.name room is c.party_script.result c.party_script.ensures c.push-agent.result c.push-agent.new.self c.push-agent.ensures.ok c.push-agent.ensures.full)

pub returns-else-eq-clause-performed : goal.returns-else-eq-clause-performed
returns-else-eq-clause-performed c =
    let self = c.args.self.now in
    let k = c.in-Some.kind in
    let w = c.in_ok-name.ensures in
    named_performed self c.args.kind k c.in-Some.ensures c.in_ok-name.name c.add_name.new.terms _ c.in_ok-admits.ensures w.0 w.1
    (no_lines k c.in_ok-name.name (lines_of self) (same_false the_type _ _ (sym c.eq.ensures ∙ c.if-eq.false)))
