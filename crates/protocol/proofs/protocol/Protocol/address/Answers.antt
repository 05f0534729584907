use Rattle.std.proofs.Common.{sym, ◌∙◌, arith}
use Rattle.protocol.specs.View.{lines_of}
use Rattle.rules.proofs.Nth.{nth_below}
use Rattle.protocol.proofs.Addressing.{no_receiver, no_message, same_agent, no_sender_name, no_receiver_name, no_room, no_address, slot_at}
use Rattle.protocol.proofs.protocol.Protocol.address.Goals as goal
use Rattle.protocol.proofs.protocol.Protocol.address.Goals.{then-receiver-agents-via-then-receiver-agents, then-receiver-agents-via-else-receiver-agents+then-message-len}

pub returns-then-receiver-agents : goal.returns-then-receiver-agents
returns-then-receiver-agents c =
    let p = c.args.self.now in
    let la = nth_below (lines_of p) c.args.sender _ c.in-Some.ensures in
    elim c.then-receiver-agents.branch [
      | then-receiver-agents-via-then-receiver-agents w ↦ no_receiver p c.args.sender c.args.receiver c.args.message (omega (arith, w.if-receiver-agents.true, c.agents.ensures))
      | then-receiver-agents-via-else-receiver-agents+then-message-len w ↦
          no_message p c.args.sender c.args.receiver c.args.message la (omega (arith, w.if-receiver-agents.false, c.agents.ensures)) (omega (arith, w.if-message-len.true, w.len.ensures.is))
    ]

pub returns-then-sender-receiver : goal.returns-then-sender-receiver
returns-then-sender-receiver c =
    same_agent c.args.self.now c.args.sender c.args.receiver c.args.message (nth_below (lines_of c.args.self.now) c.args.sender _ c.in-Some.ensures)
    (omega (arith, c.if-receiver-agents.false, c.agents.ensures)) (omega (arith, c.if-message-len.false, c.len.ensures.is)) c.if-sender-receiver.true

pub returns-in_default-name_of : goal.returns-in_default-name_of
returns-in_default-name_of c =
    no_sender_name c.args.self.now c.args.sender c.args.receiver c.args.message (nth_below (lines_of c.args.self.now) c.args.sender _ c.in-Some.ensures)
    (omega (arith, c.if-receiver-agents.false, c.agents.ensures)) (omega (arith, c.if-message-len.false, c.len.ensures.is)) c.if-sender-receiver.false c.in_default-name_of.ensures

pub returns-in_default-name_of-2 : goal.returns-in_default-name_of-2
returns-in_default-name_of-2 c =
    no_receiver_name c.args.self.now c.args.sender c.args.receiver c.args.message (nth_below (lines_of c.args.self.now) c.args.sender _ c.in-Some.ensures)
    (omega (arith, c.if-receiver-agents.false, c.agents.ensures)) (omega (arith, c.if-message-len.false, c.len.ensures.is)) c.if-sender-receiver.false
    _ c.in-Some-name_of.ensures.1 c.in_default-name_of-2.ensures

pub returns-then-steps-ge64 : goal.returns-then-steps-ge64
returns-then-steps-ge64 c =
    no_room c.args.self.now c.args.sender c.args.receiver c.args.message (nth_below (lines_of c.args.self.now) c.args.sender _ c.in-Some.ensures)
    (omega (arith, c.if-receiver-agents.false, c.agents.ensures)) (omega (arith, c.if-message-len.false, c.len.ensures.is)) c.if-sender-receiver.false
    _ c.in-Some-name_of.ensures.1 _ c.in-Some-name_of-2.ensures.1 (omega (arith, c.if-steps-ge64.true, c.steps.ensures))

pub returns-in-Some-slot_of : goal.returns-in-Some-slot_of
returns-in-Some-slot_of c =
    let p = c.args.self.now in
    let f = c.in-Some-name_of.ensures in
    let t = c.in-Some-name_of-2.ensures in
    record {
      sender_below = nth_below (lines_of p) c.args.sender _ c.in-Some.ensures;
      receiver_below = omega (arith, c.if-receiver-agents.false, c.agents.ensures);
      message_below = omega (arith, c.if-message-len.false, c.len.ensures.is);
      different = c.if-sender-receiver.false;
      from_below = f.0;
      from_is = f.1;
      to_below = t.0;
      to_is = t.1;
      room = omega (arith, c.if-steps-ge64.false, c.steps.ensures);
      address_is = sym (slot_at p c.args.sender c.in-Some-name_of-2.to c.in-Some.script.now c.in-Some.ensures t.0) ∙ sym c.in-Some-slot_of.ensures;
    }

pub returns-in-None : goal.returns-in-None
returns-in-None c =
    let p = c.args.self.now in
    let t = c.in-Some-name_of-2.ensures in
    no_address p c.args.sender c.args.receiver c.args.message (nth_below (lines_of p) c.args.sender _ c.in-Some.ensures)
    (omega (arith, c.if-receiver-agents.false, c.agents.ensures)) (omega (arith, c.if-message-len.false, c.len.ensures.is)) c.if-sender-receiver.false
    _ c.in-Some-name_of.ensures.1 _ t.1 (omega (arith, c.if-steps-ge64.false, c.steps.ensures))
    (sym (slot_at p c.args.sender c.in-Some-name_of-2.to c.in-Some.script.now c.in-Some.ensures t.0) ∙ sym c.in-None.ensures)
