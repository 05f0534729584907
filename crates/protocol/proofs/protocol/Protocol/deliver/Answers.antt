use Rattle.std.proofs.Common.{◌≡◌, Ok, Err, MatchResult, arith, rules}
use Rattle.protocol.specs.declared.refusal.Refusal.TheVariants.{ScriptFull}
use Rattle.protocol.specs.Delivering.{refused_send}
use Rattle.protocol.specs.View.{view_of}
use Rattle.protocol.proofs.Asking.{agent_known}
use Rattle.protocol.proofs.Delivering.{name_named, told_ok, told_err, passed_on, send_refused, receive_refused, hear_refused, all_granted}
use Rattle.protocol.proofs.Reading.{script_there}
use Rattle.protocol.proofs.protocol.Protocol.deliver.Goals as goal

pub returns-in_err-sent : goal.returns-in_err-sent
returns-in_err-sent c =
    let p = c.args.self.now in
    let w = c.requires.addressed in
    let d = c.args.delivery in
    let is : MatchResult c.sent.result (λ s. c.map_err.result ≡ Ok s) (λ e. c.map_err.result ≡ Err (refused_send e c.args.sender)) = search rules in
    let t = told_err (λ e. refused_send e c.args.sender) c.sent.result c.map_err.result c.in_err-sent.field-0.0 is c.in_err-sent.was in
    passed_on p c.args.sender c.args.receiver c.args.message _ _ c.from_residual.result c.from_residual.ensures.1 t.2
    (send_refused p c.args.sender c.args.receiver c.args.message d w c.sent.result t.0 t.1 c.sent.ensures)

pub returns-in_err-received : goal.returns-in_err-received
returns-in_err-received c =
    let p = c.args.self.now in
    let w = c.requires.addressed in
    let d = c.args.delivery in
    let is : MatchResult c.sent.result (λ s. c.map_err.result ≡ Ok s) (λ e. c.map_err.result ≡ Err (refused_send e c.args.sender)) = search rules in
    let x = c.index-scripts-receiver.result in
    let at = script_there p _ c.as_slice-scripts.ensures c.args.receiver x w.receiver_below c.index-scripts-receiver.is in
    let S = told_ok (λ e. refused_send e c.args.sender) c.sent.result c.map_err.result c.in_ok-sent.sent is c.in_ok-sent.was in
    let is2 : MatchResult c.receive.result (λ s. c.map_err-2.result ≡ Ok s) (λ e. c.map_err-2.result ≡ Err (ScriptFull c.args.receiver)) = search rules in
    let got = c.receive.ensures w.from_below w.message_below (name_named (view_of p) c.args.sender _ w.from_is) (agent_known p c.args.receiver x at) in
    let t = told_err (λ e. ScriptFull c.args.receiver) c.receive.result c.map_err-2.result c.in_err-received.field-0.0 is2 c.in_err-received.was in
    passed_on p c.args.sender c.args.receiver c.args.message _ _ c.from_residual-in_err-received.result c.from_residual-in_err-received.ensures.1 t.2
    (receive_refused p c.args.sender c.args.receiver c.args.message d w c.in_ok-sent.sent c.sent.result S c.sent.ensures x at c.receive.result t.0 t.1 got)

pub returns-in_err-heard : goal.returns-in_err-heard
returns-in_err-heard c =
    let p = c.args.self.now in
    let w = c.requires.addressed in
    let d = c.args.delivery in
    let is : MatchResult c.sent.result (λ s. c.map_err.result ≡ Ok s) (λ e. c.map_err.result ≡ Err (refused_send e c.args.sender)) = search rules in
    let x = c.index-scripts-receiver.result in
    let at = script_there p _ c.as_slice-scripts.ensures c.args.receiver x w.receiver_below c.index-scripts-receiver.is in
    let S = told_ok (λ e. refused_send e c.args.sender) c.sent.result c.map_err.result c.in_ok-sent.sent is c.in_ok-sent.was in
    let is2 : MatchResult c.receive.result (λ s. c.map_err-2.result ≡ Ok s) (λ e. c.map_err-2.result ≡ Err (ScriptFull c.args.receiver)) = search rules in
    let got = c.receive.ensures w.from_below w.message_below (name_named (view_of p) c.args.sender _ w.from_is) (agent_known p c.args.receiver x at) in
    let z = c.index-scripts-0.result in
    let there = script_there p _ c.as_slice-scripts.ensures 0 z (omega (arith, w.sender_below)) c.index-scripts-0.is in
    let R = told_ok (λ e. ScriptFull c.args.receiver) c.receive.result c.map_err-2.result c.in_ok-received.received is2 c.in_ok-received.was in
    let is3 : MatchResult c.overhear.result (λ s. c.map_err-3.result ≡ Ok s) (λ e. c.map_err-3.result ≡ Err (ScriptFull 0)) = search rules in
    let heard = c.overhear.ensures w.from_below w.to_below w.message_below (agent_known p 0 z there) in
    let t = told_err (λ e. ScriptFull 0) c.overhear.result c.map_err-3.result c.in_err-heard.field-0.0 is3 c.in_err-heard.was in
    passed_on p c.args.sender c.args.receiver c.args.message _ _ c.from_residual-in_err-heard.result c.from_residual-in_err-heard.ensures.1 t.2
    (hear_refused p c.args.sender c.args.receiver c.args.message d w c.in_ok-sent.sent c.sent.result S c.sent.ensures x at c.in_ok-received.received c.receive.result R got z there c.overhear.result t.0 t.1 heard)

pub returns : goal.returns
returns c =
    let p = c.args.self.now in
    let w = c.requires.addressed in
    let d = c.args.delivery in
    let is : MatchResult c.sent.result (λ s. c.map_err.result ≡ Ok s) (λ e. c.map_err.result ≡ Err (refused_send e c.args.sender)) = search rules in
    let x = c.index-scripts-receiver.result in
    let at = script_there p _ c.as_slice-scripts.ensures c.args.receiver x w.receiver_below c.index-scripts-receiver.is in
    let S = told_ok (λ e. refused_send e c.args.sender) c.sent.result c.map_err.result c.in_ok-sent.sent is c.in_ok-sent.was in
    let is2 : MatchResult c.receive.result (λ s. c.map_err-2.result ≡ Ok s) (λ e. c.map_err-2.result ≡ Err (ScriptFull c.args.receiver)) = search rules in
    let got = c.receive.ensures w.from_below w.message_below (name_named (view_of p) c.args.sender _ w.from_is) (agent_known p c.args.receiver x at) in
    let z = c.index-scripts-0.result in
    let there = script_there p _ c.as_slice-scripts.ensures 0 z (omega (arith, w.sender_below)) c.index-scripts-0.is in
    let R = told_ok (λ e. ScriptFull c.args.receiver) c.receive.result c.map_err-2.result c.in_ok-received.received is2 c.in_ok-received.was in
    let is3 : MatchResult c.overhear.result (λ s. c.map_err-3.result ≡ Ok s) (λ e. c.map_err-3.result ≡ Err (ScriptFull 0)) = search rules in
    let heard = c.overhear.ensures w.from_below w.to_below w.message_below (agent_known p 0 z there) in
    let H = told_ok (λ e. ScriptFull 0) c.overhear.result c.map_err-3.result c.in_ok-heard.heard is3 c.in_ok-heard.was in
    all_granted p c.args.sender c.args.receiver c.args.message d w c.in_ok-sent.sent c.sent.result S c.sent.ensures x at c.in_ok-received.received c.receive.result R got z there c.in_ok-heard.heard c.overhear.result H heard
