use Rattle.std.proofs.lemmas.Result.{err_from_is_err_and}
use Rattle.terms.specs.Listed.{listed}
use Rattle.terms.specs.Tree.{tree}
use Rattle.scripts.specs.Composing.{view}
use Rattle.effects.proofs.Learning.{received_stop_first, received_stop_second, received_on}
use Rattle.effects.proofs.receiver.receive.Goals as goal

pub returns-in_err-walk_sender : goal.returns-in_err-walk_sender
returns-in_err-walk_sender c =
    let ts = listed c.args.terms.now in
    let s = c.args.script.now in
    let q = err_from_is_err_and c.from_residual.result c.from_residual.ensures.1 in
    λ ls lm n k.
    rw (q.1, q.2) (received_stop_first ts (view ts s) (tree ts c.args.sender) (tree ts c.args.message) n s c.walk_sender.new.script c.in_err-walk_sender.field-0.0 (c.in_err-walk_sender.ensures ls k))

pub returns-in_err-walk_message : goal.returns-in_err-walk_message
returns-in_err-walk_message c =
    let ts = listed c.args.terms.now in
    let s = c.args.script.now in
    let s1 = c.walk_sender.new.script in
    let q = err_from_is_err_and c.from_residual-in_err-walk_message.result c.from_residual-in_err-walk_message.ensures.1 in
    λ ls lm n k.
    let a = c.in_ok-walk_sender.ensures ls k in
    rw (q.1, q.2) (received_stop_second ts (view ts s) (tree ts c.args.sender) (tree ts c.args.message) n (view ts s1) a.0 s1 c.walk_message.new.script c.in_err-walk_message.field-0.0 (c.in_err-walk_message.ensures lm a.1))

pub returns : goal.returns
returns c =
    let ts = listed c.args.terms.now in
    let s = c.args.script.now in
    let s1 = c.walk_sender.new.script in
    let s2 = c.walk_message.new.script in
    λ ls lm n k.
    let a = c.in_ok-walk_sender.ensures ls k in
    let b = c.in_ok-walk_message.ensures lm a.1 in
    received_on ts (view ts s) (tree ts c.args.sender) (tree ts c.args.message) n (view ts s1) a.0 (view ts s2) b.0 c.saturated.result (c.saturated.ensures b.1)
