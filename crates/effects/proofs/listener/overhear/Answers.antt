use Rattle.std.proofs.lemmas.Result.{err_from_is_err_and}
use Rattle.terms.specs.Listed.{listed}
use Rattle.terms.specs.Tree.{tree}
use Rattle.scripts.specs.Composing.{view}
use Rattle.effects.proofs.Learning.{overheard_stop_first, overheard_stop_second, overheard_stop_third, overheard_on}
use Rattle.effects.proofs.listener.overhear.Goals as goal

pub returns-in_err-hold_sender : goal.returns-in_err-hold_sender
returns-in_err-hold_sender c =
    let ts = listed c.args.terms.now in
    let v = view ts c.args.script.now in
    let q = err_from_is_err_and c.from_residual.result c.from_residual.ensures.1 in
    λ lf lt lm k.
    rw (q.1, q.2) (overheard_stop_first ts v (tree ts c.args.from) (tree ts c.args.to) (tree ts c.args.message) c.hold_sender.new.script c.in_err-hold_sender.field-0.0 (c.in_err-hold_sender.ensures lf k))

pub returns-in_err-hold_receiver : goal.returns-in_err-hold_receiver
returns-in_err-hold_receiver c =
    let ts = listed c.args.terms.now in
    let v = view ts c.args.script.now in
    let s1 = c.hold_sender.new.script in
    let q = err_from_is_err_and c.from_residual-in_err-hold_receiver.result c.from_residual-in_err-hold_receiver.ensures.1 in
    λ lf lt lm k.
    let a = c.in_ok-hold_sender.ensures lf k in
    rw (q.1, q.2) (overheard_stop_second ts v (tree ts c.args.from) (tree ts c.args.to) (tree ts c.args.message) (view ts s1) a.0 c.hold_receiver.new.script c.in_err-hold_receiver.field-0.0 (c.in_err-hold_receiver.ensures lt a.1))

pub returns-in_err-hold : goal.returns-in_err-hold
returns-in_err-hold c =
    let ts = listed c.args.terms.now in
    let v = view ts c.args.script.now in
    let s1 = c.hold_sender.new.script in
    let s2 = c.hold_receiver.new.script in
    let q = err_from_is_err_and c.from_residual-in_err-hold.result c.from_residual-in_err-hold.ensures.1 in
    λ lf lt lm k.
    let a = c.in_ok-hold_sender.ensures lf k in
    let b = c.in_ok-hold_receiver.ensures lt a.1 in
    rw (q.1, q.2) (overheard_stop_third ts v (tree ts c.args.from) (tree ts c.args.to) (tree ts c.args.message) (view ts s1) a.0 (view ts s2) b.0 c.hold.new.script c.in_err-hold.field-0.0 (c.in_err-hold.ensures lm b.1 lm))

pub returns : goal.returns
returns c =
    let ts = listed c.args.terms.now in
    let v = view ts c.args.script.now in
    let s1 = c.hold_sender.new.script in
    let s2 = c.hold_receiver.new.script in
    let s3 = c.hold.new.script in
    λ lf lt lm k.
    let a = c.in_ok-hold_sender.ensures lf k in
    let b = c.in_ok-hold_receiver.ensures lt a.1 in
    let d = c.in_ok-hold.ensures lm b.1 lm in
    overheard_on ts v (tree ts c.args.from) (tree ts c.args.to) (tree ts c.args.message) (view ts s1) a.0 (view ts s2) b.0 (view ts s3) d.0 c.saturated.result (c.saturated.ensures d.1)
