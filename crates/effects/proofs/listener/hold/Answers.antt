use Rattle.std.proofs.lemmas.Result.{err_from_is_err_and}
use Rattle.terms.specs.Listed.{listed}
use Rattle.terms.specs.Tree.{tree}
use Rattle.scripts.specs.Composing.{view}
use Rattle.scripts.specs.Lines.{op_of}
use Rattle.scripts.proofs.View.{named_known}
use Rattle.scripts.proofs.Walking.{lacks_none, lacks_some}
use Rattle.effects.proofs.Learning.{overhears_composed, hold_stop, hold_on}
use Rattle.effects.proofs.listener.hold.Goals as goal

pub returns-then-is_none : goal.returns-then-is_none
returns-then-is_none c =
    let ts = listed c.args.terms.now in
    let s = c.args.script.now in
    λ l k b.
    let some = lacks_none ts s c.args.term c.missing.result c.if-is_none.ensures (c.missing.ensures l (named_known _ _ k)) in
    (overhears_composed (view ts s) (op_of (tree ts) c.args.op) (tree ts c.args.term) some.0 some.1, k)

pub returns-in_err-push : goal.returns-in_err-push
returns-in_err-push c =
    let ts = listed c.args.terms.now in
    let s = c.args.script.now in
    let q = err_from_is_err_and c.from_residual.result c.from_residual.ensures.1 in
    λ l k b.
    let none = lacks_some ts s c.args.term c.missing.result c.if-is_none.ensures (c.missing.ensures l (named_known _ _ k)) in
    rw (q.1, q.2) (hold_stop ts s c.push.new.self c.args.op c.args.term l k b none c.in_err-push.field-0.0 c.in_err-push.ensures)

pub returns : goal.returns
returns c =
    let ts = listed c.args.terms.now in
    let s = c.args.script.now in
    λ l k b.
    let none = lacks_some ts s c.args.term c.missing.result c.if-is_none.ensures (c.missing.ensures l (named_known _ _ k)) in
    hold_on ts s c.push.new.self c.args.op c.args.term l k b none c.in_ok-push.field-0 c.in_ok-push.ensures
