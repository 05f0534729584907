use Rattle.std.proofs.lemmas.Result.{err_from_is_err_and}
use Rattle.terms.specs.Listed.{listed}
use Rattle.terms.specs.Tree.{tree}
use Rattle.scripts.specs.Composing.{view}
use Rattle.scripts.proofs.View.{named_known}
use Rattle.scripts.proofs.Walking.{lacks_none, lacks_some}
use Rattle.effects.proofs.Learning.{knows_composed, know_stop, know_on}
use Rattle.effects.proofs.knowledge.know.Goals as goal

pub returns-then-is_none : goal.returns-then-is_none
returns-then-is_none c =
    let ts = listed c.args.terms.now in
    let s = c.args.script.now in
    λ l k.
    let some = lacks_none ts s c.args.term c.missing.result c.if-is_none.ensures (c.missing.ensures l (named_known _ _ k)) in
    (knows_composed (view ts s) (tree ts c.args.term) some.0 some.1, k)

pub returns-in_err-give : goal.returns-in_err-give
returns-in_err-give c =
    let ts = listed c.args.terms.now in
    let s = c.args.script.now in
    let q = err_from_is_err_and c.from_residual.result c.from_residual.ensures.1 in
    λ l k.
    let none = lacks_some ts s c.args.term c.missing.result c.if-is_none.ensures (c.missing.ensures l (named_known _ _ k)) in
    rw (q.1, q.2) (know_stop ts s c.give.new.script c.args.term l k none c.in_err-give.field-0.0 c.in_err-give.ensures)

pub returns : goal.returns
returns c =
    let ts = listed c.args.terms.now in
    let s = c.args.script.now in
    λ l k.
    let none = lacks_some ts s c.args.term c.missing.result c.if-is_none.ensures (c.missing.ensures l (named_known _ _ k)) in
    know_on ts s c.give.new.script c.args.term l k none c.in_ok-give.field-0 c.in_ok-give.ensures c.saturated.result c.saturated.ensures
