use Rattle.std.proofs.lemmas.Result.{err_from_is_err_and}
use Rattle.terms.specs.Listed.{listed}
use Rattle.scripts.specs.Composing.{view}
use Rattle.scripts.proofs.View.{named_known}
use Rattle.effects.specs.Sending.{marked_trees}
use Rattle.effects.proofs.Sending.{send_stop_fresh, send_stop_message, send_stop_address, send_all}
use Rattle.effects.proofs.sender.send.Goals as goal

pub returns-in_err-freshen_all : goal.returns-in_err-freshen_all
returns-in_err-freshen_all c =
    let ts = listed c.args.terms.now in
    let v = view ts c.args.script.now in
    let f = marked_trees ts c.args.fresh.now in
    let q = err_from_is_err_and c.from_residual.result c.from_residual.ensures.1 in
    λ l k n m.
    let can = c.in_default.ensures l k n m in
    rw (q.1, q.2) (send_stop_fresh ts v f c.args.message c.args.address can c.freshen_all.new.script c.in_err-freshen_all.field-0.0 (c.in_err-freshen_all.ensures k m))

pub returns-in_err-slot : goal.returns-in_err-slot
returns-in_err-slot c =
    let ts = listed c.args.terms.now in
    let v = view ts c.args.script.now in
    let f = marked_trees ts c.args.fresh.now in
    let s1 = c.freshen_all.new.script in
    let q = err_from_is_err_and c.from_residual-in_err-slot.result c.from_residual-in_err-slot.ensures.1 in
    λ l k n m.
    let can = c.in_default.ensures l k n m in
    let a = c.in_ok-freshen_all.ensures k m in
    rw (q.1, q.2) (send_stop_message ts v f c.args.message c.args.address can s1 a.0 c.compose.new.self c.in_err-slot.field-0.0 (c.in_err-slot.ensures.composes l (named_known _ _ a.1)))

pub returns-in_err-address_to : goal.returns-in_err-address_to
returns-in_err-address_to c =
    let ts = listed c.args.terms.now in
    let v = view ts c.args.script.now in
    let f = marked_trees ts c.args.fresh.now in
    let s1 = c.freshen_all.new.script in
    let s2 = c.compose.new.self in
    let q = err_from_is_err_and c.from_residual-in_err-address_to.result c.from_residual-in_err-address_to.ensures.1 in
    λ l k n m.
    let can = c.in_default.ensures l k n m in
    let a = c.in_ok-freshen_all.ensures k m in
    let b = c.in_ok-slot.ensures.composes l (named_known _ _ a.1) in
    let d = c.in_ok-slot.ensures.names a.1 in
    rw (q.1, q.2) (send_stop_address ts v f c.args.message c.args.address can s1 a.0 c.in_ok-slot.slot s2 c.address_to.new.script b d c.in_err-address_to.field-0.0 c.in_err-address_to.ensures)

pub returns : goal.returns
returns c =
    let ts = listed c.args.terms.now in
    let v = view ts c.args.script.now in
    let f = marked_trees ts c.args.fresh.now in
    let s1 = c.freshen_all.new.script in
    let s2 = c.compose.new.self in
    λ l k n m.
    let can = c.in_default.ensures l k n m in
    let a = c.in_ok-freshen_all.ensures k m in
    let b = c.in_ok-slot.ensures.composes l (named_known _ _ a.1) in
    let d = c.in_ok-slot.ensures.names a.1 in
    send_all ts v f c.args.message c.args.address can s1 a.0 c.in_ok-slot.slot s2 c.address_to.new.script b d c.in_ok-address_to.field-0 c.in_ok-address_to.ensures
