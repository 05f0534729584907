use Rattle.std.proofs.Common.{refl}
use Rattle.std.proofs.lemmas.Result.{err_from_is_err_and}
use Rattle.terms.specs.Listed.{listed}
use Rattle.terms.proofs.Listed.{orderly}
use Rattle.scripts.proofs.View.{named_known}
use Rattle.scripts.proofs.Walking.{lacks_none, known_walk, unbuilt, brought_at, brought_stop, a_below, b_below, left_stop, right_walk, key_is, locked, unlock_stop, content_walk, walk_leaf, walk_here, walk_other}
use Rattle.scripts.proofs.script.Script.+bring.Goals as goal

pub returns-then-is_none-clause-walks : goal.returns-then-is_none-clause-walks
returns-then-is_none-clause-walks t c = λ lt k b.
    let ts = listed c.args.terms.now in
    let s = c.args.self.now in
    known_walk ts s c.args.op c.args.term c.bring_known.result c.bring_known.new.self
    (lacks_none ts s c.args.term c.missing.result c.if-is_none.ensures (c.missing.ensures lt (named_known _ _ k))) (c.bring_known.ensures.compares lt k b)

pub returns-in_err-slot-clause-walks : goal.returns-in_err-slot-clause-walks
returns-in_err-slot-clause-walks t c = λ lt k b.
    let q = err_from_is_err_and c.from_residual.result c.from_residual.ensures.1 in
    let u = unbuilt (orderly c.args.terms.now) c.args.self.now c.args.op c.args.term c.missing.result c.if-is_none.ensures c.missing.ensures lt k in
    rw (q.1, q.2) (brought_stop u _ c.push.new.self c.in_err-slot.ensures k b)

pub returns-in_default-clause-walks : goal.returns-in_default-clause-walks
returns-in_default-clause-walks t c = λ lt k b.
    let u = unbuilt (orderly c.args.terms.now) c.args.self.now c.args.op c.args.term c.missing.result c.if-is_none.ensures c.missing.ensures lt k in
    let h = brought_at u c.in_ok-slot.slot c.push.new.self c.in_ok-slot.ensures k b in
    walk_here u h (walk_leaf u (c.in_default.ensures lt))

pub returns-in-Digest-clause-walks : goal.returns-in-Digest-clause-walks
returns-in-Digest-clause-walks t c = λ lt k b.
    let u = unbuilt (orderly c.args.terms.now) c.args.self.now c.args.op c.args.term c.missing.result c.if-is_none.ensures c.missing.ensures lt k in
    let h = brought_at u c.in_ok-slot.slot c.push.new.self c.in_ok-slot.ensures k b in
    walk_other u h (rw c.in-Digest.is at c.in-Some.ensures.1) refl

pub returns-in-Entry-clause-walks : goal.returns-in-Entry-clause-walks
returns-in-Entry-clause-walks t c = λ lt k b.
    let u = unbuilt (orderly c.args.terms.now) c.args.self.now c.args.op c.args.term c.missing.result c.if-is_none.ensures c.missing.ensures lt k in
    let h = brought_at u c.in_ok-slot.slot c.push.new.self c.in_ok-slot.ensures k b in
    walk_other u h (rw c.in-Entry.is at c.in-Some.ensures.1) refl

pub returns-in_err-bring-in-Pair-clause-walks : goal.returns-in_err-bring-in-Pair-clause-walks
returns-in_err-bring-in-Pair-clause-walks t c = λ lt k b.
    let q = err_from_is_err_and c.from_residual-in_err-bring-in-Pair.result c.from_residual-in_err-bring-in-Pair.ensures.1 in
    let u = unbuilt (orderly c.args.terms.now) c.args.self.now c.args.op c.args.term c.missing.result c.if-is_none.ensures c.missing.ensures lt k in
    let h = brought_at u c.in_ok-slot.slot c.push.new.self c.in_ok-slot.ensures k b in
    let node = rw c.in-Pair.is at c.in-Some.ensures.1 in
    rw (q.1, q.2) (left_stop u h node _ _ (c.in_err-bring-in-Pair.ensures.walks (a_below u node) h.names tt))

pub returns-in_ok-bring-in-Pair-clause-walks : goal.returns-in_ok-bring-in-Pair-clause-walks
returns-in_ok-bring-in-Pair-clause-walks t c = λ lt k b.
    let u = unbuilt (orderly c.args.terms.now) c.args.self.now c.args.op c.args.term c.missing.result c.if-is_none.ensures c.missing.ensures lt k in
    let h = brought_at u c.in_ok-slot.slot c.push.new.self c.in_ok-slot.ensures k b in
    let node = rw c.in-Pair.is at c.in-Some.ensures.1 in
    let two = c.in_ok-bring-in-Pair.ensures.walks (a_below u node) h.names tt in
    right_walk u h node c.bring.new.self two.0 _ _ (c.bring-in-Pair.ensures.walks (b_below u node) two.1 tt)

pub returns-in_err-opener-in-Sealed-clause-walks : goal.returns-in_err-opener-in-Sealed-clause-walks
returns-in_err-opener-in-Sealed-clause-walks t c = λ lt k b.
    let q = err_from_is_err_and c.from_residual-in_err-opener-in-Sealed.result c.from_residual-in_err-opener-in-Sealed.ensures.1 in
    let u = unbuilt (orderly c.args.terms.now) c.args.self.now c.args.op c.args.term c.missing.result c.if-is_none.ensures c.missing.ensures lt k in
    let h = brought_at u c.in_ok-slot.slot c.push.new.self c.in_ok-slot.ensures k b in
    let node = rw c.in-Sealed.is at c.in-Some.ensures.1 in
    rw (q.1, q.2) (unlock_stop u h node _ _ (c.in_err-opener-in-Sealed.ensures.unlocks (b_below u node) (key_is u h node) h.names))

pub returns-in-None-clause-walks : goal.returns-in-None-clause-walks
returns-in-None-clause-walks t c = λ lt k b.
    let u = unbuilt (orderly c.args.terms.now) c.args.self.now c.args.op c.args.term c.missing.result c.if-is_none.ensures c.missing.ensures lt k in
    let h = brought_at u c.in_ok-slot.slot c.push.new.self c.in_ok-slot.ensures k b in
    let node = rw c.in-Sealed.is at c.in-Some.ensures.1 in
    locked u h node _ (rw c.in-None.is at (c.in_ok-opener-in-Sealed.ensures.unlocks (b_below u node) (key_is u h node) h.names))

pub returns-in-Some-2-clause-walks : goal.returns-in-Some-2-clause-walks
returns-in-Some-2-clause-walks t c = λ lt k b.
    let u = unbuilt (orderly c.args.terms.now) c.args.self.now c.args.op c.args.term c.missing.result c.if-is_none.ensures c.missing.ensures lt k in
    let h = brought_at u c.in_ok-slot.slot c.push.new.self c.in_ok-slot.ensures k b in
    let node = rw c.in-Sealed.is at c.in-Some.ensures.1 in
    let opened = rw c.in-Some-2.is at (c.in_ok-opener-in-Sealed.ensures.unlocks (b_below u node) (key_is u h node) h.names) in
    content_walk u h node c.in-Some-2.opener c.unlock.new.self opened _ _ (c.bring-in-Some-2.ensures.walks (a_below u node) opened.1 tt)
