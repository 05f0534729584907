use Rattle.std.proofs.lemmas.Result.{err_from_is_err_and}
use Rattle.std.proofs.Common.{Ok, Err}
use Rattle.terms.specs.Listed.{listed}
use Rattle.scripts.proofs.Walking.{writes_unit}
use Rattle.effects.proofs.Freshening.{fresh_stop, fresh_alone, fresh_mated}
use Rattle.effects.proofs.fresh.freshen.Goals as goal

pub returns-in_err-slot : goal.returns-in_err-slot
returns-in_err-slot c =
    let ts = listed c.args.terms.now in
    let q = err_from_is_err_and c.from_residual.result c.from_residual.ensures.1 in
    λ l m k. rw (q.1, q.2) (fresh_stop ts c.args.script.now c.push_fresh.new.script c.args.name l k c.in_err-slot.field-0.0 c.in_err-slot.ensures)

pub returns-in_err-push : goal.returns-in_err-push
returns-in_err-push c =
    let ts = listed c.args.terms.now in
    let q = err_from_is_err_and c.from_residual-in_err-push.result c.from_residual-in_err-push.ensures.1 in
    let x = c.in_err-push.field-0.0 in
    let s2 = c.push.new.self in
    λ l m k.
    rw (q.1, q.2) (writes_unit ts _ x s2
    (fresh_mated ts c.args.script.now c.push_fresh.new.script c.args.name l k c.in_ok-slot.slot c.in_ok-slot.ensures c.in-Some.mate c.in-Some.ensures (Err x) s2 c.in_err-push.ensures))

pub returns-in_ok-push : goal.returns-in_ok-push
returns-in_ok-push c =
    let ts = listed c.args.terms.now in
    let s2 = c.push.new.self in
    λ l m k.
    fresh_mated ts c.args.script.now c.push_fresh.new.script c.args.name l k c.in_ok-slot.slot c.in_ok-slot.ensures c.in-Some.mate c.in-Some.ensures (Ok c.in_ok-push.field-0) s2 c.in_ok-push.ensures

pub returns-in_default : goal.returns-in_default
returns-in_default c =
    let ts = listed c.args.terms.now in
    λ l m k.
    fresh_alone ts c.args.script.now c.push_fresh.new.script c.args.name l k c.in_ok-slot.slot c.in_ok-slot.ensures c.in_default.ensures m
