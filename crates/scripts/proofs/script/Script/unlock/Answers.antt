use Rattle.std.proofs.Common.{sym}
use Rattle.std.proofs.lemmas.Result.{err_from_is_err_and}
use Rattle.terms.specs.Listed.{listed}
use Rattle.terms.proofs.Listed.{orderly}
use Rattle.scripts.proofs.View.{named_known}
use Rattle.scripts.proofs.Walking.{lacks_none, no_opener, opener_missing, opener_put, opener_stopped}
use Rattle.scripts.proofs.script.Script.unlock.Goals as goal

pub returns-in_default-clause-unlocks : goal.returns-in_default-clause-unlocks
returns-in_default-clause-unlocks c = λ l k a.
    let ts = c.args.terms.now in
    no_opener (listed ts) (orderly ts) c.args.self.now c.args.key l k a c.in_default.ensures

pub returns-then-is_some-clause-unlocks : goal.returns-then-is_some-clause-unlocks
returns-then-is_some-clause-unlocks c = λ l k a.
    let ts = c.args.terms.now in
    let o = c.in-Some in
    opener_missing (listed ts) (orderly ts) c.args.self.now c.args.key l k a o.opener o.ensures
    c.missing_opener.result (sym c.if-is_some.ensures) (c.missing_opener.ensures o.ensures.2 (named_known _ _ a))

pub returns-in_err-slot-clause-unlocks : goal.returns-in_err-slot-clause-unlocks
returns-in_err-slot-clause-unlocks c = λ l k a.
    let ts = c.args.terms.now in
    let s = c.args.self.now in
    let o = c.in-Some in
    let q = err_from_is_err_and c.from_residual.result c.from_residual.ensures.1 in
    let known = named_known _ _ a in
    let composed = lacks_none (listed ts) s o.opener c.missing_opener.result (sym c.if-is_some.ensures) (c.missing_opener.ensures o.ensures.2 known) in
    rw (q.1, q.2) (opener_stopped (listed ts) (orderly ts) s c.args.key l k a o.opener o.ensures c.in_err-slot.field-0.0 c.put.new.self composed (c.in_err-slot.ensures.puts o.ensures.2 known))

pub returns-clause-unlocks : goal.returns-clause-unlocks
returns-clause-unlocks c = λ l k a.
    let ts = c.args.terms.now in
    let o = c.in-Some in
    let e = c.in_ok-slot.ensures in
    opener_put (listed ts) (orderly ts) c.args.self.now c.args.key l k a o.opener o.ensures c.in_ok-slot.slot c.put.new.self
    (e.puts o.ensures.2 (named_known _ _ a)) (e.names a)
