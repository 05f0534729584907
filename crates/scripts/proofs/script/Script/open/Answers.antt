use Rattle.std.proofs.lemmas.Result.{err_from_is_err_and}
use Rattle.terms.specs.Listed.{listed}
use Rattle.scripts.proofs.View.{named_known}
use Rattle.scripts.proofs.Composing.{begins_on, pushed_begins}
use Rattle.scripts.proofs.Writing.{open_stopped, open_written}
use Rattle.scripts.proofs.script.Script.open.Goals as goal

pub returns-in_err-with-clause-opens : goal.returns-in_err-with-clause-opens
returns-in_err-with-clause-opens c = λ lo lc k w t.
    let q = err_from_is_err_and c.from_residual.result c.from_residual.ensures.1 in
    rw (q.1, q.2) (open_stopped (listed c.args.terms.now) c.args.self.now c.args.slot c.args.opener c.args.content w t _ c.put.new.self (c.in_err-with.ensures.puts lo (named_known _ _ k)))

pub returns-clause-grows : goal.returns-clause-grows
returns-clause-grows c = begins_on _ _ _ c.in_ok-with.ensures.grows (pushed_begins _ _ _ _ c.push.ensures)

pub returns-clause-opens : goal.returns-clause-opens
returns-clause-opens c = λ lo lc k w t.
    let e = c.in_ok-with.ensures in
    open_written (listed c.args.terms.now) c.args.self.now c.args.slot c.args.opener c.args.content w t c.in_ok-with.with c.put.new.self (e.puts lo (named_known _ _ k)) (e.names k) lc c.push.result c.push.new.self c.push.ensures
