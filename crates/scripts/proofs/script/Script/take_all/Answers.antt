use Rattle.std.proofs.Common.{sym, ◌∙◌, arith}
use Rattle.std.proofs.lemmas.Result.{err_from_is_err_and}
use Rattle.terms.specs.Listed.{listed}
use Rattle.scripts.specs.Composing.{view}
use Rattle.scripts.proofs.Composing.{begins_on}
use Rattle.scripts.proofs.Writing.{written_few, take_on, take_stopped, saturate_done}
use Rattle.scripts.proofs.script.Script.take_all.Goals as goal

pub loop-taking-smaller : goal.loop-taking-smaller
loop-taking-smaller c = omega (arith, c.in_ok-take.ensures.longer, written_few c.take.new.self)

pub loop-taking-preserved : goal.loop-taking-preserved
loop-taking-preserved c = record {
  grows = begins_on _ _ _ c.loop-taking.invariant.grows c.in_ok-take.ensures.grows;
  saturates = λ k.
      let i = c.loop-taking.invariant.saturates k in
      let n = c.in-Some.ensures i.0 in
      take_on (listed c.args.terms.now) c.args.self.now c.loop-taking.self c.take.new.self i.1 c.in-Some.taking n (c.in_ok-take.ensures.takes n.1 i.0 n.2.0 (sym n.0 ∙ n.2.1));
}

pub returns-in_err-take-clause-takes : goal.returns-in_err-take-clause-takes
returns-in_err-take-clause-takes c = λ k.
    let q = err_from_is_err_and c.from_residual.result c.from_residual.ensures.1 in
    let i = c.loop-taking.invariant.saturates k in
    let n = c.in-Some.ensures i.0 in
    rw (q.1, q.2) (take_stopped (listed c.args.terms.now) c.args.self.now c.loop-taking.self c.take.new.self i.1 c.in-Some.taking n _ (c.in_err-take.ensures.takes n.1 i.0 n.2.0 (sym n.0 ∙ n.2.1)))

pub returns-clause-takes : goal.returns-clause-takes
returns-clause-takes c = λ k.
    let ts = listed c.args.terms.now in
    let i = c.loop-taking.invariant.saturates k in
    (saturate_done (view ts c.args.self.now) (view ts c.loop-taking.self) i.1 (c.in_default.ensures i.0), i.0)
