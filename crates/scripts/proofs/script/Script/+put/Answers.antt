use Rattle.std.proofs.Common.{length}
use Rattle.std.proofs.lemmas.Result.{err_from_is_err_and}
use Rattle.terms.specs.Listed.{listed}
use Rattle.terms.proofs.Listed.{orderly}
use Rattle.scripts.proofs.View.{builder_below}
use Rattle.scripts.proofs.Composing.{begins_on, put_found, put_missing, sought, apart_at, first_stopped, second_stopped, wrote, pushed_begins, pushed_named}
use Rattle.scripts.proofs.script.Script.+put.Goals as goal

pub returns-in-Some-clause-puts : goal.returns-in-Some-clause-puts
returns-in-Some-clause-puts t c = λ l k. put_found (sought (orderly c.args.terms.now) c.args.self.now c.args.term l k) c.in-Some.slot c.in-Some.ensures

pub returns-in_default-parts-clause-puts : goal.returns-in_default-parts-clause-puts
returns-in_default-parts-clause-puts t c = λ l k.
    put_missing (sought (orderly c.args.terms.now) c.args.self.now c.args.term l k) c.in_default.ensures c.args.term c.args.self.now (c.in_default-parts.ensures l)

pub returns-in_err-first-clause-puts : goal.returns-in_err-first-clause-puts
returns-in_err-first-clause-puts t c = λ l k.
    let q = err_from_is_err_and c.from_residual.result c.from_residual.ensures.1 in
    let h = apart_at (sought (orderly c.args.terms.now) c.args.self.now c.args.term l k) c.in_default.ensures c.in-Some-parts.ensures.1 in
    rw (q.1, q.2) (first_stopped h _ _ (c.in_err-first.ensures.puts h.first k))

pub returns-in_err-second-clause-puts : goal.returns-in_err-second-clause-puts
returns-in_err-second-clause-puts t c = λ l k.
    let q = err_from_is_err_and c.from_residual-in_err-second.result c.from_residual-in_err-second.ensures.1 in
    let h = apart_at (sought (orderly c.args.terms.now) c.args.self.now c.args.term l k) c.in_default.ensures c.in-Some-parts.ensures.1 in
    let f = c.in_ok-first.ensures.puts h.first k in
    rw (q.1, q.2) (second_stopped h c.put.new.self f _ _ (c.in_err-second.ensures.puts h.second f.1))

pub returns : goal.returns
returns t c =
    let d = c.in_ok-first.ensures in
    let e = c.in_ok-second.ensures in
    let w = rw c.builder.ensures at c.push.ensures in
    record {
      grows = begins_on _ _ _ (begins_on _ _ _ d.grows e.grows) (pushed_begins _ _ _ _ w);
      puts = λ l k.
          let h = apart_at (sought (orderly c.args.terms.now) c.args.self.now c.args.term l k) c.in_default.ensures c.in-Some-parts.ensures.1 in
          let f = d.puts h.first k in
          wrote h c.put.new.self f c.put-2.new.self (e.puts h.second f.1) l _ _ w;
      names = λ k. pushed_named (length (listed c.args.terms.now)) _ _ _ _ w (c.in-Some-parts.ensures.0, builder_below _ c.in-Some-parts.form _ _) (e.names (d.names k));
    }
