use Rattle.std.proofs.Common.{◌<◌, ◌≤◌, length, sym, ◌∙◌, arith}
use Rattle.std.proofs.lemmas.Result.{err_from_is_err_and}
use Rattle.terms.specs.Listed.{listed}
use Rattle.effects.proofs.Freshening.{freshen_start, freshened, passed, freshened_stop, freshen_end}
use Rattle.effects.proofs.fresh.freshen_all.Goals as goal
use Rattle.effects.proofs.fresh.freshen_all.Goals.{then-contains+in_ok-freshen, else-contains}

pub loop-name-init : goal.loop-name-init
loop-name-init c = λ k m. (k, freshen_start (listed c.args.terms.now) c.args.fresh.now c.args.script.now)

pub returns-in_err-freshen : goal.returns-in_err-freshen
returns-in_err-freshen c =
    let ts = listed c.args.terms.now in
    let i = c.loop-name.name in
    let li : i < length ts = omega (arith, c.loop-name-test.true, c.len-name-end.ensures.is) in
    let q = err_from_is_err_and c.from_residual.result c.from_residual.ensures.1 in
    λ k m.
    let inv = c.loop-name.invariant k m in
    rw (q.1, q.2) (freshened_stop ts c.args.fresh.now i li _ c.loop-name.script inv.1 c.freshen.new.script c.in_err-freshen.field-0.0 (sym c.contains.ensures.is ∙ c.if-contains.true)
    (c.in_err-freshen.ensures li (m i li (sym c.contains.ensures.is ∙ c.if-contains.true)) inv.0))

pub loop-name-preserved : goal.loop-name-preserved
loop-name-preserved c =
    let ts = listed c.args.terms.now in
    let f = c.args.fresh.now in
    let i = c.loop-name.name in
    let li : i < length ts = omega (arith, c.loop-name-test.true, c.len-name-end.ensures.is) in
    λ k m.
    let inv = c.loop-name.invariant k m in
    elim c.if-contains.branch [
      | then-contains+in_ok-freshen w ↦
          let d = w.in_ok-freshen.ensures li (m i li (sym c.contains.ensures.is ∙ w.if-contains.true)) inv.0 in
          rw w.script-is (d.1, freshened ts f i li _ c.loop-name.script inv.1 w.freshen.new.script (sym c.contains.ensures.is ∙ w.if-contains.true) d.0)
      | else-contains w ↦ rw w.script-is (inv.0, passed ts f i li _ c.loop-name.script inv.1 (sym c.contains.ensures.is ∙ w.if-contains.false))
    ]

pub returns : goal.returns
returns c =
    let ts = listed c.args.terms.now in
    let i = c.loop-name.name in
    let li : length ts ≤ i = omega (arith, c.loop-name-test.false, c.len-name-end.ensures.is) in
    λ k m.
    let inv = c.loop-name.invariant k m in
    (freshen_end ts c.args.fresh.now i _ c.loop-name.script li inv.1, inv.0)
