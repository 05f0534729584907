use Rattle.std.proofs.Common.{◌<◌, length, refl, arith}
use Rattle.std.proofs.lemmas.Result.{err_from_is_err_and}
use Rattle.bounded.specs.Items.{items}
use Rattle.table_text.proofs.Paired.{begun, one_more, refused}
use Rattle.table_text.proofs.pairing.pair_up.Goals as goal

pub loop-parts-init : goal.loop-parts-init
loop-parts-init c = λ front a bs e n. begun _ _ _ c.pop-last.ensures.last front a bs _ e

pub returns-in_err-last : goal.returns-in_err-last
returns-in_err-last c = λ front a bs e n.
    let lt : length front < length (items c.loop-parts.parts) = omega (arith, n, c.len.ensures.is, c.loop-parts-test.true) in
    let q = err_from_is_err_and c.from_residual.result c.from_residual.ensures.1 in
    rw (q.1, q.2) (
      refused front _ _ _ _ _ (c.loop-parts.invariant front a bs e n) _ _ c.pop-part.ensures.last lt a bs refl
          c.in_err-last.field-0.0 _ c.in_err-last.ensures,
      tt,
    )

pub loop-parts-preserved : goal.loop-parts-preserved
loop-parts-preserved c = λ front a bs e n.
    let lt : length front < length (items c.loop-parts.parts) = omega (arith, n, c.len.ensures.is, c.loop-parts-test.true) in
    one_more front _ _ _ _ _ (c.loop-parts.invariant front a bs e n) _ _ c.pop-part.ensures.last lt c.in_ok-last.last _ c.in_ok-last.ensures
