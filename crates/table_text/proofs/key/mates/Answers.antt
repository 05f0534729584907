use Rattle.std.proofs.lemmas.Result.{err_from_is_err_and}
use Rattle.std.proofs.Common.{true, false, subst, ◌∙◌, arith}
use Rattle.scan.specs.Tokens.{pos_of}
use Rattle.syntax.specs.declared.sign.Sign.TheVariants.{Tick}
use Rattle.table_text.proofs.Keys.{Passing, one_tick, tick_refused, no_more_ticks}
use Rattle.table_text.proofs.key.mates.Goals as goal

pub returns-in_err-key-clause-made : goal.returns-in_err-key-clause-made
returns-in_err-key-clause-made c = λ n ts apart ahead.
    let i = c.loop-protocol.invariant in
    let passed = subst (λ z. Passing z (pos_of c.loop-protocol.scanner) Tick true (pos_of c.passes.new.scanner)) i.text c.loop-protocol-test.ensures.passes in
    let q = err_from_is_err_and c.from_residual.result c.from_residual.ensures.1 in
    let made = tick_refused n c.args.first ts apart _ _ _ _ _ (i.left n ts apart ahead) _ passed c.in_err-key.field-0.0 _ c.in_err-key.ensures in
    rw (q.1, q.2) (record { made = made; left = tt })

pub loop-protocol-preserved : goal.loop-protocol-preserved
loop-protocol-preserved c =
    let i = c.loop-protocol.invariant in
    let passed = subst (λ z. Passing z (pos_of c.loop-protocol.scanner) Tick true (pos_of c.passes.new.scanner)) i.text c.loop-protocol-test.ensures.passes in
    record {
      text = c.passes.ensures.text ∙ i.text;
      low = omega (arith, c.passes.ensures.low, i.low);
      left = λ n ts apart ahead. one_tick n c.args.first ts apart _ _ _ _ _ (i.left n ts apart ahead) _ passed c.in_ok-key.key _ c.in_ok-key.ensures;
    }

pub returns-clause-made : goal.returns-clause-made
returns-clause-made c = λ n ts apart ahead.
    let i = c.loop-protocol.invariant in
    let missed = subst (λ z. Passing z (pos_of c.loop-protocol.scanner) Tick false (pos_of c.passes.new.scanner)) i.text c.loop-protocol-test.ensures.passes in
    no_more_ticks n c.args.first ts apart _ _ _ _ _ (i.left n ts apart ahead) _ missed
