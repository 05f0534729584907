use Rattle.std.proofs.Common.{◌<◌, length, sym, refl, ap, ◌∙◌, arith}
use Rattle.std.specs.Prelude.{map}
use Rattle.std.proofs.lemmas.List.{drop_all}
use Rattle.names.specs.Names.{entry, look_up}
use Rattle.names.proofs.Search.{found_here, not_here}
use Rattle.names.proofs.names.Names.get.Goals as goal

pub loop-declared-init : goal.loop-declared-init
loop-declared-init c = refl

pub returns-then-is : goal.returns-then-is
returns-then-is c =
    let xs = c.as_slice-declared-items.result.now in
    let lt : c.loop-declared.declared-index < length xs = omega arith in
    sym (found_here xs c.loop-declared.declared-index _ c.args.word.now lt (sym c.is.ensures ∙ c.if-is.true)) ∙ c.loop-declared.invariant
    ∙ ap (λ z. look_up (map entry z) c.args.word.now) c.as_slice-declared-items.ensures

pub loop-declared-preserved : goal.loop-declared-preserved
loop-declared-preserved c =
    let xs = c.as_slice-declared-items.result.now in
    let lt : c.loop-declared.declared-index < length xs = omega arith in
    sym (not_here xs c.loop-declared.declared-index _ c.args.word.now lt (sym c.is.ensures ∙ c.if-is.false)) ∙ c.loop-declared.invariant

pub returns : goal.returns
returns c =
    let xs = c.as_slice-declared-items.result.now in
    let none = drop_all c.loop-declared.declared-index xs c.loop-declared-test.false in
    sym (ap (λ z. look_up (map entry z) c.args.word.now) none) ∙ c.loop-declared.invariant ∙ ap (λ z. look_up (map entry z) c.args.word.now) c.as_slice-declared-items.ensures
