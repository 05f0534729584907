use Rattle.std.proofs.Common.{inl, inr, sym, ◌∙◌, arith}
use Rattle.terms.specs.Listed.{listed}
use Rattle.terms.proofs.Listed.{orderly, listed_few}
use Rattle.freshness.proofs.Passing.{none_passed, passed_over, passed_on}
use Rattle.freshness.proofs.within.occurring.Goals as goal
use Rattle.freshness.proofs.within.occurring.Goals.{then-contains-via-then-contains, then-contains-via-else-contains+then-contains-2}

pub loop-term-init : goal.loop-term-init
loop-term-init c = rw c.len-term.ensures.is (none_passed (listed c.args.terms.now) c.args.marks.now _ c.none-occurring.ensures.marks c.none-occurring.ensures.size)

pub loop-term-preserved-in-loop-term : goal.loop-term-preserved-in-loop-term
loop-term-preserved-in-loop-term c =
    let t = c.args.terms.now in
    passed_on (listed t) c.args.marks.now (orderly t) (listed_few t) c.loop-term.occurring c.loop-term.term _
    (omega arith) (omega arith) c.loop-term.invariant
    (elim c.then-contains.branch [ then-contains-via-then-contains w ↦ inl (sym c.contains.ensures.is ∙ w.if-contains.true) | then-contains-via-else-contains+then-contains-2 w ↦ inr (sym w.contains-else-contains.ensures.is ∙ w.if-contains-2.true) ])
    c.mark_whole.new.marks c.mark_whole.ensures

pub loop-term-preserved : goal.loop-term-preserved
loop-term-preserved c =
    let t = c.args.terms.now in
    passed_over (listed t) c.args.marks.now (orderly t) (listed_few t) c.loop-term.occurring c.loop-term.term _
    (omega arith) (omega arith) c.loop-term.invariant (sym c.contains.ensures.is ∙ c.if-contains.false) (sym c.contains-else-contains.ensures.is ∙ c.if-contains-2.false)
