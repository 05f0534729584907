use Rattle.std.proofs.Common.{◌≡◌, ◌≤◌, false, ◌||◌, length, get_or, refl, sym, ap, ◌∙◌, arith}
use Rattle.terms.specs.Listed.{listed}
use Rattle.terms.specs.Node.{node_at}
use Rattle.terms.proofs.Listed.{listed_few}
use Rattle.terms.proofs.Marked.{marked_in, marked_out}
use Rattle.effects.specs.Sending.{is_mate_of}
use Rattle.effects.proofs.missing.mark_fresh.Goals as goal
use Rattle.effects.proofs.missing.mark_fresh.Goals.{then-comes_fresh, else-comes_fresh}

pub loop-term-init : goal.loop-term-init
loop-term-init c = record { below = λ t h l. absurd (omega arith); above = λ t h l. refl; kept = refl }

pub loop-term-preserved : goal.loop-term-preserved
loop-term-preserved c =
    let n = c.loop-term.term in
    let marks = c.args.marks.now in
    let is : (get_or c.args.fresh.now n false || is_mate_of c.args.fresh.now (node_at (listed c.args.terms.now) n)) ≡ c.comes_fresh.result =
    rw (← c.nodes-node-items.ensures) (sym c.comes_fresh.ensures) in
    elim c.if-comes_fresh.branch [
      | then-comes_fresh w ↦ rw w.marks-is (marked_in 512 (length marks) _ marks c.loop-term.marks n c.loop-term.invariant (is ∙ w.if-comes_fresh.true) w.insert.new.self w.insert.ensures.marks w.insert.ensures.size)
      | else-comes_fresh w ↦ rw w.marks-is (marked_out 512 (length marks) _ marks c.loop-term.marks n c.loop-term.invariant (is ∙ w.if-comes_fresh.false))
    ]

pub returns : goal.returns
returns c =
    let ts = listed c.args.terms.now in
    let few : length ts ≤ 512 = listed_few c.args.terms.now in
    let end : length ts ≤ c.loop-term.term = omega (arith, c.loop-term-test.false, ap length c.nodes-node-items.ensures) in
    record { marks = λ t l. c.loop-term.invariant.below t (omega arith) (omega arith); size = c.loop-term.invariant.kept }
