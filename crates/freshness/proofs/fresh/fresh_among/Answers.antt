use Rattle.std.proofs.Common.{[], ◌≡◌, ◌≤◌, false, not, ◌&&◌, length, get_or, sym, ap, ◌∙◌, ⊎_elim, arith}
use Rattle.std.proofs.lemmas.Bool.{cases_lt}
use Rattle.std.proofs.lemmas.List.{get_or_past}
use Rattle.terms.specs.Listed.{listed}
use Rattle.terms.specs.Node.{node_at}
use Rattle.terms.proofs.Listed.{listed_few}
use Rattle.terms.proofs.Marked.{marked_in, marked_out}
use Rattle.freshness.specs.Fresh.{can_be_fresh}
use Rattle.freshness.proofs.fresh.fresh_among.Goals as goal
use Rattle.freshness.proofs.fresh.fresh_among.Goals.{then-is_fresh, else-is_fresh}

pub loop-term-init : goal.loop-term-init
loop-term-init c = record { below = λ t h l. absurd (omega arith); above = λ t h l. c.none-fresh.ensures.marks t; kept = c.none-fresh.ensures.size }

pub loop-term-preserved : goal.loop-term-preserved
loop-term-preserved c =
    let n = c.loop-term.term in
    let is : (can_be_fresh (node_at (listed c.args.terms.now) n) && (get_or c.args.sent.now n false && not (get_or c.args.used.now n false))) ≡ c.is_fresh.result =
    rw (← c.nodes-node-items.ensures, ← c.contains.ensures.is, ← c.contains-in-loop-term.ensures.is) (sym c.is_fresh.ensures) in
    elim c.if-is_fresh.branch [
      | then-is_fresh w ↦ rw w.fresh-is (marked_in 512 512 _ [] c.loop-term.fresh n c.loop-term.invariant (is ∙ w.if-is_fresh.true) w.insert.new.self w.insert.ensures.marks w.insert.ensures.size)
      | else-is_fresh w ↦ rw w.fresh-is (marked_out 512 512 _ [] c.loop-term.fresh n c.loop-term.invariant (is ∙ w.if-is_fresh.false))
    ]

pub returns : goal.returns
returns c =
    let ts = listed c.args.terms.now in
    let i = c.loop-term.invariant in
    let few : length ts ≤ 512 = listed_few c.args.terms.now in
    let long = ap length c.nodes-node-items.ensures in
    let end : length ts ≤ c.loop-term.term = omega (arith, c.loop-term-test.false, long) in
    let last : c.loop-term.term ≤ length ts = omega (arith, c.loop-term.auto.term-end, long) in
    record {
      fresh = λ t l. i.below t (omega arith) (omega arith);
      past = λ t l. ⊎_elim (λ h. i.above t (omega arith) h) (λ h. get_or_past c.loop-term.fresh t false (omega (arith, i.kept))) (cases_lt t 512);
      size = i.kept;
    }
