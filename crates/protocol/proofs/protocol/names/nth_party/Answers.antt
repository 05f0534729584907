use Rattle.std.proofs.Common.{◌≡◌, suc, ◌<◌, length, sym, subst, arith}
use Rattle.terms.specs.Listed.{listed}
use Rattle.terms.proofs.Listed.{orderly}
use Rattle.protocol.proofs.Parties.{LeftFrom, left_start, left_more, left_less, left_here, left_none}
use Rattle.protocol.proofs.protocol.names.nth_party.Goals as goal
use Rattle.protocol.proofs.protocol.names.nth_party.Goals.{then-is_party+else-left-eq0, else-is_party}

pub loop-id-init : goal.loop-id-init
loop-id-init c = left_start (listed c.args.terms.now) c.args.before

pub returns-then-left-eq0 : goal.returns-then-left-eq0
returns-then-left-eq0 c =
    let ts = c.args.terms.now in
    let l : c.loop-id.id < length (listed ts) = omega (arith, c.loop-id-test.true, c.len-id-end.ensures.is) in
    (l, left_here (listed ts) (orderly ts) c.args.before c.loop-id.id c.loop-id.left l c.loop-id.invariant c.get.result c.get.ensures.reads c.if-is_party.ensures c.if-left-eq0.true)

pub loop-id-preserved : goal.loop-id-preserved
loop-id-preserved c =
    let ts = c.args.terms.now in
    let l : c.loop-id.id < length (listed ts) = omega (arith, c.loop-id-test.true, c.len-id-end.ensures.is) in
    elim c.if-is_party.branch [
      | then-is_party+else-left-eq0 w ↦
          let q : c.loop-id.left ≡ suc c.if-is_party.left = omega (arith, w.left-is, w.if-left-eq0.false) in
          left_less (listed ts) (orderly ts) c.args.before c.loop-id.id c.loop-id.left l c.loop-id.invariant c.get.result c.get.ensures.reads w.if-is_party.ensures c.if-is_party.left q
      | else-is_party w ↦
          subst (LeftFrom (listed ts) c.args.before _) (sym w.left-is)
          (left_more (listed ts) (orderly ts) c.args.before c.loop-id.id c.loop-id.left l c.loop-id.invariant c.get.result c.get.ensures.reads w.if-is_party.ensures)
    ]

pub returns : goal.returns
returns c =
    let ts = c.args.terms.now in
    left_none (listed ts) c.args.before c.loop-id.id c.loop-id.left (omega (arith, c.loop-id-test.false, c.loop-id.auto.id-end, c.len-id-end.ensures.is)) c.loop-id.invariant
