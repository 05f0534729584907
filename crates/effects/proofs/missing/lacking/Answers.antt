use Rattle.terms.specs.Listed.{listed}
use Rattle.terms.proofs.Listed.{orderly, listed_few}
use Rattle.effects.proofs.Judging.{lacks_fresh}
use Rattle.effects.proofs.missing.lacking.Goals as goal

pub returns : goal.returns
returns c =
    let ts = c.args.terms.now in
    λ l k n m.
    lacks_fresh (listed ts) (orderly ts) (listed_few ts) c.args.script.now k c.held-marks.result c.held-marks.ensures c.args.fresh.now c.mark_fresh.new.marks c.mark_fresh.ensures n m c.args.message l c.first_missing.result c.first_missing.ensures.first
