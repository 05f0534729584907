use Rattle.terms.specs.Listed.{listed}
use Rattle.terms.proofs.Listed.{orderly, listed_few}
use Rattle.scripts.proofs.Judging.{judged_view}
use Rattle.scripts.proofs.script.Script.judged.Goals as goal

pub returns : goal.returns
returns c =
    let ts = c.args.terms.now in
    λ k. judged_view (listed ts) (orderly ts) (listed_few ts) c.args.self.now k c.held.result c.held.ensures c.composable.result c.composable.ensures.judged
