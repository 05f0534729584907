use Rattle.terms.specs.Listed.{listed}
use Rattle.terms.proofs.Listed.{orderly, listed_few}
use Rattle.scripts.proofs.Lacking.{lacks}
use Rattle.scripts.proofs.script.Script.missing.Goals as goal

pub returns : goal.returns
returns c =
    let ts = c.args.terms.now in
    λ l k. lacks (listed ts) (orderly ts) (listed_few ts) c.args.self.now k c.held.result c.held.ensures c.args.term l c.first_missing.result c.first_missing.ensures.first
