use Rattle.terms.specs.Listed.{listed}
use Rattle.terms.proofs.Listed.{orderly, listed_few}
use Rattle.freshness.proofs.Naming.{fresh_names_lem}
use Rattle.freshness.proofs.fresh.fresh_names.Goals as goal

pub returns : goal.returns
returns c =
    let t = c.args.terms.now in
    fresh_names_lem (listed t) (orderly t) (listed_few t) c.args.message c.only.result c.only.ensures
    c.args.shown.now c.occurring-sent.result c.occurring-used.result c.fresh_among.result
    c.occurring-sent.ensures c.occurring-used.ensures c.fresh_among.ensures
