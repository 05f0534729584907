use Rattle.terms.specs.Listed.{listed}
use Rattle.terms.proofs.Insert.{found_first, found_tree}
use Rattle.terms.proofs.Listed.{orderly}
use Rattle.terms.proofs.table.Terms.find.Goals as goal

pub returns : goal.returns
returns g c =
    let t = c.args.self.now in
    let first = found_first (listed t) c.args.node c.position.result c.position.ensures in
    record { found = first; stands = found_tree (listed t) c.args.node c.position.result (orderly t) first }
