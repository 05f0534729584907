use Rattle.terms.specs.Listed.{listed}
use Rattle.terms.proofs.Formed.{formed}
use Rattle.terms.proofs.Listed.{orderly}
use Rattle.terms.proofs.table.Terms.record.Goals as goal

pub returns-clause-formed : goal.returns-clause-formed
returns-clause-formed g c = formed (listed c.args.self.now) (orderly c.args.self.now) c.args.id
