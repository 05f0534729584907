use Rattle.terms.specs.Listed.{listed}
use Rattle.protocol.proofs.Parties.{LeftFrom}
use Rattle.protocol.proofs.protocol.names.nth_party.Given as goal

abbrev pub invariant-loop-id : goal.invariant-loop-id
invariant-loop-id l = LeftFrom (listed l.terms) l.before l.id l.left
