-- The parts of a table's terms.
use Rattle.std.proofs.Common.{ℕ, None, Some, Option, IfSome, subst}
use Rattle.terms.specs.declared.node.TermNode.{TermNode}
use Rattle.terms.specs.declared.table.Terms.{Terms}
use Rattle.terms.specs.Listed.{listed}
use Rattle.terms.specs.Node.{PartsBelow}
use Rattle.terms.specs.Outcome.{Reads}

-- they have lower numbers
pub parts_below : {N : ℕ} (t : Terms N) (n : ℕ) (o : Option TermNode) → Reads (listed t) n o → IfSome o (λ r. PartsBelow n r)
parts_below t n None h = tt
parts_below t n (Some r) (l, e) = subst (PartsBelow n) e (t.lower n l)
