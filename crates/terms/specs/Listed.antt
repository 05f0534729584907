-- The records that a table holds, and what the calls that add terms do to it.
use Rattle.std.specs.Prelude.{◌≡◌, ℕ, ◌<◌, ◌≤◌, List, length, Ok, Err, Result}
use Rattle.bounded.specs.Items.{items}
use Rattle.deduction.specs.Term.{mate_of}
use Rattle.terms.specs.declared.node.TermNode.{TermNode}
use Rattle.terms.specs.declared.node.TermError.{TermError}
use Rattle.terms.specs.declared.node.TermError.TheVariants.{Unknown}
use Rattle.terms.specs.declared.table.Terms.{Terms}
use Rattle.terms.specs.Node.{node_at, mate_case}
use Rattle.terms.specs.Tree.{tree, tree_of}
use Rattle.terms.specs.Outcome.{Inserts, MatesBy, Stands, Keeps}

-- the records in number order
abbrev pub listed : {N : ℕ} → Terms N → List TermNode
listed t = items t.nodes

-- a refusal leaves the table as it was
abbrev pub Unchanged : {N : ℕ} → Result ℕ TermError → Terms N → Terms N → Type 0
Unchanged (Ok n) t u = Unit {0}
Unchanged (Err e) t u = u ≡ t

-- inserting a record into a table: which number or refusal, the records after it, and what numbers stand for
pub record Inserted {N : ℕ} (t : Terms N) (r : TermNode) (o : Result ℕ TermError) (u : Terms N) : Type 0 where
  pub outcome : Inserts N (listed t) r o (listed u)
  pub stands : Stands (listed u) o (tree_of r (tree (listed t)))
  pub keeps : Keeps (listed t) (listed u)
  pub unchanged : Unchanged o t u

-- the mate of a number: which number or refusal, the records after it, and what numbers stand for
pub record Mated {N : ℕ} (t : Terms N) (key : ℕ) (o : Result ℕ TermError) (u : Terms N) : Type 0 where
  pub unknown : length (listed t) ≤ key → (o ≡ Err Unknown) × (listed u ≡ listed t)
  pub known : key < length (listed t) → MatesBy N (listed t) key (mate_case (node_at (listed t) key)) o (listed u)
  pub stands : Stands (listed u) o (mate_of (tree (listed t) key))
  pub keeps : Keeps (listed t) (listed u)
  pub unchanged : Unchanged o t u
