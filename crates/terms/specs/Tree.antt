-- The trees that numbers stand for.
use Rattle.std.specs.Prelude.{ℕ, zero, suc, List}
use Rattle.deduction.specs.Term.{Kind as TreeKind, party, number, shared, public, table, function}
use Rattle.deduction.specs.Term.{Form as TreeForm, pair, sealed, digest, entry, Term, name, built, mate}
use Rattle.terms.specs.declared.node.Kind.{Kind}
use Rattle.terms.specs.declared.node.Kind.TheVariants.{Party, Number, Shared, Public, Table, Function}
use Rattle.terms.specs.declared.node.Form.{Form}
use Rattle.terms.specs.declared.node.Form.TheVariants.{Pair, Sealed, Digest, Entry}
use Rattle.terms.specs.declared.node.TermNode.{TermNode}
use Rattle.terms.specs.declared.node.TermNode.TheVariants.{Name, Built, Mate}
use Rattle.terms.specs.Node.{node_at, Lower, Fitting, Once}

-- a kind in trees
abbrev pub kind_of : Kind → TreeKind
kind_of Party = party
kind_of Number = number
kind_of Shared = shared
kind_of Public = public
kind_of Table = table
kind_of Function = function

-- a form in trees
abbrev pub form_of : Form → TreeForm
form_of Pair = pair
form_of Sealed = sealed
form_of Digest = digest
form_of Entry = entry

-- the tree of a record, from the trees of its parts
abbrev pub tree_of : TermNode → (ℕ → Term) → Term
tree_of (Name k i) f = name (kind_of k) i
tree_of (Built g a b) f = built (form_of g) (f a) (f b)
tree_of (Mate a) f = mate (f a)

-- the tree of a number, with n as a bound of its depth
abbrev pub tree_up_to : List TermNode → ℕ → ℕ → Term
tree_up_to ts zero i = name party 0
tree_up_to ts (suc n) i = tree_of (node_at ts i) (λ j. tree_up_to ts n j)

-- the tree of a number: parts are lower, so its depth is at most the number
unfoldable pub tree : List TermNode → ℕ → Term
tree ts i = tree_up_to ts (suc i) i

-- what the table keeps true of its records
pub record Orderly (ts : List TermNode) : Type 0 where
  pub lower : Lower ts
  pub fitting : Fitting ts
  pub once : Once ts
