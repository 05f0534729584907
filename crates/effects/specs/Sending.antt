-- What a step writes into the sender's script.
use Rattle.std.specs.Prelude.{◌≡◌, ℕ, zero, suc, ◌+◌, ◌<◌, Bool, true, false, cond, ◌||◌, List, [], ◌∷◌, length, Some, None, Ok, Err, Option, Result, ◌≢◌, slice_index_or}
use Rattle.deduction.specs.Term.{Term, mate, public, Named}
use Rattle.terms.specs.declared.node.Kind.{Kind}
use Rattle.terms.specs.declared.node.Kind.TheVariants.{Party, Number, Shared, Public, Table, Function}
use Rattle.terms.specs.declared.node.TermNode.{TermNode}
use Rattle.terms.specs.declared.node.TermNode.TheVariants.{Name, Built, Mate}
use Rattle.terms.specs.Node.{node_at}
use Rattle.terms.specs.Tree.{tree}
use Rattle.rules.specs.Script.{Script as RuleScript}
use Rattle.rules.specs.Compose.{Composed, compose, missing}
use Rattle.rules.specs.Effects.{freshens, sent}
use Rattle.scripts.specs.declared.instruction.ScriptError.{ScriptError}
use Rattle.scripts.specs.declared.instruction.ScriptError.TheVariants.{Full, Missing}
use Rattle.scripts.specs.declared.script.Script.{Script}
use Rattle.scripts.specs.Composing.{view, NamesTerms}

-- the trees of the marked numbers among the k numbers from n on, in number order
abbrev pub marked_from : List TermNode → List Bool → ℕ → ℕ → List Term
marked_from ts marks n zero = []
marked_from ts marks n (suc k) = cond (slice_index_or marks n false) (tree ts n ∷ marked_from ts marks (n + 1) k) (marked_from ts marks (n + 1) k)

-- the trees of the marked numbers, in number order
abbrev pub marked_trees : List TermNode → List Bool → List Term
marked_trees ts marks = marked_from ts marks 0 (length ts)

-- every marked number is that of a name
abbrev pub NamesMarked : List TermNode → List Bool → Type 0
NamesMarked ts marks = (i : ℕ) → i < length ts → slice_index_or marks i false ≡ true → (k : Kind) × (j : ℕ) × (node_at ts i ≡ Name k j)

-- if the number is that of a public key, its mate is a term
abbrev pub MateKnown : List TermNode → ℕ → Type 0
MateKnown ts i = Named public (tree ts i) → (o : ℕ) × (o < length ts) × (tree ts o ≡ mate (tree ts i))

-- beside every marked public key its mate is a term
abbrev pub MatesKnown : List TermNode → List Bool → Type 0
MatesKnown ts marks = (i : ℕ) → i < length ts → slice_index_or marks i false ≡ true → MateKnown ts i

-- the script after a step by its sender; refused for the missing term exactly where the rules write nothing, whether there is room or
-- not, and as full exactly where what they write is longer than 512
abbrev pub Sends : List TermNode → RuleScript → List Term → Term → ℕ → Result Script ScriptError → Type 0
Sends ts v fresh m address (Ok s) = (sent v fresh m address ≡ Some (view ts s)) × NamesTerms ts s
Sends ts v fresh m address (Err Full) = (w : RuleScript) × (sent v fresh m address ≡ Some w) × (512 < length w)
Sends ts v fresh m address (Err (Missing x)) =
    (sent v fresh m address ≡ None) × (x < length ts) × (missing (freshens v fresh) m ≡ Some (tree ts x))

-- a public key
abbrev pub is_public_kind : Kind → Bool
is_public_kind Party = false
is_public_kind Number = false
is_public_kind Shared = false
is_public_kind Public = true
is_public_kind Table = false
is_public_kind Function = false

-- the record of a public key
abbrev pub is_public : TermNode → Bool
is_public (Name k i) = is_public_kind k
is_public (Built f a b) = false
is_public (Mate a) = false

-- the number of a public key's mate; none for any other term, or where the mate is no term
abbrev pub PublicMate : List TermNode → ℕ → Option ℕ → Type 0
PublicMate ts i None = i < length ts → Named public (tree ts i) → (o : ℕ) → o < length ts → tree ts o ≢ mate (tree ts i)
PublicMate ts i (Some o) = (i < length ts) × Named public (tree ts i) × (o < length ts) × (tree ts o ≡ mate (tree ts i))

-- the record is the mate of a marked number
abbrev pub is_mate_of : List Bool → TermNode → Bool
is_mate_of marks (Name k i) = false
is_mate_of marks (Built f a b) = false
is_mate_of marks (Mate a) = slice_index_or marks a false

-- a number is marked that was marked, or is fresh, or is the mate of a fresh one
pub record FreshMarked (ts : List TermNode) (fresh before after : List Bool) : Type 0 where
  pub marks : (t : ℕ) → t < length ts → slice_index_or after t false ≡ (slice_index_or before t false || (slice_index_or fresh t false || is_mate_of fresh (node_at ts t)))
  pub size : length after ≡ length before

-- none where the message can be composed once the fresh names are written, else the missing term of the rules
abbrev pub LacksFresh : List TermNode → RuleScript → List Term → Term → Option ℕ → Type 0
LacksFresh ts v fresh m None = (c : Composed) × (compose (freshens v fresh) m ≡ Some c)
LacksFresh ts v fresh m (Some x) =
    (x < length ts) × (missing (freshens v fresh) m ≡ Some (tree ts x)) × (compose (freshens v fresh) m ≡ None)
