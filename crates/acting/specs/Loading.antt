-- What loading asks of a provider.
use Rattle.std.specs.Prelude.{ℕ, List, length, take, Result, slice_index}
use Rattle.provider.specs.declared.Making.{Making}
use Rattle.provider.specs.declared.Making.TheVariants.{Atom, Join, Seal, Digest as DIGEST-OF, Entry as ENTRY-OF, Mate as MATE-OF}
use Rattle.provider.specs.Algebra.{Algebra}
use Rattle.provider.specs.Meaning.{Meaning}
use Rattle.terms.specs.declared.node.Form.{Form}
use Rattle.terms.specs.declared.node.Form.TheVariants.{Pair, Sealed, Digest, Entry}
use Rattle.terms.specs.declared.node.TermNode.{TermNode}
use Rattle.terms.specs.declared.node.TermNode.TheVariants.{Name, Built, Mate}
use Rattle.terms.specs.Node.{kind_number}
use Rattle.acting.specs.declared.halt.Halt.{Halt}
use Rattle.acting.specs.Acts.{Act, make, Acting}

-- the making of a two-part term, from the handles of its parts
abbrev pub forming : Form → ℕ → ℕ → Making
forming Pair a b = Join a b
forming Sealed a b = Seal a b
forming Digest a b = DIGEST-OF a b
forming Entry a b = ENTRY-OF a b

-- the making of a term, from the readings of the terms before it; a name is the atom of its kind and of the term's own number
abbrev pub node_act : List ℕ → ℕ → TermNode → Act
node_act readings term (Name k i) = make (Atom (kind_number k) term)
node_act readings term (Built g a b) = make (forming g (slice_index readings a) (slice_index readings b))
node_act readings term (Mate a) = make (MATE-OF (slice_index readings a))

abbrev pub one : TermNode → ℕ
one t = 1

abbrev pub itself : ℕ → ℕ
itself k = k

-- Loading, whole: as far as the readings go, each term's handle is put under its number, and what is answered is the number of terms
-- that were loaded, or the term at which it was stopped, and by what.
abbrev pub Loads : {S X : Type 0} → Algebra X → (S → Meaning X) → List TermNode → S → List ℕ → Result ℕ Halt → S → List ℕ → Type 0
Loads f m ts s readings r s' readings' = Acting f m node_act one itself (take (length readings) ts) 0 0 s readings r s' readings'
