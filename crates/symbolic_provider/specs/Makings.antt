-- What the code asks of the table of terms for each making.
use Rattle.std.specs.Prelude.{◌≡◌, ℕ, ◌<◌, List, length, Some, None, Ok, Err, Option, Result, ◌≢◌}
use Rattle.provider.specs.declared.Making.{Making}
use Rattle.provider.specs.declared.Making.TheVariants.{Join, Seal, Digest, Entry}
use Rattle.provider.specs.declared.ProviderError.{ProviderError}
use Rattle.provider.specs.declared.ProviderError.TheVariants.{Wrong, Full}
use Rattle.terms.specs.declared.node.Form.{Form}
use Rattle.terms.specs.declared.node.Form.TheVariants.{Pair as A-PAIR, Sealed as A-SEALED, Digest as A-DIGEST, Entry as AN-ENTRY}
use Rattle.terms.specs.declared.node.TermNode.{TermNode}
use Rattle.terms.specs.declared.node.TermNode.TheVariants.{Built}
use Rattle.terms.specs.declared.node.TermError.{TermError}
use Rattle.terms.specs.declared.node.TermError.TheVariants.{Unknown, WrongKind, Full as NoPlace}
use Rattle.terms.specs.Node.{node_at}

abbrev pub refusal_of : TermError → ProviderError
refusal_of Unknown = Wrong
refusal_of WrongKind = Wrong
refusal_of NoPlace = Full

abbrev pub answer_of : Result ℕ TermError → Result ℕ ProviderError
answer_of (Ok n) = Ok n
answer_of (Err e) = Err (refusal_of e)

-- the making of a two-part term
abbrev pub form_making : Form → ℕ → ℕ → Making
form_making A-PAIR a b = Join a b
form_making A-SEALED a b = Seal a b
form_making A-DIGEST a b = Digest a b
form_making AN-ENTRY a b = Entry a b

-- the parts of the term of a number, if there is one and it is of the form
abbrev pub PartsAt : Form → List TermNode → ℕ → Option (ℕ × ℕ) → Type 0
PartsAt f ts n None = (a b : ℕ) → n < length ts → node_at ts n ≢ Built f a b
PartsAt f ts n (Some p) = (n < length ts) × (node_at ts n ≡ Built f p.0 p.1)
