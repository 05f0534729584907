-- What each call answers, and the records that it leaves.
use Rattle.std.specs.Prelude.{◌≡◌, ℕ, ◌<◌, ◌≤◌, ◌⊎◌, List, [], ◌∷◌, ◌++◌, length, Some, None, Ok, Err, Option, Result, MatchOption, ◌≢◌}
use Rattle.std.specs.List.{AllWithin, HoldsAt}
use Rattle.deduction.specs.Term.{Term, Key, PartsFit, Asymmetric, opener}
use Rattle.terms.specs.declared.node.TermNode.{TermNode}
use Rattle.terms.specs.declared.node.TermNode.TheVariants.{Name, Built, Mate}
use Rattle.terms.specs.declared.node.TermError.{TermError}
use Rattle.terms.specs.declared.node.TermError.TheVariants.{Unknown, WrongKind, Full}
use Rattle.terms.specs.declared.node.MateCase.{MateCase}
use Rattle.terms.specs.declared.node.MateCase.TheVariants.{Itself, Inside, Apart}
use Rattle.terms.specs.Node.{node_at}
use Rattle.terms.specs.Tree.{tree, tree_of, form_of}

-- the number has the record
abbrev pub Has : List TermNode → ℕ → TermNode → Type 0
Has ts n r = (n < length ts) × (node_at ts n ≡ r)

-- no number has the record
abbrev pub Absent : List TermNode → TermNode → Type 0
Absent ts r = (k : ℕ) → k < length ts → node_at ts k ≢ r

-- reading a number: its record, and none exactly past the last number
abbrev pub Reads : List TermNode → ℕ → Option TermNode → Type 0
Reads ts n None = length ts ≤ n
Reads ts n (Some r) = Has ts n r

-- reading a part: its record with the tree that it stands for, and the refusal exactly for what is no term
abbrev pub ReadsPart : List TermNode → ℕ → Result TermNode TermError → Type 0
ReadsPart ts n (Ok r) = Has ts n r × (tree ts n ≡ tree_of r (tree ts))
ReadsPart ts n (Err e) = (length ts ≤ n) × (e ≡ Unknown)

-- looking for a record from number 0 on: the first that has it, and none exactly when no number has it
abbrev pub FoundFirst : List TermNode → TermNode → Option ℕ → Type 0
FoundFirst ts r o = MatchOption o (AllWithin (λ s. s ≢ r) ts 0 (length ts)) (λ n. (n < length ts) × HoldsAt (λ s. s ≡ r) ts n × AllWithin (λ s. s ≢ r) ts 0 n)

-- looking for a record: a number that has it, and none exactly when no number has it
abbrev pub Found : List TermNode → TermNode → Option ℕ → Type 0
Found ts r None = Absent ts r
Found ts r (Some n) = Has ts n r

-- every part of the record is a term
abbrev pub Known : List TermNode → TermNode → Type 0
Known ts (Name k i) = Unit {0}
Known ts (Built f a b) = (a < length ts) × (b < length ts)
Known ts (Mate a) = a < length ts

-- every part of the record is of the right kind
abbrev pub Proper : List TermNode → TermNode → Type 0
Proper ts (Name k i) = Unit {0}
Proper ts (Built f a b) = PartsFit (form_of f) (tree ts a) (tree ts b)
Proper ts (Mate a) = Asymmetric (tree ts a)

-- looking for a record on trees: the one number that stands for its tree, and none only if no number does
abbrev pub FoundTree : List TermNode → TermNode → Option ℕ → Type 0
FoundTree ts r None = Known ts r → (o : ℕ) → o < length ts → tree ts o ≢ tree_of r (tree ts)
FoundTree ts r (Some n) = (tree ts n ≡ tree_of r (tree ts)) × ((o : ℕ) → o < length ts → tree ts o ≡ tree_of r (tree ts) → o ≡ n)

-- why a record is refused, in this order: a part is no term, a part is of a wrong kind, or it is new and all N places are taken
abbrev pub Refuses : ℕ → List TermNode → TermNode → TermError → Type 0
Refuses N ts r Unknown = Known ts r → ⊥
Refuses N ts r WrongKind = Known ts r × (Proper ts r → ⊥)
Refuses N ts r Full = Known ts r × Proper ts r × Absent ts r × (length ts ≡ N)

-- the test of a record's parts: which of the two refusals comes first, if any does
abbrev pub Checks : ℕ → List TermNode → TermNode → Result (Unit {0}) TermError → Type 0
Checks N ts r (Ok u) = Known ts r × Proper ts r
Checks N ts r (Err e) = Refuses N ts r e

-- where a record stands afterwards: under the number that had it, or added under the next number
abbrev pub Places : ℕ → List TermNode → TermNode → ℕ → List TermNode → Type 0
Places N ts r n us = (Has ts n r × (us ≡ ts)) ⊎ (Absent ts r × (length ts < N) × (n ≡ length ts) × (us ≡ ts ++ r ∷ []))

-- inserting a record into a table of N places: the whole outcome
abbrev pub Inserts : ℕ → List TermNode → TermNode → Result ℕ TermError → List TermNode → Type 0
Inserts N ts r (Ok n) us = Known ts r × Proper ts r × Places N ts r n us
Inserts N ts r (Err e) us = Refuses N ts r e × (us ≡ ts)

-- the number that is answered stands for the tree
abbrev pub Stands : List TermNode → Result ℕ TermError → Term → Type 0
Stands us (Ok n) t = (n < length us) × (tree us n ≡ t)
Stands us (Err e) t = Unit {0}

-- every number that there was still stands for the same tree
abbrev pub Keeps : List TermNode → List TermNode → Type 0
Keeps ts us = (i : ℕ) → i < length ts → (i < length us) × (tree us i ≡ tree ts i)

-- the mate of a term: what is no key is refused, a shared key has its own number, a mate the number inside, else the mate is inserted
abbrev pub MatesBy : ℕ → List TermNode → ℕ → Option MateCase → Result ℕ TermError → List TermNode → Type 0
MatesBy N ts key None o us = (Key (tree ts key) → ⊥) × (o ≡ Err WrongKind) × (us ≡ ts)
MatesBy N ts key (Some Itself) o us = (o ≡ Ok key) × (us ≡ ts)
MatesBy N ts key (Some (Inside a)) o us = (o ≡ Ok a) × (us ≡ ts)
MatesBy N ts key (Some Apart) o us = Inserts N ts (Mate key) o us

-- the opener of a key: the number that stands for it, and none exactly for what is no key or has no opener among the terms
abbrev pub Opens : List TermNode → ℕ → Option ℕ → Type 0
Opens ts key None = key < length ts → Key (tree ts key) → (o : ℕ) → o < length ts → tree ts o ≢ opener (tree ts key)
Opens ts key (Some o) = (key < length ts) × Key (tree ts key) × (o < length ts) × (tree ts o ≡ opener (tree ts key))
