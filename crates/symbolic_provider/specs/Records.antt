-- What the record of a handle tells of the term that it stands for.
use Rattle.std.specs.Prelude.{◌≡◌, ℕ, List, Some, None, Option}
use Rattle.deduction.specs.Term.{Term, name, built, mate}
use Rattle.provider.specs.Meaning.{on, stands}
use Rattle.terms.specs.declared.node.TermNode.{TermNode}
use Rattle.terms.specs.declared.node.TermNode.TheVariants.{Name, Built, Mate}
use Rattle.terms.specs.Tree.{form_of, kind_of}

-- the term of a record, from the terms that the handles of its parts stand for; None where one of them was never issued
abbrev pub term_of : List (ℕ × Term) → TermNode → Option Term
term_of is (Name k i) = Some (name (kind_of k) i)
term_of is (Built f a b) = on (stands is a) (λ x. on (stands is b) (λ y. Some (built (form_of f) x y)))
term_of is (Mate a) = on (stands is a) (λ x. Some (mate x))

-- the record of what a handle stands for, and none exactly if it was never issued
abbrev pub Recorded : List (ℕ × Term) → ℕ → Option TermNode → Type 0
Recorded is h None = stands is h ≡ None
Recorded is h (Some r) = (t : Term) × (stands is h ≡ Some t) × (term_of is r ≡ Some t)
