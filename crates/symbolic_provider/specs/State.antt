-- What the symbolic provider means.
use Rattle.std.specs.Prelude.{ℕ, zero, suc, Bool, false, ◌||◌, List, [], ◌∷◌, length, Some, None, Option, nat_lt}
use Rattle.deduction.specs.Term.{Term}
use Rattle.deduction.specs.Decide.{same_term}
use Rattle.provider.specs.declared.Making.{Making}
use Rattle.provider.specs.Meaning.{Meaning, made}
use Rattle.terms.specs.declared.node.TermNode.{TermNode}
use Rattle.terms.specs.Listed.{listed}
use Rattle.terms.specs.Tree.{tree}
use Rattle.symbolic_provider.specs.declared.store.SymbolicProvider.{SymbolicProvider}
use Rattle.symbolic_provider.specs.Values.{term_algebra}

abbrev pub nodes_of : SymbolicProvider → List TermNode
nodes_of s = listed s.terms

-- the handles below n with their terms, the newest first
abbrev pub issued_below : List TermNode → ℕ → List (ℕ × Term)
issued_below ts zero = []
issued_below ts (suc n) = (n, tree ts n) ∷ issued_below ts n

-- a handle is a term's number
abbrev pub issued_of : SymbolicProvider → List (ℕ × Term)
issued_of s = issued_below (nodes_of s) (length (nodes_of s))

-- some handle stands for the term
abbrev pub is_held : List (ℕ × Term) → Term → Bool
is_held [] t = false
is_held (p ∷ ps) t = same_term p.1 t || is_held ps t

-- a term already held fits, a new one while fewer than 1,024 are held; nothing fits that is wrong
abbrev pub room : List (ℕ × Term) → Option Term → Bool
room is None = false
room is (Some t) = is_held is t || nat_lt (length is) 1024

abbrev pub made_of : SymbolicProvider → Making → Option Term
made_of s m = made term_algebra (issued_of s) m

abbrev pub fits_of : SymbolicProvider → Making → Bool
fits_of s m = room (issued_of s) (made_of s m)

abbrev pub meaning_of : SymbolicProvider → Meaning Term
meaning_of s = record { issued = issued_of s; fits = fits_of s }
