-- The terms that a text writes.
use Rattle.std.specs.Prelude.{◌≡◌, ℕ, List, Some, None, Option, Ok}
use Rattle.deduction.specs.Term.{Term as Tree, name, built, mate_of, party, pair, sealed as seal, digest as hash, entry as cell}
use Rattle.terms.specs.Tree.{kind_of}
use Rattle.names.specs.declared.names.Named.{Named}
use Rattle.names.specs.Names.{look_up}
use Rattle.rules.specs.State.{State, nth}
use Rattle.syntax.specs.Grammar.{Key, named, entry, mate, Term, key, tuple, sealed, digest, Parts, final, more, Line, blank, declares, owns, sends}
use Rattle.table_text.specs.Calls.{Known, Made}
use Rattle.table_text.specs.Tables.{IsLineAt, Begun}

-- the name that a word was declared as (a word that was not declared is of no concern)
abbrev pub declared_name : Option Named → Tree
declared_name None = name party 0
declared_name (Some n) = name (kind_of n.kind) n.term

abbrev pub name_in : Known → List ℕ → Tree
name_in ds w = declared_name (look_up ds w)

-- N, T[A], k'
abbrev pub key_in : Known → Key → Tree
key_in ds (named n) = name_in ds n
key_in ds (entry t a) = built cell (name_in ds t) (name_in ds a)
key_in ds (mate k) = mate_of (key_in ds k)

-- k, (a b c), {a}k, F<a>: a tuple is the pair of its first part with the others
abbrev mutual
  pub term_in : Known → Term → Tree
  term_in ds (key k) = key_in ds k
  term_in ds (tuple t ps) = built pair (term_in ds t) (parts_in ds ps)
  term_in ds (sealed t k) = built seal (term_in ds t) (key_in ds k)
  term_in ds (digest f t) = built hash (name_in ds f) (term_in ds t)

  pub parts_in : Known → Parts → Tree
  parts_in ds (final t) = term_in ds t
  parts_in ds (more t ps) = built pair (term_in ds t) (parts_in ds ps)

-- the line has the term
abbrev pub Has : Line → Term → Type 0
Has blank t = ⊥
Has (declares k n ns) t = ⊥
Has (owns p u) t = u ≡ t
Has (sends p q u) t = u ≡ t

-- what is made for a line's term is that term
abbrev pub MadeTermsStand : Type 0
MadeTermsStand =
    (text : List ℕ) (ls : List Line) (p : ℕ) (ds : Known) (st : State) → Begun text ls p ds st → (l : Line) (q : ℕ) → IsLineAt ds text p l q
    → (t : Term) → Has l t → (n : ℕ) (mid : State) → Made ds t st (Ok n) mid → nth mid.terms n ≡ Some (term_in ds t)
