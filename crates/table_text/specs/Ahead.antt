-- The tokens that come next in a text that was checked.
use Rattle.std.specs.Prelude.{◌≡◌, ℕ, ◌≤◌, Bool, true, false, List, [], ◌∷◌, length, OnOk, Result}
use Rattle.scan.specs.declared.byte.Shape.TheVariants.{Round, Curly, Square, Angle}
use Rattle.rules.specs.State.{State}
use Rattle.syntax.specs.declared.sign.Sign.{Sign}
use Rattle.syntax.specs.Grammar.{Tok, sign, name, keyword, opens, closes, tick, end, stray, Key, named, entry, mate, Term, term_tokens}
use Rattle.syntax.specs.Check.{Comes}
use Rattle.protocol.specs.declared.refusal.Refusal.{Refusal}

-- these come next from p on
abbrev pub Ahead : List ℕ → ℕ → List Tok → Type 0
Ahead text p [] = Unit {0}
Ahead text p (t ∷ ts) = (a : ℕ) × (m : ℕ) × Comes text p t a m × Ahead text m ts

-- the token goes on with no term that ends before it
abbrev pub parts_terms : Tok → Type 0
parts_terms (name w) = Unit {0}
parts_terms (keyword k) = Unit {0}
parts_terms (opens Round) = Unit {0}
parts_terms (opens Curly) = Unit {0}
parts_terms (opens Square) = ⊥
parts_terms (opens Angle) = ⊥
parts_terms (closes s) = Unit {0}
parts_terms tick = ⊥
parts_terms end = Unit {0}
parts_terms stray = Unit {0}

-- the tokens after a term
abbrev pub Apart : List Tok → Type 0
Apart [] = ⊥
Apart (t ∷ ts) = parts_terms t

-- the token is passed over, and the others come next, exactly if it is of the sort
abbrev pub Passes : List ℕ → Sign → Tok → List Tok → Bool → ℕ → Type 0
Passes text s t ts true q = (sign t ≡ s) × Ahead text q ts
Passes text s t ts false q = (sign t ≡ s → ⊥) × Ahead text q (t ∷ ts)

-- the text is short enough, and there are no more parts than bytes before p
abbrev pub Roomy : List ℕ → List ℕ → ℕ → Type 0
Roomy text parts p = (length text ≤ 32768) × (length parts ≤ p)

-- calls that F speaks of were made for tokens that were read; unless they were refused, the tokens ts come next, at q
pub record Read {A : Type 0} (F : State → Result A Refusal → State → Type 0) (text : List ℕ) (ts : List Tok) (st : State) (r : Result A Refusal) (q : ℕ) (st' : State) : Type 0 where
  pub made : F st r st'
  pub left : OnOk r (Ahead text q ts)

-- the name that a key begins with, and the tokens after it, before ts
abbrev pub key_name : Key → List ℕ
key_name (named n) = n
key_name (entry t a) = t
key_name (mate k) = key_name k

abbrev pub key_rest : Key → List Tok → List Tok
key_rest (named n) ts = ts
key_rest (entry t a) ts = opens Square ∷ name a ∷ closes Square ∷ ts
key_rest (mate k) ts = key_rest k (tick ∷ ts)

-- the parts of a tuple from one of them on, before the bracket that ends their tuple
abbrev pub each_tokens : List Term → List Tok → List Tok
each_tokens [] ts = closes Round ∷ ts
each_tokens (u ∷ us) ts = term_tokens u (each_tokens us ts)
