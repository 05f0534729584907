-- The values of slots: what each instruction makes on a provider is the value of its slot's term.
use Rattle.std.specs.Prelude.{◌≡◌, ℕ, ◌≤◌, true, List, is_some, Some, Option}
use Rattle.deduction.specs.Term.{Kind, Term, Key, Formed, Occurs, In}
use Rattle.provider.specs.Algebra.{Algebra, Halves, Mates, Seals, Builds, last_id}
use Rattle.provider.specs.Meaning.{on}
use Rattle.rules.specs.Script.{Op, GIVEN, FRESH, FROM, TO, RECV, MATE, LEFT, RIGHT, JOIN, SEAL, DIGEST, ENTRY, OPEN, SAME, SEND, Line, Script}
use Rattle.rules.specs.State.{State, nth}
use Rattle.rules.specs.History.{History, Came}
use Rattle.valuation.specs.Value.{value, HasValue, Valued}
use Rattle.valuation.specs.Fit.{at, terms_of, Fits, Settled}

-- what an instruction makes, from the values of its operands' slots; GIVEN, FRESH, FROM, TO and RECV bring in the value of their term
abbrev pub made : {X : Type 0} → Algebra X → (ℕ → Option X) → Op → Option X
made f v (GIVEN t) = value f t
made f v (FRESH t) = value f t
made f v (FROM t) = value f t
made f v (TO t) = value f t
made f v (RECV t) = value f t
made f v (MATE i) = on (v i) f.mate
made f v (LEFT i) = on (v i) f.left
made f v (RIGHT i) = on (v i) f.right
made f v (JOIN i j) = on (v i) (λ x. on (v j) (λ y. Some (f.join x y)))
made f v (SEAL i j) = on (v i) (λ x. on (v j) (f.seal x))
made f v (DIGEST i j) = on (v i) (λ x. on (v j) (f.digest x))
made f v (ENTRY i j) = on (v i) (λ x. on (v j) (f.entry x))
made f v (OPEN i j) = on (v i) (λ x. on (v j) (f.opens x))
made f v (SAME i j) = v i
made f v (SEND i j) = v i

-- the laws of a provider's algebra
pub record Lawful {X : Type 0} (P : X → Type 0) (f : Algebra X) : Type 0 where
  pub halves : Halves P f
  pub mates : Mates P f
  pub seals : Seals P f
  pub builds : Builds P f

-- a well-formed term whose names have ids up to 65,535 has a value, and the value of a key has a mate
abbrev pub FormedHasValue : {X : Type 0} → Algebra X → Type 0
FormedHasValue {X} f =
    (t : Term) → Formed t → ((k : Kind) (i : ℕ) → Occurs k i t → i ≤ last_id)
    → (x : X) × (value f t ≡ Some x) × (Key t → is_some (f.mate x) ≡ true)

-- A slot, and its instruction: the slot's term has a value, which the instruction makes of the values of its operands' terms, and
-- a comparison compares equal values.
pub record SlotValue {X : Type 0} (P : X → Type 0) (f : Algebra X) (ts : List Term) (i : ℕ) (op : Op) : Type 0 where
  pub has_value : HasValue P f (at ts i)
  pub makes_it : made f (λ j. value f (at ts j)) op ≡ value f (at ts i)
  pub agrees : (a b : ℕ) → op ≡ SAME a b → value f (at ts a) ≡ value f (at ts b)

-- this holds of every slot of a script that fits settled terms which all have values
abbrev pub SlotValues : {X : Type 0} → (X → Type 0) → Algebra X → Type 0
SlotValues P f =
    (terms : List Term) (s : Script) → Settled terms → Valued P f terms → Fits terms s
    → (i : ℕ) (l : Line) → nth s i ≡ Some l → SlotValue P f (terms_of s) i l.op

-- in every state that came about, every term has a value
abbrev pub TermsHaveValues : {X : Type 0} → Algebra X → Type 0
TermsHaveValues f = (past : History) (st : State) → Came past st → (t : Term) → In t st.terms → is_some (value f t) ≡ true

-- in every state that came about, the terms are settled, and every agent's script fits them
abbrev pub TermsSettled : Type 0
TermsSettled = (past : History) (st : State) → Came past st → Settled st.terms

abbrev pub ScriptsFit : Type 0
ScriptsFit = (past : History) (st : State) → Came past st → (p : ℕ) (s : Script) → nth st.scripts p ≡ Some s → Fits st.terms s
