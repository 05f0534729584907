-- What holds of every state that came about from blank.
use Rattle.std.specs.Prelude.{◌≡◌, ℕ, ◌+◌, ◌<◌, List, length, Some, Decides}
use Rattle.deduction.specs.Term.{Kind, public, Term, name, mate, Formed, In, among}
use Rattle.deduction.specs.Compose.{Represents}
use Rattle.rules.specs.Script.{Script, held}
use Rattle.rules.specs.State.{State, nth, party_names, name_at, used}
use Rattle.rules.specs.History.{History, Came, Stands, parties, NameOf, Used, FreshKind, Given}
use Rattle.rules.specs.Grows.{Closed, Written}

-- the terms are those that the numbers stand for; they are well-formed and apart, and have their parts and the mates of public keys;
-- a name's identity is its number; and the parties' names are those of the agents
pub record Numbered (past : History) (ts : List Term) : Type 0 where
  pub stands_to : (n : ℕ) (t : Term) → Stands past n t → nth ts n ≡ Some t
  pub stands_from : (n : ℕ) (t : Term) → nth ts n ≡ Some t → Stands past n t
  pub formed : (t : Term) → In t ts → Formed t
  pub closed : Closed (λ t. In t ts)
  pub own : (n : ℕ) (k : Kind) (i : ℕ) → nth ts n ≡ Some (name k i) → i ≡ n
  pub apart : (n m : ℕ) (t : Term) → nth ts n ≡ Some t → nth ts m ≡ Some t → n ≡ m
  pub with_mates : (i : ℕ) → In (name public i) ts → In (mate (name public i)) ts
  pub names_to : (p : ℕ) (t : Term) → NameOf past p t → name_at ts p ≡ Some t
  pub names_from : (p : ℕ) (t : Term) → name_at ts p ≡ Some t → NameOf past p t
  pub agents : length (party_names ts) ≡ parties past

-- what holds of an agent's script
pub record Agent (past : History) (ts : List Term) (p : ℕ) (s : Script) : Type 0 where
  pub represents : Represents (among (held s)) (Given past p)
  pub written : Written ts s

-- what holds of every state that came about
pub record Stable (past : History) (st : State) : Type 0 where
  pub numbers : Numbered past st.terms
  pub count : length st.scripts ≡ parties past + 1
  pub agent : (p : ℕ) (s : Script) → nth st.scripts p ≡ Some s → Agent past st.terms p s
  pub given_known : (p : ℕ) (t : Term) → Given past p t → p < length st.scripts
  pub used_right : (k : Kind) (i : ℕ) → FreshKind k → Decides (used st k i) (Used past k i)

abbrev pub StatesAreStable : Type 0
StatesAreStable = (past : History) (st : State) → Came past st → Stable past st
