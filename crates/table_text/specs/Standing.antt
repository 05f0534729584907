-- What declared names stand for.
use Rattle.std.specs.Prelude.{◌≡◌, ℕ, List, Some, Result}
use Rattle.deduction.specs.Term.{name, party}
use Rattle.terms.specs.declared.node.Kind.TheVariants.{Party}
use Rattle.terms.specs.Tree.{kind_of}
use Rattle.names.specs.declared.names.Named.{Named}
use Rattle.names.specs.Names.{look_up}
use Rattle.rules.specs.State.{State, nth, name_at}
use Rattle.syntax.specs.Grammar.{Line}
use Rattle.table_text.specs.declared.fault.TextFault.{TextFault}
use Rattle.table_text.specs.Calls.{Known, agent_in}
use Rattle.table_text.specs.Tables.{Begun, Reads}

-- the term of the word w, which was declared as n, is the name of that kind with this number; and the agent of a party's word has that name
pub record NameStands (ds : Known) (st : State) (w : List ℕ) (n : Named) : Type 0 where
  pub term : nth st.terms n.term ≡ Some (name (kind_of n.kind) n.term)
  pub agent : n.kind ≡ Party → name_at st.terms (agent_in ds w) ≡ Some (name party n.term)

abbrev pub NamesStand : Known → State → Type 0
NamesStand ds st = (w : List ℕ) (n : Named) → look_up ds w ≡ Some n → NameStands ds st w n

-- after granted lines, and after the whole text, whatever it is answered
abbrev pub DeclaredNamesStand : Type 0
DeclaredNamesStand =
    (text : List ℕ)
    → ((ls : List Line) (p : ℕ) (ds : Known) (st : State) → Begun text ls p ds st → NamesStand ds st)
    × ((r : Result (Unit {0}) TextFault) (ds : Known) (st : State) → Reads text r ds st → NamesStand ds st)
