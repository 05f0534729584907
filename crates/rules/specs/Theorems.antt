-- The statements that the contracts name.
use Rattle.std.specs.Prelude.{◌≡◌, ℕ, ◌<◌, ◌≤◌, ◌⊎◌, ◌↔◌, List, [], ◌∷◌, length, Some, None, Decides}
use Rattle.deduction.specs.Term.{party, number, pair, Term, name, built, mate, Formed, In, among}
use Rattle.deduction.specs.Derive.{DerivesFrom}
use Rattle.deduction.specs.Compose.{Composable, Saturated, Represents}
use Rattle.rules.specs.Script.{Op, GIVEN, FRESH, FROM, TO, RECV, RIGHT, LEFT, JOIN, SAME, SEND, Script, line, find, held}
use Rattle.rules.specs.Compose.{Composed, compose, composes, missing}
use Rattle.rules.specs.Saturate.{take_apart, Saturates, parts, saturate}
use Rattle.rules.specs.Walk.{walk}
use Rattle.rules.specs.Effects.{knows, sent, received, overheard}
use Rattle.rules.specs.State.{State, blank, Call, NAME, BUILD, KNOW, STEP, CAN, Refusal, Unknown, WrongKind, NoRoom, EighthParty, TooLate}
use Rattle.rules.specs.State.{NoTwoParties, LastStep, NoAddress, Unmakeable, ScriptFull, Told, named, formed, mated, known, stepped, asked, refused}
use Rattle.rules.specs.State.{nth, perform}
use Rattle.rules.specs.History.{History, Came, Stands, FreshIn, Given}
use Rattle.rules.specs.Grows.{Holds, Begins, Apart, Written, Gains, FreshTerm, IsName, Once, Unheld}

-- a slot is found exactly if some slot holds the term; it holds the term, and none below it does
pub record Finds (s : Script) (t : Term) : Type 0 where
  pub holds : (n : ℕ) → find s t ≡ Some n → Holds s n t
  pub lowest : (n : ℕ) → find s t ≡ Some n → (j : ℕ) → Holds s j t → n ≤ j
  pub found : In t (held s) → (n : ℕ) × (find s t ≡ Some n)
  pub unfound : find s t ≡ None ↔ (In t (held s) → ⊥)

abbrev pub FindingFinds : Type 0
FindingFinds = (s : Script) (t : Term) → Finds s t

abbrev pub ComposingDecides : Type 0
ComposingDecides = (s : Script) (t : Term) → Decides (composes s t) (Composable (held s) t)

-- a composed term: the script goes on from the earlier one, the slot holds the term, nothing else becomes composable, and a term that
-- was found keeps its slot
pub record ComposedWell (s : Script) (t : Term) (c : Composed) : Type 0 where
  pub begins : Begins s c.script
  pub inside : c.slot < length c.script
  pub holds : Holds c.script c.slot t
  pub same : (u : Term) → Composable (held c.script) u ↔ Composable (held s) u
  pub kept : (u : Term) (n : ℕ) → find s u ≡ Some n → find c.script u ≡ Some n

abbrev pub ComposingMakes : Type 0
ComposingMakes = (s : Script) (t : Term) (c : Composed) → compose s t ≡ Some c → ComposedWell s t c

-- a name or a mate
abbrev pub Leaf : Term → Type 0
Leaf (name k i) = Unit {0}
Leaf (built f a b) = ⊥
Leaf (mate k) = Unit {0}

-- a missing term is a name or a mate of the term that no slot holds, and none is missing exactly if the term can be composed
pub record Misses (s : Script) (t : Term) : Type 0 where
  pub none : missing s t ≡ None ↔ Composable (held s) t
  pub leaf : (u : Term) → missing s t ≡ Some u → Leaf u
  pub unheld : (u : Term) → missing s t ≡ Some u → In u (held s) → ⊥
  pub part : (u : Term) → missing s t ≡ Some u → In u (parts t)

abbrev pub MissingMisses : Type 0
MissingMisses = (s : Script) (t : Term) → Misses s t

-- all well-formed
abbrev pub AllFormed : List Term → Type 0
AllFormed ts = (t : Term) → In t ts → Formed t

-- saturating goes step by step until none is left, in one way; none is left exactly if the held terms are saturated; and it needs
-- nothing that was not held
pub record Settles (s : Script) : Type 0 where
  pub steps : Saturates s (saturate s)
  pub only : (s' : Script) → Saturates s s' → s' ≡ saturate s
  pub over : take_apart s ≡ None ↔ Saturated (held s)
  pub saturated : Saturated (held (saturate s))
  pub gains : AllFormed (held s) → Gains s (λ t. ⊥) (saturate s)

abbrev pub SaturationEndsSaturated : Type 0
SaturationEndsSaturated = (s : Script) → Settles s

-- what was walked, known, received and overheard is covered, nothing else is gained, and all but the walk end saturated
abbrev pub WalkingGains : Type 0
WalkingGains = (s : Script) (t : Term) → AllFormed (t ∷ held s) → Gains s (among (t ∷ [])) (walk s (RECV t) t)

abbrev pub KnowingGains : Type 0
KnowingGains =
    (s : Script) (t : Term) → AllFormed (t ∷ held s) → Saturated (held s) → Gains s (among (t ∷ [])) (knows s t) × Saturated (held (knows s t))

abbrev pub ReceivingGains : Type 0
ReceivingGains =
    (s : Script) (who m : Term) → AllFormed (who ∷ m ∷ held s) → Gains s (among (who ∷ m ∷ [])) (received s who m) × Saturated (held (received s who m))

abbrev pub OverhearingGains : Type 0
OverhearingGains =
    (s : Script) (from to m : Term) → AllFormed (from ∷ to ∷ m ∷ held s)
    → Gains s (among (from ∷ to ∷ m ∷ [])) (overheard s from to m) × Saturated (held (overheard s from to m))

-- a sender gains its fresh names and the mates of fresh public keys, and nothing else; it can compose the message
abbrev pub SendingGains : Type 0
SendingGains =
    (s : Script) (fresh : List Term) (m : Term) (address : ℕ) (who : Term) (s' : Script) → sent s fresh m address ≡ Some s' → Holds s address who
    → ((t : Term) → In t fresh → IsName t) → Once fresh → Unheld s fresh → AllFormed (m ∷ held s)
    → Gains s (FreshTerm fresh) s' × Composable (held s') m

-- every rule goes on from the script that it is given, and a step of saturating makes it longer
pub record Appends (s : Script) : Type 0 where
  pub composing : (t : Term) (c : Composed) → compose s t ≡ Some c → Begins s c.script
  pub saturating : Begins s (saturate s)
  pub stepping : (s1 : Script) → take_apart s ≡ Some s1 → length s < length s1
  pub walking : (op : Op) (t : Term) → Begins s (walk s op t)
  pub knowing : (t : Term) → Begins s (knows s t)
  pub receiving : (who m : Term) → Begins s (received s who m)
  pub overhearing : (from to m : Term) → Begins s (overheard s from to m)
  pub sending : (fresh : List Term) (m : Term) (address : ℕ) (s' : Script) → sent s fresh m address ≡ Some s' → Begins s s'

abbrev pub RulesOnlyAppend : Type 0
RulesOnlyAppend = (s : Script) → Appends s

-- a call keeps every term at its number, and every script goes on from the earlier one
pub record Keeps (st st' : State) : Type 0 where
  pub numbers : (n : ℕ) (t : Term) → nth st.terms n ≡ Some t → nth st'.terms n ≡ Some t
  pub scripts : (p : ℕ) (s : Script) → nth st.scripts p ≡ Some s → (s' : Script) × (nth st'.scripts p ≡ Some s') × Begins s s'

abbrev pub CallsOnlyAdd : Type 0
CallsOnlyAdd = (st : State) (c : Call) → Keeps st (perform st c).state

-- after every list of calls from blank, a script stands for what its agent was given
abbrev pub ScriptsRepresent : Type 0
ScriptsRepresent =
    (past : History) (st : State) → Came past st → (p : ℕ) (s : Script) → nth st.scripts p ≡ Some s → Represents (among (held s)) (Given past p)

-- each line of a script fits what stands before it, and its slots hold only terms of the state
abbrev pub LinesFit : Type 0
LinesFit = (past : History) (st : State) → Came past st → (p : ℕ) (s : Script) → nth st.scripts p ≡ Some s → Written st.terms s

-- x is the number of a name or a mate in the message t that the sender cannot build
abbrev pub MissingFrom : History → ℕ → ℕ → Term → Type 0
MissingFrom past a x t =
    (u : Term) × Stands past x u × Leaf u × In u (parts t) × (DerivesFrom (λ v. Given past a v ⊎ FreshIn past t v) u → ⊥)

-- only a step is refused so
abbrev pub MissingIn : History → ℕ → Call → Type 0
MissingIn past x (NAME k) = ⊥
MissingIn past x (BUILD f a b) = ⊥
MissingIn past x (KNOW p n) = ⊥
MissingIn past x (STEP a b n) = (t : Term) → Stands past n t → MissingFrom past a x t
MissingIn past x (CAN p n) = ⊥

abbrev pub MissingBy : History → Call → Refusal → Type 0
MissingBy past c Unknown = Unit {0}
MissingBy past c WrongKind = Unit {0}
MissingBy past c NoRoom = Unit {0}
MissingBy past c EighthParty = Unit {0}
MissingBy past c TooLate = Unit {0}
MissingBy past c NoTwoParties = Unit {0}
MissingBy past c LastStep = Unit {0}
MissingBy past c NoAddress = Unit {0}
MissingBy past c (Unmakeable x) = MissingIn past x c
MissingBy past c (ScriptFull p) = Unit {0}

abbrev pub MissingTold : History → Told → Type 0
MissingTold past (named k n) = Unit {0}
MissingTold past (formed f a b n) = Unit {0}
MissingTold past (mated a n) = Unit {0}
MissingTold past (known p n) = Unit {0}
MissingTold past (stepped a b n l) = Unit {0}
MissingTold past (asked p n b) = Unit {0}
MissingTold past (refused c r) = MissingBy past c r

-- after every list of calls from blank, only a step is refused as unmakeable, with such a number
abbrev pub MissingIsNamed : Type 0
MissingIsNamed = (past : History) (st : State) → Came past st → (c : Call) → MissingTold past (perform st c).told

-- no script holds a term in two slots
abbrev pub NoTermTwice : Type 0
NoTermTwice = (past : History) (st : State) → Came past st → (p : ℕ) (s : Script) → nth st.scripts p ≡ Some s → Apart s

-- the call in this state is answered so, and leaves that state
abbrev pub Follows : State → Call → Told → State → Type 0
Follows st c d st' = ((perform st c).told ≡ d) × ((perform st c).state ≡ st')

-- a call's answer and the state after it
pub record OneOutcome (past : History) (st : State) (c : Call) : Type 0 where
  pub told : Told
  pub after : State
  pub follows : Follows st c told after
  pub came : Came (told ∷ past) after
  pub only : (d : Told) (st' : State) → Follows st c d st' → (d ≡ told) × (st' ≡ after)

abbrev pub EveryCallHasOneOutcome : Type 0
EveryCallHasOneOutcome = (past : History) (st : State) → Came past st → (c : Call) → OneOutcome past st c

-- the state after calls
abbrev pub after : State → List Call → State
after st [] = st
after st (c ∷ cs) = after (perform st c).state cs

-- two parties; the first knows the second's name, and sends it its own name with a fresh number
abbrev pub example_calls : List Call
example_calls = NAME 0 ∷ NAME 0 ∷ NAME 1 ∷ KNOW 1 1 ∷ BUILD 0 0 2 ∷ STEP 1 2 3 ∷ []

abbrev pub U : Term
U = name party 0

abbrev pub S : Term
S = name party 1

abbrev pub J : Term
J = name number 2

abbrev pub UJ : Term
UJ = built pair U J

abbrev pub example_scripts : List Script
example_scripts =
    (line (FROM U) (Some U) ∷ line (TO S) (Some S) ∷ line (RECV UJ) (Some UJ) ∷ line (RIGHT 2) (Some J) ∷ [])
    ∷ (line (GIVEN U) (Some U) ∷ line (GIVEN S) (Some S) ∷ line (FRESH J) (Some J) ∷ line (JOIN 0 2) (Some UJ) ∷ line (SEND 3 1) None ∷ [])
    ∷ (line (GIVEN S) (Some S) ∷ line (FROM U) (Some U) ∷ line (RECV UJ) (Some UJ) ∷ line (LEFT 2) None ∷ line (SAME 3 1) None ∷ line (RIGHT 2) (Some J) ∷ [])
    ∷ []

abbrev pub SmallExample : Type 0
SmallExample = (after blank example_calls).scripts ≡ example_scripts
