-- The state of a protocol, its calls, and what each call answers and does.
use Rattle.std.specs.Prelude.{ℕ, zero, suc, ◌+◌, Bool, true, false, cond, not, ◌&&◌, ◌||◌, List, [], ◌∷◌, ◌++◌, length, Some, None, Option, ◌==◌, nat_lt, slice_index_or, slice_set}
use Rattle.deduction.specs.Decide.{same_term, same_kind, is_key, parts_fit}
use Rattle.deduction.specs.Term.{Kind, party, number, shared, public, table, function, Form, pair, sealed, digest, entry, Term, name}
use Rattle.deduction.specs.Term.{built, mate, mate_of}
use Rattle.rules.specs.Script.{Op, GIVEN, FRESH, FROM, TO, RECV, MATE, LEFT, RIGHT, JOIN, SEAL, DIGEST, ENTRY, OPEN, SAME, SEND, Script, line}
use Rattle.rules.specs.Script.{find}
use Rattle.rules.specs.Compose.{compose, composes, missing}
use Rattle.rules.specs.Effects.{knows, freshens, sends, received, overheard}

-- a granted step, and how long the scripts of its sender, its receiver and the listener are after it
pub record Step : Type 0 where
  pub sender : ℕ
  pub receiver : ℕ
  pub message : Term
  pub sent : ℕ
  pub received : ℕ
  pub heard : ℕ

-- the terms by number, the scripts by agent (the listener's first, then the parties'), and the granted steps
pub record State : Type 0 where
  pub terms : List Term
  pub scripts : List Script
  pub steps : List Step

-- nothing but the listener's empty script
abbrev pub blank : State
blank = record { terms = []; scripts = [] ∷ []; steps = [] }

-- the calls, by the numbers of kinds, forms, agents and terms; the form 4 is the mate, whose second number is not looked at
pub data Call : Type 0 where
  NAME : ℕ → Call
  BUILD : ℕ → ℕ → ℕ → Call
  KNOW : ℕ → ℕ → Call
  STEP : ℕ → ℕ → ℕ → Call
  CAN : ℕ → ℕ → Call

-- refusals; Unmakeable has the missing term, ScriptFull the agent
pub data Refusal : Type 0 where
  Unknown WrongKind NoRoom EighthParty TooLate NoTwoParties LastStep NoAddress : Refusal
  Unmakeable ScriptFull : ℕ → Refusal

-- a call with its answer
pub data Told : Type 0 where
  -- kind; the number answered
  named : Kind → ℕ → Told
  -- form and parts; the number answered
  formed : Form → ℕ → ℕ → ℕ → Told
  -- key; the number answered
  mated : ℕ → ℕ → Told
  -- agent and term
  known : ℕ → ℕ → Told
  -- sender, receiver and message; the step's number
  stepped : ℕ → ℕ → ℕ → ℕ → Told
  -- agent and term; the answer
  asked : ℕ → ℕ → Bool → Told
  refused : Call → Refusal → Told

-- what a call answers, and the state after it
pub record Outcome : Type 0 where
  pub told : Told
  pub state : State

abbrev pub outcome : Told → State → Outcome
outcome d st = record { told = d; state = st }

-- a refused call alters nothing
abbrev pub refuses : State → Call → Refusal → Outcome
refuses st c r = outcome (refused c r) st

-- what a list has at a place
abbrev pub nth : {A : Type 0} → List A → ℕ → Option A
nth [] n = None
nth (x ∷ xs) zero = Some x
nth (x ∷ xs) (suc n) = nth xs n

abbrev pub with : {A B : Type 0} → Option A → B → (A → B) → B
with None b f = b
with (Some a) b f = f a

-- the number of a term
abbrev pub place_from : ℕ → List Term → Term → Option ℕ
place_from n [] t = None
place_from n (u ∷ us) t = cond (same_term u t) (Some n) (place_from (n + 1) us t)

unfoldable pub place_of : List Term → Term → Option ℕ
place_of us t = place_from 0 us t

abbrev pub kind_of : ℕ → Option Kind
kind_of n = nth (party ∷ number ∷ shared ∷ public ∷ table ∷ function ∷ []) n

abbrev pub form_of : ℕ → Option Form
form_of n = nth (pair ∷ sealed ∷ digest ∷ entry ∷ []) n

-- the names of the parties in order
abbrev pub party_of : Kind → Term → List Term → List Term
party_of party t ts = t ∷ ts
party_of number t ts = ts
party_of shared t ts = ts
party_of public t ts = ts
party_of table t ts = ts
party_of function t ts = ts

abbrev pub party_names : List Term → List Term
party_names [] = []
party_names (name k i ∷ ts) = party_of k (name k i) (party_names ts)
party_names (built f a b ∷ ts) = party_names ts
party_names (mate k ∷ ts) = party_names ts

-- the name of an agent; the listener has none
abbrev pub name_at : List Term → ℕ → Option Term
name_at ts zero = None
name_at ts (suc p) = nth (party_names ts) p

abbrev pub name_of : State → ℕ → Option Term
name_of st p = name_at st.terms p

-- the name of this kind and identity occurs in the term
abbrev pub occurs : Kind → ℕ → Term → Bool
occurs k i (name k' j) = same_kind k k' && i == j
occurs k i (built f a b) = occurs k i a || occurs k i b
occurs k i (mate e) = occurs k i e

-- it occurs in a term that the instruction gives
abbrev pub occurs_given : Kind → ℕ → Op → Bool
occurs_given k i (GIVEN t) = occurs k i t
occurs_given k i (FRESH t) = false
occurs_given k i (FROM t) = false
occurs_given k i (TO t) = false
occurs_given k i (RECV t) = false
occurs_given k i (MATE a) = false
occurs_given k i (LEFT a) = false
occurs_given k i (RIGHT a) = false
occurs_given k i (JOIN a b) = false
occurs_given k i (SEAL a b) = false
occurs_given k i (DIGEST a b) = false
occurs_given k i (ENTRY a b) = false
occurs_given k i (OPEN a b) = false
occurs_given k i (SAME a b) = false
occurs_given k i (SEND a b) = false

abbrev pub used_in : Kind → ℕ → Script → Bool
used_in k i [] = false
used_in k i (l ∷ s) = occurs_given k i l.op || used_in k i s

abbrev pub used_in_some : Kind → ℕ → List Script → Bool
used_in_some k i [] = false
used_in_some k i (s ∷ ss) = used_in k i s || used_in_some k i ss

abbrev pub used_in_steps : Kind → ℕ → List Step → Bool
used_in_steps k i [] = false
used_in_steps k i (s ∷ ss) = occurs k i s.message || used_in_steps k i ss

-- a name is used once it occurs in a GIVEN of some script or in a granted step
abbrev pub used : State → Kind → ℕ → Bool
used st k i = used_in_some k i st.scripts || used_in_steps k i st.steps

-- names of these kinds can be fresh
abbrev pub fresh_kind : Kind → Bool
fresh_kind party = false
fresh_kind number = true
fresh_kind shared = true
fresh_kind public = true
fresh_kind table = false
fresh_kind function = false

abbrev pub is_fresh : State → Term → Term → Bool
is_fresh st m (name k i) = fresh_kind k && (occurs k i m && not (used st k i))
is_fresh st m (built f a b) = false
is_fresh st m (mate k) = false

abbrev pub fresh_among : State → Term → List Term → List Term
fresh_among st m [] = []
fresh_among st m (t ∷ ts) = cond (is_fresh st m t) (t ∷ fresh_among st m ts) (fresh_among st m ts)

-- the names that are fresh in the message, in number order
abbrev pub fresh_names : State → Term → List Term
fresh_names st m = fresh_among st m st.terms

-- NAME
abbrev pub new_terms : Kind → ℕ → List Term
new_terms party n = name party n ∷ []
new_terms number n = name number n ∷ []
new_terms shared n = name shared n ∷ []
new_terms public n = name public n ∷ mate (name public n) ∷ []
new_terms table n = name table n ∷ []
new_terms function n = name function n ∷ []

-- a party's name opens the next agent
abbrev pub new_scripts : Kind → ℕ → List Script
new_scripts party n = (line (GIVEN (name party n)) (Some (name party n)) ∷ []) ∷ []
new_scripts number n = []
new_scripts shared n = []
new_scripts public n = []
new_scripts table n = []
new_scripts function n = []

abbrev pub names : State → Kind → Outcome
names st k =
    outcome (named k (length st.terms))
    (record { terms = st.terms ++ new_terms k (length st.terms); scripts = st.scripts ++ new_scripts k (length st.terms); steps = st.steps })

abbrev pub name_tests : State → ℕ → Kind → Outcome
name_tests st c k =
    cond (nat_lt 512 (length st.terms + length (new_terms k (length st.terms)))) (refuses st (NAME c) NoRoom)
    (cond (nat_lt 8 (length st.scripts + length (new_scripts k (length st.terms)))) (refuses st (NAME c) EighthParty)
    (names st k))

-- BUILD
abbrev pub placed : State → Call → Term → (ℕ → Told) → Option ℕ → Outcome
placed st c t told (Some n) = outcome (told n) st
placed st c t told None =
    cond (nat_lt (length st.terms) 512)
    (outcome (told (length st.terms)) (record { terms = st.terms ++ (t ∷ []); scripts = st.scripts; steps = st.steps }))
    (refuses st c NoRoom)

abbrev pub builds : State → Call → Form → ℕ → ℕ → Term → Term → Outcome
builds st c f a b ta tb =
    cond (parts_fit f ta tb) (placed st c (built f ta tb) (formed f a b) (place_of st.terms (built f ta tb))) (refuses st c WrongKind)

abbrev pub mates : State → Call → ℕ → Term → Outcome
mates st c a ta = cond (is_key ta) (placed st c (mate_of ta) (mated a) (place_of st.terms (mate_of ta))) (refuses st c WrongKind)

abbrev pub build_tests : State → ℕ → ℕ → ℕ → Outcome
build_tests st f a b =
    cond (f == 4)
    (with (nth st.terms a) (refuses st (BUILD f a b) Unknown) (mates st (BUILD f a b) a))
    (with (form_of f) (refuses st (BUILD f a b) Unknown) (λ form.
    with (nth st.terms a) (refuses st (BUILD f a b) Unknown) (λ ta.
    with (nth st.terms b) (refuses st (BUILD f a b) Unknown) (λ tb. builds st (BUILD f a b) form a b ta tb))))

-- a script of more than 512 instructions is refused
abbrev pub too_long : Script → Bool
too_long s = nat_lt 512 (length s)

abbrev pub has_no_steps : List Step → Bool
has_no_steps [] = true
has_no_steps (s ∷ ss) = false

-- KNOW
abbrev pub learns : State → ℕ → ℕ → Script → Outcome
learns st p n s =
    cond (too_long s) (refuses st (KNOW p n) (ScriptFull p))
    (outcome (known p n) (record { terms = st.terms; scripts = slice_set st.scripts p s; steps = st.steps }))

abbrev pub know_tests : State → ℕ → ℕ → Outcome
know_tests st p n =
    with (nth st.scripts p) (refuses st (KNOW p n) Unknown) (λ s.
    with (nth st.terms n) (refuses st (KNOW p n) Unknown) (λ t.
    cond (has_no_steps st.steps) (learns st p n (knows s t)) (refuses st (KNOW p n) TooLate)))

-- STEP: the scripts after it, if none is too long
abbrev pub stepped_to : State → ℕ → ℕ → ℕ → Term → Script → Script → Script → Outcome
stepped_to st a b n m sa sb sl =
    cond (too_long sa) (refuses st (STEP a b n) (ScriptFull a))
    (cond (too_long sb) (refuses st (STEP a b n) (ScriptFull b))
    (cond (too_long sl) (refuses st (STEP a b n) (ScriptFull 0))
    (outcome (stepped a b n (length st.steps))
    (record {
      terms = st.terms;
      scripts = slice_set (slice_set (slice_set st.scripts a sa) b sb) 0 sl;
      steps = st.steps ++ (record { sender = a; receiver = b; message = m; sent = length sa; received = length sb; heard = length sl } ∷ []);
    }))))

abbrev pub missing_number : State → Option Term → ℕ
missing_number st None = 0
missing_number st (Some t) = with (place_of st.terms t) 0 (λ n. n)

-- the message with the fresh names in place, sent to the slot of the receiver's name
abbrev pub delivers : State → ℕ → ℕ → ℕ → Term → Script → Script → Script → Term → Term → ℕ → Outcome
delivers st a b n m sa sb sl na nb address =
    with (sends address (compose (freshens sa (fresh_names st m)) m))
    (refuses st (STEP a b n) (Unmakeable (missing_number st (missing (freshens sa (fresh_names st m)) m))))
    (λ sa'. stepped_to st a b n m sa' (received sb na m) (overheard sl na nb m))

abbrev pub addresses : State → ℕ → ℕ → ℕ → Term → Script → Script → Script → Term → Term → Outcome
addresses st a b n m sa sb sl na nb =
    with (find sa nb) (refuses st (STEP a b n) NoAddress) (delivers st a b n m sa sb sl na nb)

-- the two are different parties, and there is room for a step
abbrev pub step_tests : State → ℕ → ℕ → ℕ → Script → Script → Script → Term → Outcome
step_tests st a b n sa sb sl m =
    cond (a == b) (refuses st (STEP a b n) NoTwoParties)
    (with (name_of st a) (refuses st (STEP a b n) NoTwoParties) (λ na.
    with (name_of st b) (refuses st (STEP a b n) NoTwoParties) (λ nb.
    cond (nat_lt (length st.steps) 64) (addresses st a b n m sa sb sl na nb) (refuses st (STEP a b n) LastStep))))

abbrev pub step_call : State → ℕ → ℕ → ℕ → Outcome
step_call st a b n =
    with (nth st.scripts a) (refuses st (STEP a b n) Unknown) (λ sa.
    with (nth st.scripts b) (refuses st (STEP a b n) Unknown) (λ sb.
    with (nth st.terms n) (refuses st (STEP a b n) Unknown) (λ m.
    step_tests st a b n sa sb (slice_index_or st.scripts 0 []) m)))

-- CAN
abbrev pub can_call : State → ℕ → ℕ → Outcome
can_call st p n =
    with (nth st.scripts p) (refuses st (CAN p n) Unknown) (λ s.
    with (nth st.terms n) (refuses st (CAN p n) Unknown) (λ t. outcome (asked p n (composes s t)) st))

-- what each call answers and does, in every state
abbrev pub perform : State → Call → Outcome
perform st (NAME c) = with (kind_of c) (refuses st (NAME c) Unknown) (name_tests st c)
perform st (BUILD f a b) = build_tests st f a b
perform st (KNOW p n) = know_tests st p n
perform st (STEP a b n) = step_call st a b n
perform st (CAN p n) = can_call st p n
