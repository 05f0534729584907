-- What was called and answered since a protocol was blank, and what each agent was given by it.
use Rattle.std.specs.Prelude.{◌≡◌, ℕ, ◌+◌, ◌⊎◌, ◌↔◌, List, [], ◌∷◌, Some, Decides}
use Rattle.deduction.specs.Term.{Kind, party, number, shared, public, table, function, Term, name, built, mate, mate_of, Occurs}
use Rattle.deduction.specs.Derive.{DerivesFrom}
use Rattle.rules.specs.State.{State, blank, Call, NAME, BUILD, KNOW, STEP, CAN, Refusal, Unknown, WrongKind, NoRoom, EighthParty, TooLate}
use Rattle.rules.specs.State.{NoTwoParties, LastStep, NoAddress, Unmakeable, ScriptFull, Told, named, formed, mated, known, stepped, asked, refused}
use Rattle.rules.specs.State.{nth, perform}

-- all calls with their answers, the newest first
abbrev pub History : Type 0
History = List Told

-- the state came about from blank by these calls
abbrev pub Came : History → State → Type 0
Came [] st = st ≡ blank
Came (d ∷ past) st' = (st : State) × Came past st × ((c : Call) × ((perform st c).told ≡ d) × ((perform st c).state ≡ st'))

-- a call's new term: the number n stands for t, where S says what the earlier numbers stand for
abbrev pub Adds : (ℕ → Term → Type 0) → Told → ℕ → Term → Type 0
Adds S (named k m) n t = ((n ≡ m) × (t ≡ name k m)) ⊎ ((k ≡ public) × (n ≡ m + 1) × (t ≡ mate (name k m)))
Adds S (formed f a b m) n t = (n ≡ m) × ((x : Term) × (y : Term) × S a x × S b y × (t ≡ built f x y))
Adds S (mated a m) n t = (n ≡ m) × ((x : Term) × S a x × (t ≡ mate_of x))
Adds S (known p m) n t = ⊥
Adds S (stepped a b m l) n t = ⊥
Adds S (asked p m b) n t = ⊥
Adds S (refused c r) n t = ⊥

-- the number n stands for the term t
abbrev pub Stands : History → ℕ → Term → Type 0
Stands [] n t = ⊥
Stands (d ∷ past) n t = Stands past n t ⊎ Adds (Stands past) d n t

abbrev pub is_party : Kind → ℕ
is_party party = 1
is_party number = 0
is_party shared = 0
is_party public = 0
is_party table = 0
is_party function = 0

abbrev pub opens : Told → ℕ
opens (named k m) = is_party k
opens (formed f a b m) = 0
opens (mated a m) = 0
opens (known p m) = 0
opens (stepped a b m l) = 0
opens (asked p m b) = 0
opens (refused c r) = 0

-- how many parties were named
abbrev pub parties : History → ℕ
parties [] = 0
parties (d ∷ past) = parties past + opens d

-- the newest call named a party, which is the next agent
abbrev pub Opens : ℕ → Told → ℕ → Term → Type 0
Opens n (named k m) p t = (k ≡ party) × (p ≡ n + 1) × (t ≡ name party m)
Opens n (formed f a b m) p t = ⊥
Opens n (mated a m) p t = ⊥
Opens n (known q m) p t = ⊥
Opens n (stepped a b m l) p t = ⊥
Opens n (asked q m b) p t = ⊥
Opens n (refused c r) p t = ⊥

-- t is the name of the agent p
abbrev pub NameOf : History → ℕ → Term → Type 0
NameOf [] p t = ⊥
NameOf (d ∷ past) p t = NameOf past p t ⊎ Opens (parties past) d p t

-- the term of granted initial knowledge or of a granted step
abbrev pub Shows : (ℕ → Term → Type 0) → Told → Term → Type 0
Shows S (named k m) t = ⊥
Shows S (formed f a b m) t = ⊥
Shows S (mated a m) t = ⊥
Shows S (known p m) t = S m t
Shows S (stepped a b m l) t = S m t
Shows S (asked p m b) t = ⊥
Shows S (refused c r) t = ⊥

abbrev pub Shown : History → Term → Type 0
Shown [] t = ⊥
Shown (d ∷ past) t = Shown past t ⊎ Shows (Stands past) d t

-- a name is used if it is a party's, or occurs at some depth in granted initial knowledge or in a granted step
abbrev pub Used : History → Kind → ℕ → Type 0
Used past k i = (k ≡ party) ⊎ ((t : Term) × Shown past t × Occurs k i t)

-- numbers, shared keys and public keys can be fresh
abbrev pub FreshKind : Kind → Type 0
FreshKind party = ⊥
FreshKind number = Unit {0}
FreshKind shared = Unit {0}
FreshKind public = Unit {0}
FreshKind table = ⊥
FreshKind function = ⊥

-- u is a name that is fresh in the message t, or the mate of a fresh public key
abbrev pub FreshIn : History → Term → Term → Type 0
FreshIn past t u =
    (k : Kind) × (i : ℕ) × FreshKind k × Occurs k i t × (Used past k i → ⊥)
    × ((u ≡ name k i) ⊎ ((k ≡ public) × (u ≡ mate (name k i))))

-- a granted step gives the receiver the message and the sender's name, the sender what is fresh, the listener the message and both names
abbrev pub StepGives : History → ℕ → ℕ → ℕ → ℕ → Term → Type 0
StepGives past a b m p t =
    ((p ≡ b) × (Stands past m t ⊎ NameOf past a t))
    ⊎ (((p ≡ a) × ((x : Term) × Stands past m x × FreshIn past x t))
    ⊎ ((p ≡ 0) × (Stands past m t ⊎ (NameOf past a t ⊎ NameOf past b t))))

-- what a call gives an agent
abbrev pub Gives : History → Told → ℕ → Term → Type 0
Gives past (named k m) p t = (k ≡ party) × (p ≡ parties past + 1) × (t ≡ name party m)
Gives past (formed f a b m) p t = ⊥
Gives past (mated a m) p t = ⊥
Gives past (known q m) p t = (p ≡ q) × Stands past m t
Gives past (stepped a b m l) p t = StepGives past a b m p t
Gives past (asked q m b) p t = ⊥
Gives past (refused c r) p t = ⊥

-- an agent's givens: its name if it is a party, its granted initial knowledge, and what granted steps give it
abbrev pub Given : History → ℕ → Term → Type 0
Given [] p t = ⊥
Given (d ∷ past) p t = Given past p t ⊎ Gives past d p t

-- what an agent can build
abbrev pub CanBuild : History → ℕ → Term → Type 0
CanBuild past p t = DerivesFrom (Given past p) t

-- what a sender can build as its next message: the names fresh there and the mates of fresh public keys are given too
abbrev pub CanSend : History → ℕ → Term → Type 0
CanSend past a t = DerivesFrom (λ u. Given past a u ⊎ FreshIn past t u) t

-- a refused step, past the earlier tests: unmakeable means that the sender cannot build the message, a full script that it can
abbrev pub RefusedStep : History → ℕ → Term → Refusal → Type 0
RefusedStep past a t Unknown = Unit {0}
RefusedStep past a t WrongKind = ⊥
RefusedStep past a t NoRoom = ⊥
RefusedStep past a t EighthParty = ⊥
RefusedStep past a t TooLate = ⊥
RefusedStep past a t NoTwoParties = Unit {0}
RefusedStep past a t LastStep = Unit {0}
RefusedStep past a t NoAddress = Unit {0}
RefusedStep past a t (Unmakeable x) = CanSend past a t → ⊥
RefusedStep past a t (ScriptFull p) = CanSend past a t

abbrev pub RefusedRight : History → Call → Refusal → Type 0
RefusedRight past (NAME k) r = Unit {0}
RefusedRight past (BUILD f a b) r = Unit {0}
RefusedRight past (KNOW p m) r = Unit {0}
RefusedRight past (STEP a b m) r = (t : Term) → Stands past m t → RefusedStep past a t r
RefusedRight past (CAN p m) r = Unit {0}

-- what an answer says of building: a granted step's message can be built by its sender, one refused as unmakeable cannot; can-build is exact
abbrev pub AnsweredRight : History → Told → Type 0
AnsweredRight past (named k n) = Unit {0}
AnsweredRight past (formed f a b n) = Unit {0}
AnsweredRight past (mated a n) = Unit {0}
AnsweredRight past (known p m) = Unit {0}
AnsweredRight past (stepped a b m l) = (t : Term) → Stands past m t → CanSend past a t
AnsweredRight past (asked p m yes?) = (t : Term) → Stands past m t → Decides yes? (CanBuild past p t)
AnsweredRight past (refused c r) = RefusedRight past c r

-- after every list of calls from blank, every call is answered right
abbrev pub AnswersAreRight : Type 0
AnswersAreRight = (past : History) (st : State) → Came past st → (c : Call) → AnsweredRight past (perform st c).told

-- after every list of calls from blank, the numbers of the state stand for its terms, and for nothing else
abbrev pub NumbersStand : Type 0
NumbersStand = (past : History) (st : State) → Came past st → (n : ℕ) (t : Term) → Stands past n t ↔ (nth st.terms n ≡ Some t)
