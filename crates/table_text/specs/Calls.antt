-- The calls that a term and a line make, in their order, and what comes of them. The names ds were declared before.
use Rattle.std.specs.Prelude.{◌≡◌, ℕ, ◌++◌, ◌⊎◌, List, [], ◌∷◌, Some, None, Option, Ok, Err, Result}
use Rattle.terms.specs.declared.node.Kind.{Kind}
use Rattle.terms.specs.Node.{kind_number}
use Rattle.names.specs.declared.names.Named.{Named}
use Rattle.names.specs.Names.{agent_from, look_up}
use Rattle.rules.specs.State.{State, NAME, BUILD, KNOW, STEP}
use Rattle.syntax.specs.Grammar.{Key, named, entry, mate, Term, key, tuple, sealed, digest, Parts, final, more, Line, blank, declares, owns, sends}
use Rattle.protocol.specs.declared.refusal.Refusal.{Refusal}
use Rattle.protocol.specs.Outcome.{Performed, number, done}

-- names, each with what it was declared as
abbrev pub Known : Type 0
Known = List (List ℕ × Named)

-- the number of the term that a name was declared as
abbrev pub term_number : Option Named → ℕ
term_number None = 0
term_number (Some n) = n.term

abbrev pub number_in : Known → List ℕ → ℕ
number_in ds w = term_number (look_up ds w)

-- the agent whose name it is
abbrev pub agent_number : Option ℕ → ℕ
agent_number None = 0
agent_number (Some p) = p

abbrev pub agent_in : Known → List ℕ → ℕ
agent_in ds w = agent_number (agent_from 1 ds w)

-- What is done in a state is a relation between that state, the answer or the refusal, and the state after it.

-- nothing is done, and the answer is a
abbrev pub Is : {A : Type 0} → A → State → Result A Refusal → State → Type 0
Is a st r st' = (r ≡ Ok a) × (st' ≡ st)

-- first one thing, and then another with its answer; a refusal of the first ends it
pub data Then {A B : Type 0} (F : State → Result A Refusal → State → Type 0) (G : A → State → Result B Refusal → State → Type 0) (st : State) (r : Result B Refusal) (st' : State) : Type 0 where
  on : (a : A) (mid : State) → F st (Ok a) mid → G a mid r st' → Then F G st r st'
  ended : (e : Refusal) → F st (Err e) st' → r ≡ Err e → Then F G st r st'

-- the calls on a protocol
abbrev pub Names : Kind → State → Result ℕ Refusal → State → Type 0
Names k st r st' = Performed st (NAME (kind_number k)) (number r) st'

abbrev pub Builds : ℕ → ℕ → ℕ → State → Result ℕ Refusal → State → Type 0
Builds f a b st r st' = Performed st (BUILD f a b) (number r) st'

abbrev pub Knows : ℕ → ℕ → State → Result (Unit {0}) Refusal → State → Type 0
Knows p n st r st' = Performed st (KNOW p n) (done r) st'

abbrev pub Steps : ℕ → ℕ → ℕ → State → Result ℕ Refusal → State → Type 0
Steps p q n st r st' = Performed st (STEP p q n) (number r) st'

-- a new name of the kind, and what it is declared as
abbrev pub NewName : Kind → State → Result Named Refusal → State → Type 0
NewName k st (Ok d) st' = (d.kind ≡ k) × Names k st (Ok d.term) st'
NewName k st (Err e) st' = Names k st (Err e) st'

-- the forms by number
abbrev pub PAIR : ℕ
PAIR = 0

abbrev pub SEALED : ℕ
SEALED = 1

abbrev pub DIGEST : ℕ
DIGEST = 2

abbrev pub ENTRY : ℕ
ENTRY = 3

abbrev pub MATE : ℕ
MATE = 4

-- the pair of the first with the pair of the others, built from the right
abbrev pub Pairs : ℕ → List ℕ → State → Result ℕ Refusal → State → Type 0
Pairs a [] = Is a
Pairs a (b ∷ bs) = Then (Pairs b bs) (λ n. Builds PAIR a n)

-- a key: what is under the tick comes before the mate
abbrev pub KeyMade : Known → Key → State → Result ℕ Refusal → State → Type 0
KeyMade ds (named n) = Is (number_in ds n)
KeyMade ds (entry t a) = Builds ENTRY (number_in ds t) (number_in ds a)
KeyMade ds (mate k) = Then (KeyMade ds k) (λ n. Builds MATE n 0)

-- a term: its parts from left to right before the whole; the answer is its number
abbrev mutual
  pub Made : Known → Term → State → Result ℕ Refusal → State → Type 0
  Made ds (key k) = KeyMade ds k
  Made ds (tuple t ps) = Then (Made ds t) (λ a. Then (AllMade ds ps) (λ bs. Pairs a bs))
  Made ds (sealed t k) = Then (Made ds t) (λ a. Then (KeyMade ds k) (λ b. Builds SEALED a b))
  Made ds (digest f t) = Then (Made ds t) (λ a. Builds DIGEST (number_in ds f) a)

  pub AllMade : Known → Parts → State → Result (List ℕ) Refusal → State → Type 0
  AllMade ds (final t) = Then (Made ds t) (λ n. Is (n ∷ []))
  AllMade ds (more t ps) = Then (Made ds t) (λ n. Then (AllMade ds ps) (λ ns. Is (n ∷ ns)))

-- the names ws become names of the kind, each the next name of the protocol; a refusal leaves those before it declared
abbrev pub AllNamed : Kind → List (List ℕ) → Known → State → Result (Unit {0}) Refusal → Known → State → Type 0
AllNamed k [] ds st r ds' st' = (r ≡ Ok tt) × (ds' ≡ ds) × (st' ≡ st)
AllNamed k (w ∷ ws) ds st r ds' st' =
    ((n : ℕ) × (mid : State) × Names k st (Ok n) mid × AllNamed k ws (ds ++ (w, record { kind = k; term = n }) ∷ []) mid r ds' st')
    ⊎ ((e : Refusal) × Names k st (Err e) st' × (r ≡ Err e) × (ds' ≡ ds))

-- an agent knows a term, or sends it to another, once it is made
abbrev pub Owns : Known → List ℕ → Term → State → Result (Unit {0}) Refusal → State → Type 0
Owns ds p t = Then (Made ds t) (λ n. Knows (agent_in ds p) n)

abbrev pub Sends : Known → List ℕ → List ℕ → Term → State → Result (Unit {0}) Refusal → State → Type 0
Sends ds p q t = Then (Made ds t) (λ n. Then (Steps (agent_in ds p) (agent_in ds q) n) (λ step. Is tt))

-- the calls of a line, and the names that are declared after them
abbrev pub LineMade : Line → Known → State → Result (Unit {0}) Refusal → Known → State → Type 0
LineMade blank ds st r ds' st' = (r ≡ Ok tt) × (ds' ≡ ds) × (st' ≡ st)
LineMade (declares k n ns) ds st r ds' st' = AllNamed k (n ∷ ns) ds st r ds' st'
LineMade (owns p t) ds st r ds' st' = Owns ds p t st r st' × (ds' ≡ ds)
LineMade (sends p q t) ds st r ds' st' = Sends ds p q t st r st' × (ds' ≡ ds)
