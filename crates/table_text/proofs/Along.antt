-- What every call keeps, the calls of terms and of lines keep.
use Rattle.std.proofs.Common.{ℕ, List, [], ◌∷◌, Ok, Err, Result, sym, subst}
use Rattle.rules.specs.State.{State, Call, NAME, BUILD, KNOW, STEP, CAN, perform}
use Rattle.syntax.specs.Grammar.{Key, named, entry, mate, Term, key, tuple, sealed, digest, Parts, final, more}
use Rattle.protocol.specs.declared.refusal.Refusal.{Refusal}
use Rattle.protocol.specs.Outcome.{Performed, number, done}
use Rattle.table_text.specs.Calls.{Known, Is, Then, on, ended, Steps, agent_in, Pairs, KeyMade, Made, AllMade, Owns, Sends}

-- a call that names nothing
abbrev pub Nameless : Call → Type 0
Nameless (NAME k) = ⊥
Nameless (BUILD f a b) = Unit {0}
Nameless (KNOW p n) = Unit {0}
Nameless (STEP a b n) = Unit {0}
Nameless (CAN p n) = Unit {0}

module _ (R : State → State → Type 0) (none : (st : State) → R st st) (both : (x y z : State) → R x y → R y z → R x z) (call : (st : State) (c : Call) → Nameless c → R st (perform st c).state) where
  abbrev Keeps : {A : Type 0} → (State → Result A Refusal → State → Type 0) → Type 0
  Keeps {A} F = (st : State) (r : Result A Refusal) (st' : State) → F st r st' → R st st'

  is_keeps : {A : Type 0} (a : A) → Keeps (Is a)
  is_keeps a st r st' h = subst (R st) (sym h.1) (none st)

  then_keeps : {A B : Type 0} (F : State → Result A Refusal → State → Type 0) (G : A → State → Result B Refusal → State → Type 0) → Keeps F → ((a : A) → Keeps (G a)) → Keeps (Then F G)
  then_keeps F G f g st r st' (on a mid h k) = both st mid st' (f st (Ok a) mid h) (g a mid r st' k)
  then_keeps F G f g st r st' (ended e h q) = f st (Err e) st' h

  number_keeps : (c : Call) → Nameless c → Keeps (λ st r st'. Performed st c (number r) st')
  number_keeps c n st r st' h = subst (R st) (sym h.after) (call st c n)

  done_keeps : (c : Call) → Nameless c → Keeps (λ st r st'. Performed st c (done r) st')
  done_keeps c n st r st' h = subst (R st) (sym h.after) (call st c n)

  pub pairs_keep : (a : ℕ) (bs : List ℕ) → Keeps (Pairs a bs)
  pairs_keep a [] = is_keeps a
  pairs_keep a (b ∷ bs) = then_keeps (Pairs b bs) _ (pairs_keep b bs) (λ n. number_keeps _ tt)

  pub key_keeps : (ds : Known) (k : Key) → Keeps (KeyMade ds k)
  key_keeps ds (named n) = is_keeps _
  key_keeps ds (entry t a) = number_keeps _ tt
  key_keeps ds (mate k) = then_keeps (KeyMade ds k) _ (key_keeps ds k) (λ n. number_keeps _ tt)

  mutual
    pub made_keeps : (ds : Known) (t : Term) → Keeps (Made ds t)
    made_keeps ds (key k) = key_keeps ds k
    made_keeps ds (tuple t ps) = then_keeps (Made ds t) _ (made_keeps ds t) (λ a. then_keeps (AllMade ds ps) _ (all_keep ds ps) (λ bs. pairs_keep a bs))
    made_keeps ds (sealed t k) = then_keeps (Made ds t) _ (made_keeps ds t) (λ a. then_keeps (KeyMade ds k) _ (key_keeps ds k) (λ b. number_keeps _ tt))
    made_keeps ds (digest f t) = then_keeps (Made ds t) _ (made_keeps ds t) (λ a. number_keeps _ tt)

    pub all_keep : (ds : Known) (ps : Parts) → Keeps (AllMade ds ps)
    all_keep ds (final t) = then_keeps (Made ds t) _ (made_keeps ds t) (λ n. is_keeps _)
    all_keep ds (more t ps) = then_keeps (Made ds t) _ (made_keeps ds t) (λ n. then_keeps (AllMade ds ps) _ (all_keep ds ps) (λ ns. is_keeps _))

  pub owns_keep : (ds : Known) (p : List ℕ) (t : Term) → Keeps (Owns ds p t)
  owns_keep ds p t = then_keeps (Made ds t) _ (made_keeps ds t) (λ n. done_keeps _ tt)

  pub sends_keep : (ds : Known) (p q : List ℕ) (t : Term) → Keeps (Sends ds p q t)
  sends_keep ds p q t = then_keeps (Made ds t) _ (made_keeps ds t) (λ n. then_keeps (Steps (agent_in ds p) (agent_in ds q) n) _ (number_keeps _ tt) (λ l. is_keeps tt))
