-- The calls of a line with a term.
use Rattle.std.proofs.Common.{◌≡◌, ℕ, ◌≤◌, List, Ok, Err, Result, OnOk, sym, refl, subst, arith}
use Rattle.rules.specs.State.{State, KNOW, STEP}
use Rattle.syntax.specs.Grammar.{Term}
use Rattle.protocol.specs.declared.refusal.Refusal.{Refusal}
use Rattle.protocol.specs.Outcome.{Performed, number, done}
use Rattle.table_text.specs.Ahead.{Roomy}
use Rattle.table_text.specs.Calls.{Known, on, ended, Made, Steps, Owns, Sends, agent_in}

pub on_ok : {A B P : Type 0} → (r : Result A B) → P → OnOk r P
on_ok (Ok x) p = p
on_ok (Err e) p = tt

pub roomy_on : (text : List ℕ) (parts : List ℕ) (p q : ℕ) → Roomy text parts p → p ≤ q → Roomy text parts q
roomy_on text parts p q h l = (h.0, let a = h.1 in omega arith)

pub roomy_in : (text text' : List ℕ) (parts : List ℕ) (p q : ℕ) → text' ≡ text → Roomy text parts p → p ≤ q → Roomy text' parts q
roomy_in text text' parts p q e h l = subst (λ z. Roomy z parts q) (sym e) (roomy_on text parts p q h l)

module _ (ds : Known) (t : Term) (st mid : State) where
  pub owns : (p : List ℕ) (a n : ℕ) (r : Result (Unit {0}) Refusal) (st' : State) → a ≡ agent_in ds p → Made ds t st (Ok n) mid → Performed mid (KNOW a n) (done r) st' → Owns ds p t st r st'
  owns p a n r st' e h k = on n mid h (subst (λ z. Performed mid (KNOW z n) (done r) st') e k)

  sends : (p q : List ℕ) (a b n : ℕ) (r : Result ℕ Refusal) (st' : State) → a ≡ agent_in ds p → b ≡ agent_in ds q → Performed mid (STEP a b n) (number r) st' → Steps (agent_in ds p) (agent_in ds q) n mid r st'
  sends p q a b n r st' e f k = subst (λ z. Performed mid (STEP z (agent_in ds q) n) (number r) st') e (subst (λ z. Performed mid (STEP a z n) (number r) st') f k)

  pub sends_granted : (p q : List ℕ) (a b n l : ℕ) (st' : State) → a ≡ agent_in ds p → b ≡ agent_in ds q → Made ds t st (Ok n) mid → Performed mid (STEP a b n) (number (Ok l)) st' → Sends ds p q t st (Ok tt) st'
  sends_granted p q a b n l st' e f h k = on n mid h (on l st' (sends p q a b n (Ok l) st' e f k) (refl, refl))

  pub sends_refused : (p q : List ℕ) (a b n : ℕ) (x : Refusal) (st' : State) → a ≡ agent_in ds p → b ≡ agent_in ds q → Made ds t st (Ok n) mid → Performed mid (STEP a b n) (number (Err x)) st' → Sends ds p q t st (Err x) st'
  sends_refused p q a b n x st' e f h k = on n mid h (ended x (sends p q a b n (Err x) st' e f k) refl)
