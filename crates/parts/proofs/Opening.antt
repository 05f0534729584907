-- What precedes the first step stays as a script goes on by steps, and is the whole of a script that initial knowledge made.
use Rattle.std.proofs.Common.{◌≡◌, ℕ, zero, suc, ◌+◌, ◌<◌, ◌≤◌, Bool, true, false, cond, eqb, ◌⊎◌, List, [], ◌∷◌, ◌++◌, length, Some, None, Option, sym, refl, ap, ◌∙◌, subst, inl, inr, append_assoc, arith}
use Rattle.std.proofs.lemmas.Bool.{eqb-true, cases_lt}
use Rattle.std.proofs.lemmas.List.{length_push}
use Rattle.deduction.specs.Term.{Form, pair, sealed, digest, entry, Term, name, built, mate, opener}
use Rattle.rules.specs.Script.{Op, GIVEN, FRESH, FROM, TO, RECV, MATE, LEFT, RIGHT, JOIN, SEAL, DIGEST, ENTRY, OPEN, SAME, SEND, Line, Script, line, ◌then◌}
use Rattle.rules.specs.Compose.{Composed, compose, composes}
use Rattle.rules.specs.Saturate.{opened, take_form, take_held, first_of, take_from, Saturates, done, more, saturate}
use Rattle.rules.specs.Effects.{knows, freshens, received}
use Rattle.rules.specs.State.{nth}
use Rattle.rules.specs.Grows.{Begins, Grows}
use Rattle.rules.proofs.Find.{some_none}
use Rattle.rules.proofs.Grows.{grows_begins, grows_one}
use Rattle.rules.proofs.Nth.{some_is, nth_left, nth_right, nth_either}
use Rattle.rules.proofs.Saturate.{saturate_saturates}
use Rattle.parts.specs.Kinds.{Starts, Prepares}
use Rattle.parts.specs.Opening.{built_before, opens, opening}
use Rattle.parts.specs.Parts.{Each}
use Rattle.parts.proofs.Writing.{Writes, wrote_each, starts_built, sender_prepares, received_first, WritesIn, from_writes}

built_within : (b : Bool) (n m : ℕ) → n ≤ m → cond b 0 (n + 1) ≤ suc m
built_within true n m h = omega arith
built_within false n m h = omega arith

pub opens_within : (o : Op) (n m : ℕ) → n ≤ m → opens o n ≤ suc m
opens_within (GIVEN t) n m h = omega arith
opens_within (FRESH t) n m h = omega arith
opens_within (FROM t) n m h = omega arith
opens_within (TO t) n m h = omega arith
opens_within (RECV t) n m h = omega arith
opens_within (MATE i) n m h = omega arith
opens_within (LEFT i) n m h = omega arith
opens_within (RIGHT i) n m h = omega arith
opens_within (JOIN i j) n m h = built_within (eqb n 0) n m h
opens_within (SEAL i j) n m h = built_within (eqb n 0) n m h
opens_within (DIGEST i j) n m h = built_within (eqb n 0) n m h
opens_within (ENTRY i j) n m h = built_within (eqb n 0) n m h
opens_within (OPEN i j) n m h = omega arith
opens_within (SAME i j) n m h = omega arith
opens_within (SEND i j) n m h = omega arith

pub opening_within : (s : Script) → opening s ≤ length s
opening_within [] = omega arith
opening_within (l ∷ s) = opens_within l.op (opening s) (length s) (opening_within s)

-- an instruction of the opening
built_low : (b : Bool) (n k : ℕ) → suc k < cond b 0 (n + 1) → k < n
built_low true n k h = omega arith
built_low false n k h = omega arith

opens_low : (o : Op) (n k : ℕ) → suc k < opens o n → k < n
opens_low (GIVEN t) n k h = omega arith
opens_low (FRESH t) n k h = omega arith
opens_low (FROM t) n k h = omega arith
opens_low (TO t) n k h = omega arith
opens_low (RECV t) n k h = omega arith
opens_low (MATE i) n k h = omega arith
opens_low (LEFT i) n k h = omega arith
opens_low (RIGHT i) n k h = omega arith
opens_low (JOIN i j) n k h = built_low (eqb n 0) n k h
opens_low (SEAL i j) n k h = built_low (eqb n 0) n k h
opens_low (DIGEST i j) n k h = built_low (eqb n 0) n k h
opens_low (ENTRY i j) n k h = built_low (eqb n 0) n k h
opens_low (OPEN i j) n k h = omega arith
opens_low (SAME i j) n k h = omega arith
opens_low (SEND i j) n k h = omega arith

opens_starts : (o : Op) (n : ℕ) → 0 < opens o n → Starts o
opens_starts (GIVEN t) n h = tt
opens_starts (FRESH t) n h = omega arith
opens_starts (FROM t) n h = omega arith
opens_starts (TO t) n h = omega arith
opens_starts (RECV t) n h = omega arith
opens_starts (MATE i) n h = omega arith
opens_starts (LEFT i) n h = tt
opens_starts (RIGHT i) n h = tt
opens_starts (JOIN i j) n h = tt
opens_starts (SEAL i j) n h = tt
opens_starts (DIGEST i j) n h = tt
opens_starts (ENTRY i j) n h = tt
opens_starts (OPEN i j) n h = tt
opens_starts (SAME i j) n h = omega arith
opens_starts (SEND i j) n h = omega arith

starts_at : (s : Script) (k : ℕ) (l : Line) → k < opening s → nth s k ≡ Some l → Starts l.op
starts_at [] k l h e = absurd (some_none None e refl)
starts_at (x ∷ s) zero l h e = subst (λ (z : Line). Starts z.op) (some_is e) (opens_starts x.op (opening s) h)
starts_at (x ∷ s) (suc k) l h e = starts_at s k l (opens_low x.op (opening s) k h) e

pub opening_starts : (s : Script) → Each Starts s 0 (opening s)
opening_starts s k l f h e = starts_at s k l h e

-- what does not open leaves the opening as it is
pub opening_before : (s w : Script) → opening w ≡ 0 → opening (s ++ w) ≡ opening s
opening_before [] w e = e
opening_before (l ∷ s) w e = ap (opens l.op) (opening_before s w e)

-- a sender's part does not open
prepares_opens : (o : Op) → Prepares o → opens o 0 ≡ 0
prepares_opens (GIVEN t) h = absurd h
prepares_opens (FRESH t) h = refl
prepares_opens (FROM t) h = absurd h
prepares_opens (TO t) h = absurd h
prepares_opens (RECV t) h = absurd h
prepares_opens (MATE i) h = refl
prepares_opens (LEFT i) h = absurd h
prepares_opens (RIGHT i) h = absurd h
prepares_opens (JOIN i j) h = refl
prepares_opens (SEAL i j) h = refl
prepares_opens (DIGEST i j) h = refl
prepares_opens (ENTRY i j) h = refl
prepares_opens (OPEN i j) h = absurd h
prepares_opens (SAME i j) h = absurd h
prepares_opens (SEND i j) h = absurd h

sending_opens : (w : Script) (i j : ℕ) → ((k : ℕ) (l : Line) → nth w k ≡ Some l → Prepares l.op) → opening (w then line (SEND i j) None) ≡ 0
sending_opens [] i j h = refl
sending_opens (l ∷ w) i j h = ap (opens l.op) (sending_opens w i j (λ k x e. h (suc k) x e)) ∙ prepares_opens l.op (h 0 l refl)

pub sender_opening : (s : Script) (fresh : List Term) (m : Term) (address : ℕ) (c : Composed) → compose (freshens s fresh) m ≡ Some c
    → opening (c.script then line (SEND c.slot address) None) ≡ opening s
sender_opening s fresh m address c e =
    let g = sender_prepares s fresh m c e in
    let b = grows_begins (Writes Prepares) g in
    let w : Script = b.0 in
    let each : (k : ℕ) (l : Line) → nth w k ≡ Some l → Prepares l.op =
    (λ k l f. wrote_each Prepares g (k + length s) l (omega arith) (subst (λ x. nth x (k + length s) ≡ Some l) (sym b.1) (nth_right s w k (k + length s) refl ∙ f))) in
    ap (λ x. opening (x then line (SEND c.slot address) None)) b.1
    ∙ (ap opening (append_assoc s w (line (SEND c.slot address) None ∷ [])) ∙ opening_before s (w then line (SEND c.slot address) None) (sending_opens w c.slot address each))

-- nor does a receiver's
pub receiver_opening : (s : Script) (who m : Term) → opening (received s who m) ≡ opening s
receiver_opening s who m =
    let w = received_first who m s in
    let l : Line = line (FROM who) w.0 in
    ap opening (w.1.1 ∙ append_assoc s (l ∷ []) w.1.0) ∙ opening_before s (l ∷ w.1.0) refl

-- every instruction is one of those that stand before the first step
abbrev pub AllStart : Script → Type 0
AllStart s = (k : ℕ) (l : Line) → nth s k ≡ Some l → Starts l.op

-- the whole script is its opening
pub record Open (s : Script) : Type 0 where
  pub each : AllStart s
  pub whole : opening s ≡ length s

built_opens : (n : ℕ) → built_before (n + 1) ≡ suc (n + 1)
built_opens n = go (eqb (n + 1) 0) refl
  where
    go : (b : Bool) → eqb (n + 1) 0 ≡ b → cond b 0 ((n + 1) + 1) ≡ suc (n + 1)
    go true e = let z = eqb-true (n + 1) 0 e in absurd (omega arith)
    go false e = omega arith

starts_opens : (o : Op) → Starts o → (n : ℕ) → opens o (n + 1) ≡ suc (n + 1)
starts_opens (GIVEN t) h n = omega arith
starts_opens (FRESH t) h n = absurd h
starts_opens (FROM t) h n = absurd h
starts_opens (TO t) h n = absurd h
starts_opens (RECV t) h n = absurd h
starts_opens (MATE i) h n = absurd h
starts_opens (LEFT i) h n = omega arith
starts_opens (RIGHT i) h n = omega arith
starts_opens (JOIN i j) h n = built_opens n
starts_opens (SEAL i j) h n = built_opens n
starts_opens (DIGEST i j) h n = built_opens n
starts_opens (ENTRY i j) h n = built_opens n
starts_opens (OPEN i j) h n = omega arith
starts_opens (SAME i j) h n = absurd h
starts_opens (SEND i j) h n = absurd h

-- what is given, taken or opened ends an opening
opening_ends : (s : Script) (l : Line) → opens l.op 0 ≡ 1 → AllStart s → opening (s then l) ≡ length s + 1
opening_ends [] l e h = e
opening_ends (x ∷ s) l e h =
    let q : suc (length s + 1) ≡ suc (length s) + 1 = omega arith in
    ap (opens x.op) (opening_ends s l e (λ k y f. h (suc k) y f)) ∙ (starts_opens x.op (h 0 x refl) (length s) ∙ q)

-- a script that ends so is its opening
ended : (s s1 : Script) (l : Line) → s1 ≡ s then l → opens l.op 0 ≡ 1 → AllStart s1 → Open s1
ended s s1 l e h each =
    record {
      each = each;
      whole =
          ap opening e
          ∙ (opening_ends s l h (λ k x f. each k x (subst (λ z. nth z k ≡ Some x) (sym e) (nth_left s (l ∷ []) k x f)))
          ∙ sym (ap length e ∙ length_push s l));
    }

-- taking apart ends so, where it takes something
abbrev Ends : Option Script → Type 0
Ends None = Unit {0}
Ends (Some s1) = (s : Script) × (l : Line) × (s1 ≡ s then l) × (opens l.op 0 ≡ 1)

opened_ends : (n : ℕ) (c : Term) (o : Option Composed) → Ends (opened n c o)
opened_ends n c None = tt
opened_ends n c (Some o) = (o.script, line (OPEN n o.slot) (Some c), refl, refl)

form_ends : (s : Script) (n : ℕ) (f : Form) (a b : Term) → Ends (take_form s n f a b)
form_ends s n pair a b = go (composes s a) (composes s b)
  where
    go : (x y : Bool) → Ends (cond x (cond y None (Some (s then line (RIGHT n) (Some b)))) (Some (s then line (LEFT n) (Some a))))
    go true true = tt
    go true false = (s, line (RIGHT n) (Some b), refl, refl)
    go false y = (s, line (LEFT n) (Some a), refl, refl)
form_ends s n sealed c k = go (composes s c)
  where
    go : (x : Bool) → Ends (cond x None (opened n c (compose s (opener k))))
    go true = tt
    go false = opened_ends n c (compose s (opener k))
form_ends s n digest a b = tt
form_ends s n entry a b = tt

held_ends : (s : Script) (n : ℕ) (h : Option Term) → Ends (take_held s n h)
held_ends s n None = tt
held_ends s n (Some (name k i)) = tt
held_ends s n (Some (built f a b)) = form_ends s n f a b
held_ends s n (Some (mate k)) = tt

first_ends : (o p : Option Script) → Ends o → Ends p → Ends (first_of o p)
first_ends None p h k = k
first_ends (Some s1) p h k = h

from_ends : (s : Script) (n : ℕ) (rest : Script) → Ends (take_from s n rest)
from_ends s n [] = tt
from_ends s n (l ∷ rest) = first_ends (take_held s n l.holds) (take_from s (n + 1) rest) (held_ends s n l.holds) (from_ends s (n + 1) rest)

-- more of the same kind
all_start : (s s1 : Script) → Grows (Writes Starts) s s1 → AllStart s → AllStart s1
all_start s s1 g h k l e = go (cases_lt k (length s))
  where
    b : Begins s s1
    b = grows_begins (Writes Starts) g

    back : (nth s k ≡ Some l) ⊎ ((d : ℕ) × (k ≡ d + length s) × (nth b.0 d ≡ Some l)) → k < length s → Starts l.op
    back (inl x) q = h k l x
    back (inr w) q = let z = w.1 in absurd (omega arith)

    go : (k < length s) ⊎ (length s ≤ k) → Starts l.op
    go (inl q) = back (nth_either s b.0 k l (subst (λ x. nth x k ≡ Some l) b.1 e)) q
    go (inr q) = wrote_each Starts g k l q e

saturates_open : {s s1 : Script} → Saturates s s1 → Open s → Open s1
saturates_open (done e) h = h
saturates_open {s} (more {s1 = x} e w) h =
    let g = subst (WritesIn Starts starts_built (λ i. tt) (λ i. tt) (λ i j. tt) s) e (from_writes Starts starts_built (λ i. tt) (λ i. tt) (λ i j. tt) s 0 s) in
    let q = subst Ends e (from_ends s 0 s) in
    saturates_open w (ended q.0 x q.1 q.2 q.3 (all_start s x g h.each))

-- initial knowledge only lengthens the opening
pub knows_open : (s : Script) (t : Term) → Open s → Open (knows s t)
knows_open s t h = go (composes s t)
  where
    s1 : Script
    s1 = s then line (GIVEN t) (Some t)

    go : (b : Bool) → Open (cond b s (saturate (s then line (GIVEN t) (Some t))))
    go true = h
    go false =
        saturates_open (saturate_saturates s1)
        (ended s s1 (line (GIVEN t) (Some t)) refl refl (all_start s s1 (grows_one (Writes Starts) tt) h.each))

-- a new party's script is its name
pub name_open : (t : Term) → Open (line (GIVEN t) (Some t) ∷ [])
name_open t = ended [] (line (GIVEN t) (Some t) ∷ []) (line (GIVEN t) (Some t)) refl refl each
  where
    each : AllStart (line (GIVEN t) (Some t) ∷ [])
    each zero l e = subst (λ (z : Line). Starts z.op) (some_is e) tt
    each (suc k) l e = absurd (some_none None e refl)
