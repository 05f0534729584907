-- Taking apart: nothing is left to take exactly if the held terms are saturated; each step makes one more of the finitely many parts
-- composable, so as many steps as there are parts are enough.
use Rattle.std.proofs.Common.{◌≡◌, ℕ, zero, suc, ◌+◌, ◌<◌, ◌≤◌, Bool, true, false, cond, ◌↔◌, List, [], ◌∷◌, length, Some, None, Option, sym, refl, subst, inl, inr, arith}
use Rattle.std.proofs.lemmas.Bool.Decides.{not_from_Decides}
use Rattle.deduction.specs.Term.{Form, pair, sealed, digest, entry, Term, name, built, mate, opener, In, among}
use Rattle.deduction.specs.Compose.{Composable, Saturated}
use Rattle.deduction.proofs.Compose.{held_composable}
use Rattle.rules.specs.Script.{Op, LEFT, RIGHT, OPEN, Script, line, ◌then◌, holding, held}
use Rattle.rules.specs.Compose.{Composed, compose, composes}
use Rattle.rules.specs.Saturate.{opened, take_term, take_held, first_of, take_from, take_apart, Saturates, done, more, go_on, steps, all_parts, saturate}
use Rattle.rules.specs.Grows.{Holds, Grows, stays, adds, Builds, takes_left, takes_right, opens, Fits, bringing, Closed}
use Rattle.rules.proofs.Find.{some_none, holds_held, held_last}
use Rattle.rules.proofs.Grows.{grows_join, grows_one, grows_holds, grows_composable, builds_composable, builds_fit, grows_within, opener_within}
use Rattle.rules.proofs.Compose.{composed_makes, Any, composed_none, composes_decides}
use Rattle.rules.proofs.Parts.{all_parts_lem, all_closed}

-- nothing is taken from the term
abbrev SettledForm : Script → Form → Term → Term → Type 0
SettledForm s pair a b = Composable (held s) a × Composable (held s) b
SettledForm s sealed c k = Composable (held s) (opener k) → Composable (held s) c
SettledForm s digest a b = Unit {0}
SettledForm s entry a b = Unit {0}

abbrev Settled : Script → Term → Type 0
Settled s (name k i) = Unit {0}
Settled s (built f a b) = SettledForm s f a b
Settled s (mate k) = Unit {0}

pub composes_true : (s : Script) (t : Term) → composes s t ≡ true → Composable (held s) t
composes_true s t = (composes_decides s t).0

pub composes_false : (s : Script) (t : Term) → composes s t ≡ false → Composable (held s) t → ⊥
composes_false s t = not_from_Decides (composes s t) (composes_decides s t)

-- a step: lines that fit, and a term that was not composable and then is held
pub record Took (P : Term → Type 0) (G : Op → Term → Type 0) (s s1 : Script) : Type 0 where
  pub grows : Grows (Fits P G) s s1
  pub term : Term
  pub within : P term
  pub unmade : Composable (held s) term → ⊥
  pub made : In term (held s1)
  pub due : Saturated (held s) → ⊥

module _ (P : Term → Type 0) (c : Closed P) (G : Op → Term → Type 0) (s : Script) where
  -- what a slot that holds t gives
  abbrev Right : Term → Option Script → Type 0
  Right t None = Settled s t
  Right t (Some s1) = Took P G s s1

  takes : (n : ℕ) (a b : Term) → Holds s n (built pair a b) → P (built pair a b) → (x y : Bool) → composes s a ≡ x → composes s b ≡ y
      → Right (built pair a b) (cond x (cond y None (Some (s then line (RIGHT n) (Some b)))) (Some (s then line (LEFT n) (Some a))))
  takes n a b h p true true ea eb = (composes_true s a ea, composes_true s b eb)
  takes n a b h p true false ea eb =
      let un = composes_false s b eb in
      record {
        grows = grows_one (Fits P G) (bringing (takes_right h) (λ i. un (held_composable (among (held s)) b i)) (c.seconds pair a b p));
        term = b;
        within = c.seconds pair a b p;
        unmade = un;
        made = held_last s (RIGHT n) b;
        due = λ y. un (y.rights a b (holds_held s n (built pair a b) h));
      }
  takes n a b h p false y ea eb =
      let un = composes_false s a ea in
      record {
        grows = grows_one (Fits P G) (bringing (takes_left h) (λ i. un (held_composable (among (held s)) a i)) (c.firsts pair a b p));
        term = a;
        within = c.firsts pair a b p;
        unmade = un;
        made = held_last s (LEFT n) a;
        due = λ y. un (y.lefts a b (holds_held s n (built pair a b) h));
      }

  opens_right : (n : ℕ) (t k : Term) → Holds s n (built sealed t k) → P (built sealed t k) → (Composable (held s) t → ⊥)
      → (o : Option Composed) → compose s (opener k) ≡ o → Right (built sealed t k) (opened n t o)
  opens_right n t k h p un None e = λ m. absurd (composed_none s (opener k) e m)
  opens_right n t k h p un (Some o) e =
      let m = composed_makes P s (opener k) (opener_within P c k (c.seconds sealed t k p)) o e in
      record {
        grows = adds (builds_fit P G m.grows)
            (bringing (opens (grows_holds (Builds P) m.grows n (built sealed t k) h) m.holds)
            (λ i. un (builds_composable P m.grows t (held_composable (among (held o.script)) t i))) (c.firsts sealed t k p));
        term = t;
        within = c.firsts sealed t k p;
        unmade = un;
        made = held_last o.script (OPEN n o.slot) t;
        due = λ y. un (y.contents t k (holds_held s n (built sealed t k) h)
            (builds_composable P m.grows (opener k) (held_composable (among (held o.script)) (opener k) (holds_held o.script o.slot (opener k) m.holds))));
      }

  seals : (n : ℕ) (t k : Term) → Holds s n (built sealed t k) → P (built sealed t k) → (x : Bool) → composes s t ≡ x
      → Right (built sealed t k) (cond x None (opened n t (compose s (opener k))))
  seals n t k h p true e = λ o. composes_true s t e
  seals n t k h p false e = opens_right n t k h p (composes_false s t e) (compose s (opener k)) refl

  take_term_lem : (n : ℕ) (t : Term) → Holds s n t → P t → Right t (take_term s n t)
  take_term_lem n (name k i) h p = tt
  take_term_lem n (built pair a b) h p = takes n a b h p (composes s a) (composes s b) refl refl
  take_term_lem n (built sealed a b) h p = seals n a b h p (composes s a) refl
  take_term_lem n (built digest a b) h p = tt
  take_term_lem n (built entry a b) h p = tt
  take_term_lem n (mate k) h p = tt

  module _ (all : (t : Term) → In t (held s) → P t) where
    abbrev FromRight : List Term → Option Script → Type 0
    FromRight ts None = (t : Term) → In t ts → Settled s t
    FromRight ts (Some s1) = Took P G s s1

    first_right : (t : Term) (ts : List Term) (o : Option Script) → Right t o → (r : Option Script) → FromRight ts r
        → FromRight (t ∷ ts) (first_of o r)
    first_right t ts (Some s1) w r v = w
    first_right t ts None w (Some s1) v = v
    first_right t ts None w None v = λ u i. go u i
      where
        go : (u : Term) → In u (t ∷ ts) → Settled s u
        go u (inl e) = subst (Settled s) e w
        go u (inr i) = v u i

    take_from_lem : (rest : Script) (n : ℕ) → ((d : ℕ) (t : Term) → Holds rest d t → Holds s (n + d) t) → FromRight (held rest) (take_from s n rest)
    take_from_lem [] n at = λ t i. absurd i
    take_from_lem (l ∷ rest) n at =
        go (take_from_lem rest (n + 1) (λ d t h. let e : n + suc d ≡ (n + 1) + d = omega arith in subst (λ m. Holds s m t) e (at (suc d) t h))) l.holds refl
      where
        go : FromRight (held rest) (take_from s (n + 1) rest) → (o : Option Term) → l.holds ≡ o
            → FromRight (holding o (held rest)) (first_of (take_held s n o) (take_from s (n + 1) rest))
        go v None e = v
        go v (Some t) e =
            let q : n + zero ≡ n = omega arith in
            let h : Holds s n t = subst (λ m. Holds s m t) q (at zero t e) in
            first_right t (held rest) (take_term s n t) (take_term_lem n t h (all t (holds_held s n t h))) (take_from s (n + 1) rest) v

    take_apart_lem : FromRight (held s) (take_apart s)
    take_apart_lem = take_from_lem s 0 (λ d t h. let e : d ≡ 0 + d = omega arith in subst (λ m. Holds s m t) e h)

    -- a step takes something
    pub took : (s1 : Script) → take_apart s ≡ Some s1 → Took P G s s1
    took s1 e = subst (FromRight (held s)) e take_apart_lem

    settled : take_apart s ≡ None → (t : Term) → In t (held s) → Settled s t
    settled e = subst (FromRight (held s)) e take_apart_lem

pub any_closed : Closed Any
any_closed = record { firsts = λ f a b p. tt; seconds = λ f a b p. tt; keys = λ k p. tt }

-- no instruction brings in a term, or each may
abbrev pub Nothing : Op → Term → Type 0
Nothing op t = ⊥

abbrev pub Free : Op → Term → Type 0
Free op t = Unit {0}

-- no step is left exactly if the held terms are saturated
pub taken_saturated : (s : Script) → take_apart s ≡ None ↔ Saturated (held s)
taken_saturated s = (out, λ y. back y (take_apart s) refl)
  where
    out : take_apart s ≡ None → Saturated (held s)
    out e =
        record {
          lefts = λ a b h. (settled Any any_closed Nothing s (λ t i. tt) e (built pair a b) h).0;
          rights = λ a b h. (settled Any any_closed Nothing s (λ t i. tt) e (built pair a b) h).1;
          contents = λ t k h. settled Any any_closed Nothing s (λ u i. tt) e (built sealed t k) h;
        }

    back : Saturated (held s) → (o : Option Script) → take_apart s ≡ o → take_apart s ≡ None
    back y None e = e
    back y (Some s1) e = absurd ((took Any any_closed Nothing s (λ t i. tt) s1 e).due y)

-- how many of the terms cannot be composed
abbrev lacks : Bool → ℕ
lacks true = 0
lacks false = 1

abbrev lacking : Script → List Term → ℕ
lacking s [] = 0
lacking s (t ∷ ts) = lacks (composes s t) + lacking s ts

lacking_most : (s : Script) (ts : List Term) → lacking s ts ≤ length ts
lacking_most s [] = omega arith
lacking_most s (t ∷ ts) = go (composes s t) (lacking_most s ts)
  where
    go : (b : Bool) → lacking s ts ≤ length ts → lacks b + lacking s ts ≤ suc (length ts)
    go true h = omega arith
    go false h = omega arith

module _ (s s1 : Script) (up : (t : Term) → Composable (held s) t → Composable (held s1) t) where
  lacks_less : (t : Term) → lacks (composes s1 t) ≤ lacks (composes s t)
  lacks_less t = go (composes s t) (composes s1 t) refl refl
    where
      go : (x y : Bool) → composes s t ≡ x → composes s1 t ≡ y → lacks y ≤ lacks x
      go true true a b = omega arith
      go false true a b = omega arith
      go false false a b = omega arith
      go true false a b = absurd (composes_false s1 t b (up t (composes_true s t a)))

  lacking_less : (ts : List Term) → lacking s1 ts ≤ lacking s ts
  lacking_less [] = omega arith
  lacking_less (t ∷ ts) = let h = lacking_less ts in let k = lacks_less t in omega arith

  lacking_lower : (ts : List Term) (u : Term) → In u ts → (Composable (held s) u → ⊥) → Composable (held s1) u → lacking s1 ts < lacking s ts
  lacking_lower [] u i un m = absurd i
  lacking_lower (t ∷ ts) u (inl e) un m = go (composes s t) (composes s1 t) refl refl (lacking_less ts)
    where
      go : (x y : Bool) → composes s t ≡ x → composes s1 t ≡ y → lacking s1 ts ≤ lacking s ts → lacks y + lacking s1 ts < lacks x + lacking s ts
      go true y a b h = absurd (un (subst (Composable (held s)) e (composes_true s t a)))
      go false true a b h = omega arith
      go false false a b h = absurd (composes_false s1 t b (subst (Composable (held s1)) (sym e) m))
  lacking_lower (t ∷ ts) u (inr i) un m = let h = lacking_lower ts u i un m in let k = lacks_less t in omega arith

-- enough steps saturate
module _ (L : List Term) (c : Closed (λ t. In t L)) where
  step : (s : Script) (all : (t : Term) → In t (held s) → In t L) (s1 : Script) → take_apart s ≡ Some s1 → lacking s1 L < lacking s L
  step s all s1 e =
      let w = took (λ t. In t L) c Nothing s all s1 e in
      lacking_lower s s1 (grows_composable (Fits (λ t. In t L) Nothing) w.grows) L w.term w.within w.unmade
      (held_composable (among (held s1)) w.term w.made)

  enough : (n : ℕ) (s : Script) → ((t : Term) → In t (held s) → In t L) → lacking s L ≤ n → Saturates s (steps n s)
  enough zero s all l = done (go (take_apart s) refl)
    where
      go : (o : Option Script) → take_apart s ≡ o → take_apart s ≡ None
      go None e = e
      go (Some s1) e = let h = step s all s1 e in absurd (omega arith)
  enough (suc n) s all l = go (enough n) (take_apart s) refl
    where
      go : ((s1 : Script) → ((t : Term) → In t (held s1) → In t L) → lacking s1 L ≤ n → Saturates s1 (steps n s1))
          → (o : Option Script) → take_apart s ≡ o → Saturates s (go_on (steps n) s o)
      go rest None e = done e
      go rest (Some s1) e =
          let h = step s all s1 e in
          more e (rest s1 (grows_within (λ t. In t L) Nothing (took (λ t. In t L) c Nothing s all s1 e).grows all) (omega arith))

-- saturating goes on until no step is left
pub saturate_saturates : (s : Script) → Saturates s (saturate s)
unfolding saturate
saturate_saturates s =
    let L : List Term = all_parts (held s) in
    enough L (all_closed (held s)) (length L) s (all_parts_lem (held s)) (lacking_most s L)

pub saturates_ends : {s s' : Script} → Saturates s s' → take_apart s' ≡ None
saturates_ends (done e) = e
saturates_ends (more e w) = saturates_ends w

pub saturate_ends : (s : Script) → Saturated (held (saturate s))
saturate_ends s = (taken_saturated (saturate s)).0 (saturates_ends (saturate_saturates s))

-- there is one way to saturate
pub saturates_one : {s x y : Script} → Saturates s x → Saturates s y → x ≡ y
saturates_one (done e) (done f) = refl
saturates_one {s} (done e) (more f w) = absurd (some_none (take_apart s) f e)
saturates_one {s} (more e v) (done f) = absurd (some_none (take_apart s) e f)
saturates_one {s} {x} {y} (more {s1 = a} e v) (more {s1 = b} f w) =
    let q : b ≡ a = cc in saturates_one v (subst (λ z. Saturates z y) q w)

-- saturating writes lines that fit
pub saturates_grows : (P : Term → Type 0) (c : Closed P) (G : Op → Term → Type 0) {s s' : Script} → ((t : Term) → In t (held s) → P t)
    → Saturates s s' → Grows (Fits P G) s s'
saturates_grows P c G all (done e) = stays
saturates_grows P c G {s} all (more {s1 = s1} e w) =
    let g = (took P c G s all s1 e).grows in grows_join (Fits P G) g (saturates_grows P c G (grows_within P G g all) w)

pub saturate_grows : (P : Term → Type 0) (c : Closed P) (G : Op → Term → Type 0) (s : Script) → ((t : Term) → In t (held s) → P t)
    → Grows (Fits P G) s (saturate s)
saturate_grows P c G s all = saturates_grows P c G all (saturate_saturates s)
