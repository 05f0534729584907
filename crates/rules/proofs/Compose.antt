-- Composing decides what is composable, writes only lines that build, and answers a slot that holds the term; a missing term is a name
-- or a mate that is not held. By recursion on the term.
use Rattle.std.proofs.Common.{◌≡◌, ℕ, ◌+◌, ◌<◌, ◌≤◌, ◌⊎◌, is_some, Some, None, Decides, Option, refl, ap, subst, inl, inr, arith}
use Rattle.deduction.specs.Term.{Form, Term, name, built, mate, In, among}
use Rattle.deduction.specs.Compose.{Composable}
use Rattle.deduction.proofs.Compose.{held_composable}
use Rattle.deduction.proofs.Members.{in_left, in_right}
use Rattle.rules.specs.Script.{Script, line, find, held, builder}
use Rattle.rules.specs.Compose.{Composed, leaf, whole, both, or_both, compose, composes, or_else, unless_found, missing}
use Rattle.rules.specs.Saturate.{parts}
use Rattle.rules.specs.Grows.{Holds, Grows, stays, adds, Builds, Within}
use Rattle.rules.specs.Theorems.{Leaf}
use Rattle.rules.proofs.Find.{find_holds, unfound_unheld, holds_last, held_then, holds_held}
use Rattle.rules.proofs.Grows.{grows_join, grows_holds, grows_composable, builds_composable}

abbrev pub size : Term → ℕ
size (name k i) = 1
size (built f a b) = 1 + (size a + size b)
size (mate k) = 1

-- composed: the script grew by lines that build, the slot holds the term, and what is new is no larger than the term
pub record Makes (P : Term → Type 0) (s : Script) (t : Term) (c : Composed) : Type 0 where
  pub grows : Grows (Builds P) s c.script
  pub holds : Holds c.script c.slot t
  pub smaller : (u : Term) → In u (held c.script) → In u (held s) ⊎ (size u ≤ size t)

-- not composed: the term is not composable
abbrev pub ComposedRight : (Term → Type 0) → Script → Term → Option Composed → Type 0
ComposedRight P s t None = Composable (held s) t → ⊥
ComposedRight P s t (Some c) = Makes P s t c

abbrev found_makes : (P : Term → Type 0) (s : Script) (t : Term) (n : ℕ) → find s t ≡ Some n → Makes P s t (record { slot = n; script = s })
found_makes P s t n e = record { grows = stays; holds = find_holds s t n e; smaller = λ u h. inl h }

-- the whole, after its two parts
module _ (P : Term → Type 0) (s : Script) (f : Form) (a b : Term) (w : P (built f a b)) (unheld : In (built f a b) (held s) → ⊥) where
  abbrev T : Term
  T = built f a b

  whole_right : (x : Composed) → Makes P s a x → (o : Option Composed) → ComposedRight P x.script b o → ComposedRight P s T (whole f T x.slot o)
  whole_right x ma None r = λ m. go m
    where
      go : In T (held s) ⊎ (Composable (held s) a × Composable (held s) b) → ⊥
      go (inl h) = unheld h
      go (inr c) = r (grows_composable (Builds P) ma.grows b c.1)
  whole_right x ma (Some y) mb = record {
    grows = adds (grows_join (Builds P) ma.grows mb.grows) new;
    holds = holds_last y.script (builder f x.slot y.slot) T;
    smaller = λ u h. last u (held_then y.script (line (builder f x.slot y.slot) (Some T)) u h);
  }
    where
      after : (u : Term) → In u (held y.script) → In u (held s) ⊎ (size u < size T)
      after u h = second (mb.smaller u h)
        where
          first : In u (held s) ⊎ (size u ≤ size a) → In u (held s) ⊎ (size u < 1 + (size a + size b))
          first (inl i) = inl i
          first (inr l) = inr (omega arith)

          second : In u (held x.script) ⊎ (size u ≤ size b) → In u (held s) ⊎ (size u < 1 + (size a + size b))
          second (inl i) = first (ma.smaller u i)
          second (inr l) = inr (omega arith)

      fresh : In T (held y.script) → ⊥
      fresh h = go (after T h)
        where
          go : In T (held s) ⊎ (size T < size T) → ⊥
          go (inl i) = unheld i
          go (inr l) = omega arith

      new : Builds P y.script (line (builder f x.slot y.slot) (Some T))
      new = record {
        form = f;
        first = a;
        second = b;
        slot_1 = x.slot;
        slot_2 = y.slot;
        op_is = refl;
        holds_is = refl;
        first_held = grows_holds (Builds P) mb.grows x.slot a ma.holds;
        second_held = mb.holds;
        unheld = fresh;
        within = w;
      }

      last : (u : Term) → In u (held y.script) ⊎ (Some T ≡ Some u) → In u (held s) ⊎ (size u ≤ size T)
      last u (inl h) = go (after u h)
        where
          go : In u (held s) ⊎ (size u < size T) → In u (held s) ⊎ (size u ≤ size T)
          go (inl i) = inl i
          go (inr l) = inr (omega arith)
      last u (inr e) = let q : T ≡ u = cc in inr (omega (arith, ap size q))

  both_right : (o : Option Composed) → ComposedRight P s a o → ((s1 : Script) → ComposedRight P s1 b (compose s1 b))
      → ComposedRight P s T (both f T o (λ s1. compose s1 b))
  both_right None r next = λ m. go m
    where
      go : In T (held s) ⊎ (Composable (held s) a × Composable (held s) b) → ⊥
      go (inl h) = unheld h
      go (inr c) = r c.0
  both_right (Some x) ma next = whole_right x ma (compose x.script b) (next x.script)

pub compose_right : (P : Term → Type 0) (t : Term) → Within P t → (s : Script) → ComposedRight P s t (compose s t)
compose_right P (name k i) w s = go (find s (name k i)) refl
  where
    go : (o : Option ℕ) → find s (name k i) ≡ o → ComposedRight P s (name k i) (leaf s o)
    go None e = λ m. unfound_unheld s (name k i) e m
    go (Some n) e = found_makes P s (name k i) n e
compose_right P (built f a b) w s = go (compose_right P a w.1 s) (compose_right P b w.2) (find s (built f a b)) refl
  where
    go : ComposedRight P s a (compose s a) → ((s1 : Script) → ComposedRight P s1 b (compose s1 b)) → (o : Option ℕ) → find s (built f a b) ≡ o
        → ComposedRight P s (built f a b) (or_both s o (both f (built f a b) (compose s a) (λ s1. compose s1 b)))
    go ra rb None e = both_right P s f a b w.0 (unfound_unheld s (built f a b) e) (compose s a) ra rb
    go ra rb (Some n) e = found_makes P s (built f a b) n e
compose_right P (mate k) w s = go (find s (mate k)) refl
  where
    go : (o : Option ℕ) → find s (mate k) ≡ o → ComposedRight P s (mate k) (leaf s o)
    go None e = λ m. unfound_unheld s (mate k) e m
    go (Some n) e = found_makes P s (mate k) n e

-- composed: what `Makes` says
pub composed_makes : (P : Term → Type 0) (s : Script) (t : Term) → Within P t → (c : Composed) → compose s t ≡ Some c → Makes P s t c
composed_makes P s t w c e = subst (ComposedRight P s t) e (compose_right P t w s)

-- the set of all terms
abbrev pub Any : Term → Type 0
Any t = Unit {0}

pub any_within : (t : Term) → Within Any t
any_within (name k i) = tt
any_within (built f a b) = (tt, any_within a, any_within b)
any_within (mate k) = tt

-- not composed is not composable
pub composed_none : (s : Script) (t : Term) → compose s t ≡ None → Composable (held s) t → ⊥
composed_none s t e = subst (ComposedRight Any s t) e (compose_right Any t (any_within t) s)

-- `composes` decides what is composable
pub composes_decides : (s : Script) (t : Term) → Decides (composes s t) (Composable (held s) t)
composes_decides s t = go (compose s t) refl
  where
    go : (o : Option Composed) → compose s t ≡ o → Decides (is_some o) (Composable (held s) t)
    go None e = (λ q. let z : ◌≡◌ {A = ℕ} 0 1 = cc in absurd (omega arith), λ c. absurd (composed_none s t e c))
    go (Some c) e =
        let m = composed_makes Any s t (any_within t) c e in
        (λ q. builds_composable Any m.grows t (held_composable (among (held c.script)) t (holds_held c.script c.slot t m.holds)), λ q. refl)

-- what a missing term is
abbrev pub MissingRight : Script → Term → Option Term → Type 0
MissingRight s t None = Composable (held s) t
MissingRight s t (Some u) = (Composable (held s) t → ⊥) × Leaf u × (In u (held s) → ⊥) × In u (parts t)

pub missing_right : (s : Script) (t : Term) → MissingRight s t (missing s t)
missing_right s (name k i) = go (find s (name k i)) refl
  where
    go : (o : Option ℕ) → find s (name k i) ≡ o → MissingRight s (name k i) (unless_found o (Some (name k i)))
    go None e = (unfound_unheld s (name k i) e, tt, unfound_unheld s (name k i) e, inl refl)
    go (Some n) e = holds_held s n (name k i) (find_holds s (name k i) n e)
missing_right s (built f a b) = go (find s (built f a b)) refl (missing s a) (missing_right s a) (missing s b) (missing_right s b)
  where
    neither : find s (built f a b) ≡ None → (Composable (held s) a × Composable (held s) b → ⊥) → Composable (held s) (built f a b) → ⊥
    neither e n (inl h) = unfound_unheld s (built f a b) e h
    neither e n (inr c) = n c

    go : (o : Option ℕ) → find s (built f a b) ≡ o → (x : Option Term) → MissingRight s a x → (y : Option Term) → MissingRight s b y
        → MissingRight s (built f a b) (unless_found o (or_else x y))
    go (Some n) e x p y q = inl (holds_held s n (built f a b) (find_holds s (built f a b) n e))
    go None e (Some u) p y q = (neither e (λ c. p.0 c.0), p.1, p.2, inr (in_left u (parts a) (parts b) p.3))
    go None e None p (Some u) q = (neither e (λ c. q.0 c.1), q.1, q.2, inr (in_right u (parts a) (parts b) q.3))
    go None e None p None q = inr (p, q)
missing_right s (mate k) = go (find s (mate k)) refl
  where
    go : (o : Option ℕ) → find s (mate k) ≡ o → MissingRight s (mate k) (unless_found o (Some (mate k)))
    go None e = (unfound_unheld s (mate k) e, tt, unfound_unheld s (mate k) e, inl refl)
    go (Some n) e = holds_held s n (mate k) (find_holds s (mate k) n e)
