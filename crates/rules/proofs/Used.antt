-- Which names occur and are used: the tests decide the relations, no rule but initial knowledge uses a name, and whatever an agent
-- was given has only used names.
use Rattle.std.proofs.Common.{◌≡◌, ℕ, zero, suc, Bool, true, false, cond, ◌||◌, eqb, ◌⊎◌, List, [], ◌∷◌, ◌++◌, set, Some, None, Decides, sym, refl, ap, ◌∙◌, subst, inl, inr, arith}
use Rattle.std.proofs.lemmas.Bool.Decides.{Decides-and, Decides-or, Decides-eqb}
use Rattle.deduction.specs.Term.{Kind, party, public, Kind-discrete, Form, pair, sealed, digest, entry, Term, name, built, mate, Occurs}
use Rattle.rules.specs.Script.{Op, GIVEN, FRESH, FROM, TO, RECV, MATE, LEFT, RIGHT, JOIN, SEAL, DIGEST, ENTRY, OPEN, SAME, SEND, Line, Script, line}
use Rattle.deduction.specs.Decide.{decided, same_kind}
use Rattle.rules.specs.Script.{◌then◌, builder}
use Rattle.rules.specs.Compose.{composes}
use Rattle.rules.specs.Saturate.{saturate}
use Rattle.rules.specs.Effects.{knows}
use Rattle.rules.specs.State.{Step, Told, named, formed, mated, known, stepped, asked, refused, nth, occurs, occurs_given, used_in}
use Rattle.rules.specs.State.{used_in_some, used_in_steps}
use Rattle.rules.specs.History.{History, Stands, parties, Opens, NameOf, Used, FreshIn, Gives, Given}
use Rattle.rules.specs.Grows.{Grows, Brings, gives, mates, takes_left, takes_right, opens, Fits, building, bringing, repeating, comparing, sending}
use Rattle.rules.specs.Grows.{Closed}
use Rattle.rules.proofs.Find.{some_none}
use Rattle.rules.proofs.Nth.{some_is}
use Rattle.rules.proofs.Grows.{grows_keeps}
use Rattle.rules.proofs.Saturate.{any_closed, saturate_grows, Nothing}
use Rattle.rules.proofs.Compose.{Any}

-- occurrence

pub kind_decides : (a b : Kind) → Decides (same_kind a b) (a ≡ b)
kind_decides a b = go (Kind-discrete a b)
  where
    go : (d : Dec (a ≡ b)) → Decides (decided d) (a ≡ b)
    go (yes p) = (λ e. p, λ e. refl)
    go (no p) = (λ e. let z : ◌≡◌ {A = ℕ} 0 1 = cc in absurd (omega arith), λ e. absurd (p e))

pub occurs_decides : (k : Kind) (i : ℕ) (t : Term) → Decides (occurs k i t) (Occurs k i t)
occurs_decides k i (name j n) = Decides-and (same_kind k j) (eqb i n) (kind_decides k j) (Decides-eqb i n)
occurs_decides k i (built f a b) = Decides-or (occurs k i a) (occurs k i b) (occurs_decides k i a) (occurs_decides k i b)
occurs_decides k i (mate e) = occurs_decides k i e

-- a name that occurs in a term of a closed set is in it
pub occurs_in : (P : Term → Type 0) → Closed P → (k : Kind) (i : ℕ) (t : Term) → P t → Occurs k i t → P (name k i)
occurs_in P c k i (name j n) p o = subst (λ x. P (name x i)) (sym o.0) (subst (λ x. P (name j x)) (sym o.1) p)
occurs_in P c k i (built f a b) p (inl o) = occurs_in P c k i a (c.firsts f a b p) o
occurs_in P c k i (built f a b) p (inr o) = occurs_in P c k i b (c.seconds f a b p) o
occurs_in P c k i (mate e) p o = occurs_in P c k i e (c.keys e p) o

-- used names

pub used_older : (d : Told) (past : History) (k : Kind) (i : ℕ) → Used past k i → Used (d ∷ past) k i
used_older d past k i (inl e) = inl e
used_older d past k i (inr w) = inr (w.0, inl w.1, w.2)

-- the names of agents are names of parties
pub name_party : (past : History) (p : ℕ) (t : Term) → NameOf past p t → (n : ℕ) × (t ≡ name party n)
name_party [] p t w = absurd w
name_party (d ∷ past) p t (inl w) = name_party past p t w
name_party (d ∷ past) p t (inr w) = go d w
  where
    go : (c : Told) → Opens (parties past) c p t → (n : ℕ) × (t ≡ name party n)
    go (named k m) o = (m, o.2)
    go (formed f a b m) o = absurd o
    go (mated a m) o = absurd o
    go (known q m) o = absurd o
    go (stepped a b m l) o = absurd o
    go (asked q m b) o = absurd o
    go (refused c r) o = absurd o

-- a fresh term has its own name alone
pub fresh_occurs : (past : History) (x t : Term) (k : Kind) (i : ℕ) → FreshIn past x t → Occurs k i t → Occurs k i x
fresh_occurs past x t k i w o = go w.5
  where
    same : (k ≡ w.0) × (i ≡ w.1) → Occurs k i x
    same e = subst (λ j. Occurs j i x) (sym e.0) (subst (λ j. Occurs w.0 j x) (sym e.1) w.3)

    go : (t ≡ name w.0 w.1) ⊎ ((w.0 ≡ public) × (t ≡ mate (name w.0 w.1))) → Occurs k i x
    go (inl e) = same (subst (Occurs k i) e o)
    go (inr e) = same (subst (Occurs k i) e.1 o)

-- what was given has only used names
pub given_used : (past : History) (p : ℕ) (t : Term) (k : Kind) (i : ℕ) → Given past p t → Occurs k i t → Used past k i
given_used [] p t k i w o = absurd w
given_used (d ∷ past) p t k i (inl w) o = used_older d past k i (given_used past p t k i w o)
given_used (d ∷ past) p t k i (inr w) o = go d w
  where
    party_used : (c : Told) (n : ℕ) → t ≡ name party n → Used (c ∷ past) k i
    party_used c n e = let q : (k ≡ party) × (i ≡ n) = subst (Occurs k i) e o in inl q.0

    named_used : (c : Told) (q : ℕ) → NameOf past q t → Used (c ∷ past) k i
    named_used c q n = let x = name_party past q t n in party_used c x.0 x.1

    go : (c : Told) → Gives past c p t → Used (c ∷ past) k i
    go (named j m) g = party_used (named j m) m g.2
    go (formed f a b m) g = absurd g
    go (mated a m) g = absurd g
    go (known q m) g = inr (t, inr g.1, o)
    go (stepped a b m l) (inl g) = pick g.1
      where
        pick : Stands past m t ⊎ NameOf past a t → Used (stepped a b m l ∷ past) k i
        pick (inl s) = inr (t, inr s, o)
        pick (inr n) = named_used (stepped a b m l) a n
    go (stepped a b m l) (inr (inl g)) = inr (g.1.0, inr g.1.1, fresh_occurs past g.1.0 t k i g.1.2 o)
    go (stepped a b m l) (inr (inr g)) = pick g.1
      where
        pick : Stands past m t ⊎ (NameOf past a t ⊎ NameOf past b t) → Used (stepped a b m l ∷ past) k i
        pick (inl s) = inr (t, inr s, o)
        pick (inr (inl n)) = named_used (stepped a b m l) a n
        pick (inr (inr n)) = named_used (stepped a b m l) b n
    go (asked q m b) g = absurd g
    go (refused c r) g = absurd g

-- the test on scripts

-- the instruction is not GIVEN
abbrev pub Quiet : Op → Type 0
Quiet (GIVEN t) = ⊥
Quiet (FRESH t) = Unit {0}
Quiet (FROM t) = Unit {0}
Quiet (TO t) = Unit {0}
Quiet (RECV t) = Unit {0}
Quiet (MATE n) = Unit {0}
Quiet (LEFT n) = Unit {0}
Quiet (RIGHT n) = Unit {0}
Quiet (JOIN n m) = Unit {0}
Quiet (SEAL n m) = Unit {0}
Quiet (DIGEST n m) = Unit {0}
Quiet (ENTRY n m) = Unit {0}
Quiet (OPEN n m) = Unit {0}
Quiet (SAME n m) = Unit {0}
Quiet (SEND n m) = Unit {0}

pub or_false : (a : Bool) → (a || false) ≡ a
or_false true = refl
or_false false = refl

pub or_assoc : (a b c : Bool) → ((a || b) || c) ≡ (a || (b || c))
or_assoc true b c = refl
or_assoc false b c = refl

pub or_swap : (a b c : Bool) → ((a || b) || c) ≡ ((a || c) || b)
or_swap true b c = refl
or_swap false true true = refl
or_swap false true false = refl
or_swap false false true = refl
or_swap false false false = refl

module _ (k : Kind) (i : ℕ) where
  quiet_unused : (op : Op) → Quiet op → occurs_given k i op ≡ false
  quiet_unused (GIVEN t) q = absurd q
  quiet_unused (FRESH t) q = refl
  quiet_unused (FROM t) q = refl
  quiet_unused (TO t) q = refl
  quiet_unused (RECV t) q = refl
  quiet_unused (MATE n) q = refl
  quiet_unused (LEFT n) q = refl
  quiet_unused (RIGHT n) q = refl
  quiet_unused (JOIN n m) q = refl
  quiet_unused (SEAL n m) q = refl
  quiet_unused (DIGEST n m) q = refl
  quiet_unused (ENTRY n m) q = refl
  quiet_unused (OPEN n m) q = refl
  quiet_unused (SAME n m) q = refl
  quiet_unused (SEND n m) q = refl

  used_then : (s : Script) (l : Line) → used_in k i (s then l) ≡ (used_in k i s || occurs_given k i l.op)
  used_then [] l = or_false (occurs_given k i l.op)
  used_then (x ∷ s) l =
      ap (λ z. occurs_given k i x.op || z) (used_then s l) ∙ sym (or_assoc (occurs_given k i x.op) (used_in k i s) (occurs_given k i l.op))

  builder_unused : (f : Form) (n m : ℕ) → occurs_given k i (builder f n m) ≡ false
  builder_unused pair n m = refl
  builder_unused sealed n m = refl
  builder_unused digest n m = refl
  builder_unused entry n m = refl

  module _ (P : Term → Type 0) (G : Op → Term → Type 0) (quiet : (op : Op) (t : Term) → G op t → Quiet op) where
    brings_unused : (s : Script) {op : Op} {t : Term} → Brings G s op t → occurs_given k i op ≡ false
    brings_unused s (gives {op} {t} n g) = quiet_unused op (quiet op t g)
    brings_unused s (mates h g) = refl
    brings_unused s (takes_left h) = refl
    brings_unused s (takes_right h) = refl
    brings_unused s (opens h o) = refl

    fits_unused : (s : Script) (l : Line) → Fits P G s l → occurs_given k i l.op ≡ false
    fits_unused s l (building q) = ap (occurs_given k i) q.op_is ∙ builder_unused q.form q.slot_1 q.slot_2
    fits_unused s l (bringing b n p) = brings_unused s b
    fits_unused s l (repeating b c) = brings_unused s b
    fits_unused s l (comparing b c) = refl
    fits_unused s l (sending b c) = refl

    -- lines without GIVEN use no name
    pub grows_used : {s s1 : Script} → Grows (Fits P G) s s1 → used_in k i s1 ≡ used_in k i s
    grows_used {s} g = grows_keeps (Fits P G) (λ z. used_in k i z ≡ used_in k i s) each g refl
      where
        each : (z : Script) (l : Line) → Fits P G z l → used_in k i z ≡ used_in k i s → used_in k i (z then l) ≡ used_in k i s
        each z l q e = used_then z l ∙ (ap (λ x. used_in k i z || x) (fits_unused z l q) ∙ (or_false (used_in k i z) ∙ e))

  -- initial knowledge that writes something uses its names
  pub knows_used : (s : Script) (t : Term)
      → ((composes s t ≡ true) × (used_in k i (knows s t) ≡ used_in k i s)) ⊎ (used_in k i (knows s t) ≡ (used_in k i s || occurs k i t))
  knows_used s t = go (composes s t) refl
    where
      after : used_in k i (saturate (s then line (GIVEN t) (Some t))) ≡ (used_in k i s || occurs k i t)
      after =
          grows_used Any Nothing (λ op u g. absurd g) (saturate_grows Any any_closed Nothing (s then line (GIVEN t) (Some t)) (λ u h. tt))
          ∙ used_then s (line (GIVEN t) (Some t))

      go : (x : Bool) → composes s t ≡ x
          → ((x ≡ true) × (used_in k i (cond x s (saturate (s then line (GIVEN t) (Some t)))) ≡ used_in k i s))
          ⊎ (used_in k i (cond x s (saturate (s then line (GIVEN t) (Some t)))) ≡ (used_in k i s || occurs k i t))
      go true e = inl (refl, refl)
      go false e = inr after

  -- one script of several is replaced
  pub used_set : (ss : List Script) (p : ℕ) (s s1 : Script) (x : Bool) → nth ss p ≡ Some s → used_in k i s1 ≡ (used_in k i s || x)
      → used_in_some k i (set ss p s1) ≡ (used_in_some k i ss || x)
  used_set [] p s s1 x e q = absurd (some_none None e refl)
  used_set (z ∷ ss) zero s s1 x e q =
      ap (λ y. y || used_in_some k i ss) (q ∙ ap (λ y. used_in k i y || x) (sym (some_is e))) ∙ or_swap (used_in k i z) x (used_in_some k i ss)
  used_set (z ∷ ss) (suc p) s s1 x e q =
      ap (λ y. used_in k i z || y) (used_set ss p s s1 x e q) ∙ sym (or_assoc (used_in k i z) (used_in_some k i ss) x)

  pub used_set_same : (ss : List Script) (p : ℕ) (s s1 : Script) → nth ss p ≡ Some s → used_in k i s1 ≡ used_in k i s
      → used_in_some k i (set ss p s1) ≡ used_in_some k i ss
  used_set_same ss p s s1 e q = used_set ss p s s1 false e (q ∙ sym (or_false (used_in k i s))) ∙ or_false (used_in_some k i ss)

  pub used_more : (ss : List Script) (s : Script) → used_in_some k i (ss ++ (s ∷ [])) ≡ (used_in_some k i ss || used_in k i s)
  used_more [] s = or_false (used_in k i s)
  used_more (z ∷ ss) s = ap (λ y. used_in k i z || y) (used_more ss s) ∙ sym (or_assoc (used_in k i z) (used_in_some k i ss) (used_in k i s))

  pub used_steps_more : (ss : List Step) (s : Step) → used_in_steps k i (ss ++ (s ∷ [])) ≡ (used_in_steps k i ss || occurs k i s.message)
  used_steps_more [] s = or_false (occurs k i s.message)
  used_steps_more (z ∷ ss) s =
      ap (λ y. occurs k i z.message || y) (used_steps_more ss s) ∙ sym (or_assoc (occurs k i z.message) (used_in_steps k i ss) (occurs k i s.message))
