-- Which kinds of instructions the rules write.
use Rattle.std.proofs.Common.{◌≡◌, ℕ, zero, suc, ◌+◌, ◌≤◌, Bool, true, false, cond, ◌⊎◌, List, [], ◌∷◌, ◌++◌, length, Some, None, Option, sym, refl, ap, ◌∙◌, subst, inl, inr, append_assoc, arith}
use Rattle.deduction.specs.Term.{party, number, shared, public, table, function, Form, pair, sealed, digest, entry, Term, name, built, mate, opener}
use Rattle.rules.specs.Script.{Op, GIVEN, FROM, RECV, LEFT, RIGHT, OPEN, SAME, Line, Script, line, ◌then◌, builder}
use Rattle.rules.specs.Compose.{Composed, compose, composes}
use Rattle.rules.specs.Saturate.{opened, take_form, take_held, first_of, take_from, Saturates, done, more, saturate}
use Rattle.rules.specs.Walk.{walked, unlocked, apart, walk}
use Rattle.rules.specs.Effects.{knows, freshen, freshens, heard_from, received}
use Rattle.rules.specs.State.{nth}
use Rattle.rules.specs.Grows.{Begins, Grows, stays, adds, Builds}
use Rattle.rules.proofs.Find.{some_none}
use Rattle.rules.proofs.Grows.{grows_join, grows_one, grows_map, grows_begins}
use Rattle.rules.proofs.Nth.{some_is, nth_either, nth_below}
use Rattle.rules.proofs.Compose.{Any, any_within, composed_makes}
use Rattle.rules.proofs.Saturate.{saturate_saturates}
use Rattle.parts.specs.Kinds.{Starts, Prepares, Takes}

-- a line of such a kind
abbrev pub Writes : (Op → Type 0) → Script → Line → Type 0
Writes O s l = O l.op

-- the lines by which a script grew are of that kind
pub wrote_each : (O : Op → Type 0) {s s1 : Script} → Grows (Writes O) s s1 → (k : ℕ) (l : Line) → length s ≤ k → nth s1 k ≡ Some l → O l.op
wrote_each O {s} stays k l h e = let b = nth_below s k l e in absurd (omega arith)
wrote_each O {s} (adds {s1 = x} {l = y} g q) k l h e = go (wrote_each O g k l h) (nth_either x (y ∷ []) k l e)
  where
    last : (d : ℕ) → nth (y ∷ []) d ≡ Some l → O l.op
    last zero f = subst (λ z. O z.op) (some_is f) q
    last (suc d) f = absurd (some_none None f refl)

    go : (nth x k ≡ Some l → O l.op) → (nth x k ≡ Some l) ⊎ ((d : ℕ) × (k ≡ d + length x) × (nth (y ∷ []) d ≡ Some l)) → O l.op
    go rest (inl f) = rest f
    go rest (inr w) = last w.0 w.2

-- composing
module _ (O : Op → Type 0) (builds : (f : Form) (i j : ℕ) → O (builder f i j)) where
  pub compose_writes : (s : Script) (t : Term) (c : Composed) → compose s t ≡ Some c → Grows (Writes O) s c.script
  compose_writes s t c e = grows_map (Builds Any) (Writes O) each (composed_makes Any s t (any_within t) c e).grows
    where
      each : (x : Script) (l : Line) → Builds Any x l → O l.op
      each x l q = subst O (sym q.op_is) (builds q.form q.slot_1 q.slot_2)

  -- taking apart
  module _ (lefts : (i : ℕ) → O (LEFT i)) (rights : (i : ℕ) → O (RIGHT i)) (opens : (i j : ℕ) → O (OPEN i j)) where
    -- the same of a script that may not be there
    abbrev pub WritesIn : Script → Option Script → Type 0
    WritesIn s None = Unit {0}
    WritesIn s (Some s1) = Grows (Writes O) s s1

    opened_writes : (s : Script) (n : ℕ) (c k : Term) (o : Option Composed) → compose s (opener k) ≡ o → WritesIn s (opened n c o)
    opened_writes s n c k None e = tt
    opened_writes s n c k (Some o) e = adds (compose_writes s (opener k) o e) (opens n o.slot)

    form_writes : (s : Script) (n : ℕ) (f : Form) (a b : Term) → WritesIn s (take_form s n f a b)
    form_writes s n pair a b = go (composes s a) (composes s b)
      where
        go : (x y : Bool) → WritesIn s (cond x (cond y None (Some (s then line (RIGHT n) (Some b)))) (Some (s then line (LEFT n) (Some a))))
        go true true = tt
        go true false = grows_one (Writes O) (rights n)
        go false y = grows_one (Writes O) (lefts n)
    form_writes s n sealed c k = go (composes s c)
      where
        go : (x : Bool) → WritesIn s (cond x None (opened n c (compose s (opener k))))
        go true = tt
        go false = opened_writes s n c k (compose s (opener k)) refl
    form_writes s n digest a b = tt
    form_writes s n entry a b = tt

    held_writes : (s : Script) (n : ℕ) (h : Option Term) → WritesIn s (take_held s n h)
    held_writes s n None = tt
    held_writes s n (Some (name k i)) = tt
    held_writes s n (Some (built f a b)) = form_writes s n f a b
    held_writes s n (Some (mate k)) = tt

    first_writes : (s : Script) (o p : Option Script) → WritesIn s o → WritesIn s p → WritesIn s (first_of o p)
    first_writes s None p h k = k
    first_writes s (Some s1) p h k = h

    pub from_writes : (s : Script) (n : ℕ) (rest : Script) → WritesIn s (take_from s n rest)
    from_writes s n [] = tt
    from_writes s n (l ∷ rest) = first_writes s (take_held s n l.holds) (take_from s (n + 1) rest) (held_writes s n l.holds) (from_writes s (n + 1) rest)

    saturates_writes : {s s1 : Script} → Saturates s s1 → Grows (Writes O) s s1
    saturates_writes (done e) = stays
    saturates_writes {s} (more e w) = grows_join (Writes O) (subst (WritesIn s) e (from_writes s 0 s)) (saturates_writes w)

    pub saturate_writes : (s : Script) → Grows (Writes O) s (saturate s)
    saturate_writes s = saturates_writes (saturate_saturates s)

    -- walking
    module _ (sames : (i j : ℕ) → O (SAME i j)) where
      pub walked_writes : (s : Script) (op : Op) (t : Term) → O op → (next : Script → Script) → Grows (Writes O) (s then line op (Some t)) (next (s then line op (Some t)))
          → (o : Option Composed) → compose (s then line op None) t ≡ o → Grows (Writes O) s (walked s op t next o)
      walked_writes s op t h next g None e = grows_join (Writes O) (grows_one (Writes O) h) g
      walked_writes s op t h next g (Some c) e =
          adds (grows_join (Writes O) (grows_one (Writes O) h) (compose_writes (s then line op None) t c e)) (sames (length s) c.slot)

      pub walk_writes : (t : Term) (s : Script) (op : Op) → O op → Grows (Writes O) s (walk s op t)
      walk_writes (name k i) s op h = walked_writes s op (name k i) h (λ x. x) stays (compose (s then line op None) (name k i)) refl
      walk_writes (built f a b) s op h =
          walked_writes s op (built f a b) h (apart f (length s) b (λ x o. walk x o a) (λ x o. walk x o b)) (go f (walk_writes a) (walk_writes b))
          (compose (s then line op None) (built f a b)) refl
        where
          unlocks : (s1 : Script) → ((x : Script) (o : Op) → O o → Grows (Writes O) x (walk x o a)) → (o : Option Composed) → compose s1 (opener b) ≡ o
              → Grows (Writes O) s1 (unlocked s1 o (λ x i. walk x (OPEN (length s) i) a))
          unlocks s1 wa None e = stays
          unlocks s1 wa (Some c) e =
              grows_join (Writes O) (compose_writes s1 (opener b) c e) (wa c.script (OPEN (length s) c.slot) (opens (length s) c.slot))

          go : (g : Form) → ((x : Script) (o : Op) → O o → Grows (Writes O) x (walk x o a)) → ((x : Script) (o : Op) → O o → Grows (Writes O) x (walk x o b))
              → Grows (Writes O) (s then line op (Some (built f a b))) (apart g (length s) b (λ x o. walk x o a) (λ x o. walk x o b) (s then line op (Some (built f a b))))
          go pair wa wb =
              let s1 : Script = s then line op (Some (built f a b)) in
              grows_join (Writes O) (wa s1 (LEFT (length s)) (lefts (length s))) (wb (walk s1 (LEFT (length s)) a) (RIGHT (length s)) (rights (length s)))
          go sealed wa wb = unlocks (s then line op (Some (built f a b))) wa (compose (s then line op (Some (built f a b))) (opener b)) refl
          go digest wa wb = stays
          go entry wa wb = stays
      walk_writes (mate k) s op h = walked_writes s op (mate k) h (λ x. x) stays (compose (s then line op None) (mate k)) refl

-- initial knowledge

pub starts_built : (f : Form) (i j : ℕ) → Starts (builder f i j)
starts_built pair i j = tt
starts_built sealed i j = tt
starts_built digest i j = tt
starts_built entry i j = tt

pub knows_starts : (s : Script) (t : Term) → Grows (Writes Starts) s (knows s t)
knows_starts s t = go (composes s t)
  where
    go : (b : Bool) → Grows (Writes Starts) s (cond b s (saturate (s then line (GIVEN t) (Some t))))
    go true = stays
    go false =
        grows_join (Writes Starts) (grows_one (Writes Starts) tt)
        (saturate_writes Starts starts_built (λ i. tt) (λ i. tt) (λ i j. tt) (s then line (GIVEN t) (Some t)))

-- sending

prepares_built : (f : Form) (i j : ℕ) → Prepares (builder f i j)
prepares_built pair i j = tt
prepares_built sealed i j = tt
prepares_built digest i j = tt
prepares_built entry i j = tt

freshen_prepares : (s : Script) (t : Term) → Grows (Writes Prepares) s (freshen s t)
freshen_prepares s (name party i) = grows_one (Writes Prepares) tt
freshen_prepares s (name number i) = grows_one (Writes Prepares) tt
freshen_prepares s (name shared i) = grows_one (Writes Prepares) tt
freshen_prepares s (name public i) = adds (grows_one (Writes Prepares) tt) tt
freshen_prepares s (name table i) = grows_one (Writes Prepares) tt
freshen_prepares s (name function i) = grows_one (Writes Prepares) tt
freshen_prepares s (built f a b) = grows_one (Writes Prepares) tt
freshen_prepares s (mate k) = grows_one (Writes Prepares) tt

freshens_prepares : (s : Script) (ts : List Term) → Grows (Writes Prepares) s (freshens s ts)
freshens_prepares s [] = stays
freshens_prepares s (t ∷ ts) = grows_join (Writes Prepares) (freshen_prepares s t) (freshens_prepares (freshen s t) ts)

-- all before SEND
pub sender_prepares : (s : Script) (fresh : List Term) (m : Term) (c : Composed) → compose (freshens s fresh) m ≡ Some c → Grows (Writes Prepares) s c.script
sender_prepares s fresh m c e = grows_join (Writes Prepares) (freshens_prepares s fresh) (compose_writes Prepares prepares_built (freshens s fresh) m c e)

-- receiving

module _ (who m : Term) where
  abbrev O : Op → Type 0
  O = Takes who m

  takes_built : (f : Form) (i j : ℕ) → Takes who m (builder f i j)
  takes_built pair i j = tt
  takes_built sealed i j = tt
  takes_built digest i j = tt
  takes_built entry i j = tt

  heard_takes : (s : Script) (o : Option Composed) → compose (s then line (FROM who) None) who ≡ o → Grows (Writes O) s (heard_from s who o)
  heard_takes s None e = grows_one (Writes O) refl
  heard_takes s (Some c) e =
      adds (grows_join (Writes O) (grows_one (Writes O) refl) (compose_writes O takes_built (s then line (FROM who) None) who c e)) tt

  pub received_takes : (s : Script) → Grows (Writes (Takes who m)) s (received s who m)
  received_takes s =
      let s1 : Script = heard_from s who (compose (s then line (FROM who) None) who) in
      grows_join (Writes O) (heard_takes s (compose (s then line (FROM who) None) who) refl)
      (grows_join (Writes O) (walk_writes O takes_built (λ i. tt) (λ i. tt) (λ i j. tt) (λ i j. tt) m s1 (RECV m) refl)
      (saturate_writes O takes_built (λ i. tt) (λ i. tt) (λ i j. tt) (walk s1 (RECV m) m)))

  -- FROM comes first
  heard_first : (s : Script) (o : Option Composed) → compose (s then line (FROM who) None) who ≡ o
      → (h : Option Term) × Begins (s then line (FROM who) h) (heard_from s who o)
  heard_first s None e = (Some who, grows_begins (Writes O) stays)
  heard_first s (Some c) e =
      (None, grows_begins (Writes O) (adds (compose_writes O takes_built (s then line (FROM who) None) who c e) tt))

  pub received_first : (s : Script) → (h : Option Term) × Begins (s then line (FROM who) h) (received s who m)
  received_first s =
      let s1 : Script = heard_from s who (compose (s then line (FROM who) None) who) in
      let w = heard_first s (compose (s then line (FROM who) None) who) refl in
      let b = grows_begins (Writes O) (grows_join (Writes O) (walk_writes O takes_built (λ i. tt) (λ i. tt) (λ i j. tt) (λ i j. tt) m s1 (RECV m) refl)
      (saturate_writes O takes_built (λ i. tt) (λ i. tt) (λ i j. tt) (walk s1 (RECV m) m))) in
      (w.0, begins_join (s then line (FROM who) w.0) s1 (received s who m) w.1 b)
    where
      begins_join : (x y z : Script) → Begins x y → Begins y z → Begins x z
      begins_join x y z p q = (p.0 ++ q.0, q.1 ∙ (ap (λ w. w ++ q.0) p.1 ∙ append_assoc x p.0 q.0))
