-- What is taken from a term by numbers is what the rules take.
use Rattle.std.proofs.Common.{◌≡◌, ℕ, zero, suc, ◌+◌, ◌<◌, ◌≤◌, Bool, true, false, cond, ◌⊎◌, List, [], ◌∷◌, length, get_or, drop, is_some, Some, None, Option, sym, refl, ap, ◌∙◌, subst, inl, inr, add-one, MatchOption, arith, drop-cons}
use mathlib.Core.Bool.{false≢true}
use lib.Seq.{drop-nil}
use Rattle.deduction.specs.Term.{party, number, shared, public, table, function, Term, name, built, mate, opener, Key, Formed}
use Rattle.terms.specs.declared.node.Form.{Form}
use Rattle.terms.specs.declared.node.Form.TheVariants.{Pair, Sealed, Digest, Entry}
use Rattle.terms.specs.declared.node.TermNode.{TermNode}
use Rattle.terms.specs.declared.node.TermNode.TheVariants.{Name, Built, Mate}
use Rattle.terms.specs.Node.{node_at}
use Rattle.terms.specs.Outcome.{Opens}
use Rattle.terms.specs.Tree.{tree, form_of, Orderly}
use Rattle.terms.proofs.Formed.{formed}
use Rattle.terms.proofs.Trees.{tree_at, parts_lower, inside_lower}
use Rattle.rules.specs.Script.{LEFT, RIGHT, Script as RuleScript, line, ◌then◌, find}
use Rattle.rules.specs.Compose.{Composed, compose, composes, leaf}
use Rattle.rules.specs.Saturate.{opened, take_term, take_held, first_of, take_from, take_apart}
use Rattle.rules.proofs.Find.{find_holds, holds_held}
use Rattle.scripts.specs.declared.instruction.Line.{Line}
use Rattle.scripts.specs.declared.instruction.Taking.{Taking}
use Rattle.scripts.specs.declared.script.Script.{Script}
use Rattle.scripts.specs.Composing.{view, Below, LineBelow, AllNamed, NamesTerms}
use Rattle.scripts.specs.Holding.{no_line}
use Rattle.scripts.specs.Lines.{held_of, script_of}
use Rattle.scripts.specs.View.{written}
use Rattle.scripts.specs.Writing.{Judged, HeldIn, half_taken, ContentTaken, Takes}

abbrev is_none : {A : Type 0} → Option A → Type 0
is_none None = Unit {0}
is_none (Some a) = ⊥

composes_none : (v : RuleScript) (t : Term) → composes v t ≡ false → compose v t ≡ None
composes_none v t e = go (compose v t) e
  where
    go : (o : Option Composed) → is_some o ≡ false → o ≡ None
    go None q = refl
    go (Some c) q = absurd (false≢true (sym q))

composes_some : (v : RuleScript) (t : Term) → composes v t ≡ true → (c : Composed) × (compose v t ≡ Some c)
composes_some v t e = go (compose v t) refl e
  where
    go : (o : Option Composed) → compose v t ≡ o → is_some o ≡ true → (c : Composed) × (compose v t ≡ Some c)
    go None q x = absurd (false≢true x)
    go (Some c) q x = (c, q)

module _ (ts : List TermNode) (ok : Orderly ts) (v : RuleScript) (hin : HeldIn ts v) where
  -- the mate of a key is composed only where it is a term
  mate_none : (k : Term) → ((o : ℕ) → o < length ts → tree ts o ≡ mate k → ⊥) → compose v (mate k) ≡ None
  mate_none k none = go (find v (mate k)) refl
    where
      go : (o : Option ℕ) → find v (mate k) ≡ o → leaf v o ≡ None
      go None e = refl
      go (Some n) e = let w = hin (mate k) (holds_held v n (mate k) (find_holds v (mate k) n e)) in absurd (none w.0 w.1 w.2)

  -- the key inside a mate is a term
  inside : (k : ℕ) (u : Term) → k < length ts → tree ts k ≡ mate u → (a : ℕ) × (a < length ts) × (tree ts a ≡ u)
  inside k u l e = go (node_at ts k) refl
    where
      go : (r : TermNode) → node_at ts k ≡ r → (a : ℕ) × (a < length ts) × (tree ts a ≡ u)
      go (Name g i) q = let x = tree_at ts ok.lower k (Name g i) l q in let z : ◌≡◌ {A = ℕ} 0 1 = cc in absurd (omega arith)
      go (Built g a b) q = let x = tree_at ts ok.lower k (Built g a b) l q in let z : ◌≡◌ {A = ℕ} 0 1 = cc in absurd (omega arith)
      go (Mate a) q =
          let x = tree_at ts ok.lower k (Mate a) l q in
          let m = inside_lower ts ok.lower k a l q in
          let y : tree ts a ≡ u = cc in (a, omega arith, y)

  -- an opener that is no term cannot be composed
  pub unopened : (k : ℕ) → k < length ts → Key (tree ts k) → Opens ts k None → compose v (opener (tree ts k)) ≡ None
  unopened k l key none = go (tree ts k) refl key
    where
      gone : (o : ℕ) → o < length ts → tree ts o ≡ opener (tree ts k) → ⊥
      gone = none l key

      go : (u : Term) → tree ts k ≡ u → Key u → compose v (opener u) ≡ None
      go (name shared i) e y = absurd (gone k l (e ∙ sym (ap opener e)))
      go (name public i) e y = mate_none (name public i) (λ o m q. gone o m (q ∙ sym (ap opener e)))
      go (name party i) e y = absurd y
      go (name number i) e y = absurd y
      go (name table i) e y = absurd y
      go (name function i) e y = absurd y
      go (built f a b) e y = mate_none (built f a b) (λ o m q. gone o m (q ∙ sym (ap opener e)))
      go (mate u) e y = let w = inside k u l e in absurd (gone w.0 w.1 (w.2 ∙ sym (ap opener e)))

  module _ (js : List Bool) (judged : Judged ts v js) (n t : ℕ) (lt : t < length ts) where
    -- nothing is taken from a name or a mate
    pub take_leaf : ((g : Form) (a b : ℕ) → node_at ts t ≡ Built g a b → ⊥) → take_term v n (tree ts t) ≡ None
    take_leaf nb = go (node_at ts t) refl
      where
        go : (r : TermNode) → node_at ts t ≡ r → take_term v n (tree ts t) ≡ None
        go (Name k i) e = ap (take_term v n) (tree_at ts ok.lower t (Name k i) lt e)
        go (Built g a b) e = absurd (nb g a b e)
        go (Mate k) e = ap (take_term v n) (tree_at ts ok.lower t (Mate k) lt e)

    module _ (a b : ℕ) where
      halves : (x y : Bool) → a < length ts → b < length ts
          → Takes ts v (cond x (cond y None (Some (v then line (RIGHT n) (Some (tree ts b))))) (Some (v then line (LEFT n) (Some (tree ts a))))) (half_taken n a b x y)
      halves true true la lb = refl
      halves true false la lb = (refl, lb, (v then line (RIGHT n) (Some (tree ts b)), refl))
      halves false y la lb = (refl, la, (v then line (LEFT n) (Some (tree ts a)), refl))

      pub take_pair : node_at ts t ≡ Built Pair a b → (r : Option Taking) → r ≡ half_taken n a b (get_or js a false) (get_or js b false)
          → Takes ts v (take_term v n (tree ts t)) r
      take_pair e r q =
          let p = parts_lower ts ok.lower t Pair a b lt e in
          let la : a < length ts = omega arith in
          let lb : b < length ts = omega arith in
          rw (tree_at ts ok.lower t (Built Pair a b) lt e, q, judged a la, judged b lb) (halves (composes v (tree ts a)) (composes v (tree ts b)) la lb)

      pub take_other : (g : Form) → (g ≡ Digest) ⊎ (g ≡ Entry) → node_at ts t ≡ Built g a b → take_term v n (tree ts t) ≡ None
      take_other g (inl d) e = ap (take_term v n) (tree_at ts ok.lower t (Built g a b) lt e ∙ ap (λ f. built (form_of f) (tree ts a) (tree ts b)) d)
      take_other g (inr d) e = ap (take_term v n) (tree_at ts ok.lower t (Built g a b) lt e ∙ ap (λ f. built (form_of f) (tree ts a) (tree ts b)) d)

      -- a is the content, b the key
      seals_nothing : (x : Bool) → compose v (opener (tree ts b)) ≡ None → cond x None (opened n (tree ts a) (compose v (opener (tree ts b)))) ≡ None
      seals_nothing true e = refl
      seals_nothing false e = ap (opened n (tree ts a)) e

      pub take_sealed : node_at ts t ≡ Built Sealed a b → (r : Option Taking) → ContentTaken ts js n a b r → Takes ts v (take_term v n (tree ts t)) r
      take_sealed e r c = rw (tree_at ts ok.lower t (Built Sealed a b) lt e) (go r c)
        where
          la : a < length ts
          la = let p = parts_lower ts ok.lower t Sealed a b lt e in omega arith

          lb : b < length ts
          lb = let p = parts_lower ts ok.lower t Sealed a b lt e in omega arith

          key : Key (tree ts b)
          key = let f = subst Formed (tree_at ts ok.lower t (Built Sealed a b) lt e) (formed ts ok t lt) in f.2

          go : (r : Option Taking) → ContentTaken ts js n a b r
              → Takes ts v (cond (composes v (tree ts a)) None (opened n (tree ts a) (compose v (opener (tree ts b))))) r
          go None (inl x) = let y : composes v (tree ts a) ≡ true = sym (judged a la) ∙ x in rw y refl
          go None (inr (inl none)) = seals_nothing (composes v (tree ts a)) (unopened b lb key none)
          go None (inr (inr w)) =
              let y : composes v (tree ts w.0) ≡ false = sym (judged w.0 w.1.2) ∙ w.2 in
              seals_nothing (composes v (tree ts a)) (ap (compose v) (sym w.1.3) ∙ composes_none v (tree ts w.0) y)
          go (Some k) w =
              let x : composes v (tree ts a) ≡ false = sym (judged a la) ∙ w.0 in
              let o = w.1.0 in
              let opens = w.1.1 in
              let y : composes v (tree ts o) ≡ true = sym (judged o opens.2) ∙ w.1.2 in
              let c = composes_some v (tree ts o) y in
              let q : opened n (tree ts a) (compose v (opener (tree ts b))) ≡ opened n (tree ts a) (compose v (tree ts o)) = ap (λ u. opened n (tree ts a) (compose v u)) (sym opens.3) in
              rw (x, w.1.3) (q, (opens.2, la), (_, q ∙ ap (opened n (tree ts a)) c.1))

-- what the rest of a script gives, after a slot that gives nothing or something
known_at : (n : ℕ) (ls : List Line) (i : ℕ) → AllNamed n ls → i < length ls → LineBelow n (get_or ls i no_line)
known_at n [] i k l = absurd (omega arith)
known_at n (x ∷ ls) zero k l = k.0
known_at n (x ∷ ls) (suc i) k l = known_at n ls i k.1 (omega arith)

pub held_below : (n : ℕ) (ls : List Line) (i : ℕ) → AllNamed n ls → i < length ls → Below n (get_or ls i no_line).holds
held_below n ls i k l = (known_at n ls i k l).0

module _ (T : ℕ → Term) (v : RuleScript) (ls : List Line) (i : ℕ) (l : i < length ls) where
  from_here : take_from v i (script_of T (drop i ls)) ≡ first_of (take_held v i (held_of T (get_or ls i no_line).holds)) (take_from v (i + 1) (script_of T (drop (i + 1) ls)))
  from_here = ap (λ r. take_from v i (script_of T r)) (drop_more ls i l)
    where
      drop_more : (ls : List Line) (i : ℕ) → i < length ls → drop i ls ≡ get_or ls i no_line ∷ drop (i + 1) ls
      drop_more ls i l = rw add-one (drop-cons ls i no_line l)

  pub nothing_here : take_held v i (held_of T (get_or ls i no_line).holds) ≡ None → take_from v i (script_of T (drop i ls)) ≡ take_from v (i + 1) (script_of T (drop (i + 1) ls))
  nothing_here e = from_here ∙ ap (λ o. first_of o (take_from v (i + 1) (script_of T (drop (i + 1) ls)))) e

  pub taken_here : (w : RuleScript) → take_held v i (held_of T (get_or ls i no_line).holds) ≡ Some w → take_from v i (script_of T (drop i ls)) ≡ take_held v i (held_of T (get_or ls i no_line).holds)
  taken_here w e = from_here ∙ ap (λ o. first_of o (take_from v (i + 1) (script_of T (drop (i + 1) ls)))) e ∙ sym e

-- one slot of a script
module _ (ts : List TermNode) (s : Script) (k : NamesTerms ts s) (i : ℕ) (l : i < length (written s)) where
  pub line_below : Below (length ts) (get_or (written s) i no_line).holds
  line_below = held_below (length ts) (written s) i k l

  module _ (so_far : take_apart (view ts s) ≡ take_from (view ts s) i (script_of (tree ts) (drop i (written s)))) where
    pub nothing_next : take_held (view ts s) i (held_of (tree ts) (get_or (written s) i no_line).holds) ≡ None
        → take_apart (view ts s) ≡ take_from (view ts s) (i + 1) (script_of (tree ts) (drop (i + 1) (written s)))
    nothing_next e = so_far ∙ nothing_here (tree ts) (view ts s) (written s) i l e

    pub taken_next : (t : Taking) → Takes ts (view ts s) (take_held (view ts s) i (held_of (tree ts) (get_or (written s) i no_line).holds)) (Some t)
        → Takes ts (view ts s) (take_apart (view ts s)) (Some t)
    taken_next t x =
        let e = so_far ∙ taken_here (tree ts) (view ts s) (written s) i l x.2.0 x.2.1 in
        subst (λ o. Takes ts (view ts s) o (Some t)) (sym e) x

drop_all : {A : Type 0} (xs : List A) (i : ℕ) → length xs ≤ i → drop i xs ≡ []
drop_all [] i l = drop-nil i
drop_all (x ∷ xs) zero l = absurd (omega arith)
drop_all (x ∷ xs) (suc i) l = drop_all xs i (omega arith)

-- nothing is left past the last slot
pub nothing_left : (ts : List TermNode) (s : Script) (i : ℕ) → length (written s) ≤ i → take_apart (view ts s) ≡ take_from (view ts s) i (script_of (tree ts) (drop i (written s))) → take_apart (view ts s) ≡ None
nothing_left ts s i l e = e ∙ ap (λ r. take_from (view ts s) i (script_of (tree ts) r)) (drop_all (written s) i l)

-- what the lowest slot gives that gives something is what is taken
pub lowest_taking : (ts : List TermNode) (s : Script) → NamesTerms ts s → (r : Option Taking)
    → MatchOption r
    ((i : ℕ) → i < length (written s) → Below (length ts) (get_or (written s) i no_line).holds → take_held (view ts s) i (held_of (tree ts) (get_or (written s) i no_line).holds) ≡ None)
    (λ t. (i : ℕ) × (i < length (written s))
    × (Below (length ts) (get_or (written s) i no_line).holds → Takes ts (view ts s) (take_held (view ts s) i (held_of (tree ts) (get_or (written s) i no_line).holds)) (Some t))
    × ((j : ℕ) → j < i → Below (length ts) (get_or (written s) j no_line).holds → take_held (view ts s) j (held_of (tree ts) (get_or (written s) j no_line).holds) ≡ None))
    → Takes ts (view ts s) (take_apart (view ts s)) r
lowest_taking ts s k r h = go r h
  where
    Nothing : ℕ → Type 0
    Nothing j = Below (length ts) (get_or (written s) j no_line).holds → take_held (view ts s) j (held_of (tree ts) (get_or (written s) j no_line).holds) ≡ None

    -- where the slots below give nothing, looking goes on from here
    so_far : (i : ℕ) → i ≤ length (written s) → ((j : ℕ) → j < i → Nothing j) → take_apart (view ts s) ≡ take_from (view ts s) i (script_of (tree ts) (drop i (written s)))
    so_far zero l none = refl
    so_far (suc i) l none =
        let li : i < length (written s) = omega arith in
        let e = so_far i (omega arith) (λ j u. none j (omega arith)) in
        rw (← add-one) (nothing_next ts s k i li e (none i (omega arith) (line_below ts s k i li)))

    go : (r : Option Taking)
        → MatchOption r ((i : ℕ) → i < length (written s) → Nothing i)
        (λ t. (i : ℕ) × (i < length (written s))
        × (Below (length ts) (get_or (written s) i no_line).holds → Takes ts (view ts s) (take_held (view ts s) i (held_of (tree ts) (get_or (written s) i no_line).holds)) (Some t))
        × ((j : ℕ) → j < i → Nothing j))
        → Takes ts (view ts s) (take_apart (view ts s)) r
    go None none = nothing_left ts s (length (written s)) (omega arith) (so_far (length (written s)) (omega arith) none)
    go (Some t) (i, l, here, none) = taken_next ts s k i l (so_far i (omega arith) none) t (here (line_below ts s k i l))
