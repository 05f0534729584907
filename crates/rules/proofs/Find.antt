-- Which slots hold a term, after one more line and in a longer script, and that `find` finds the lowest of them.
use Rattle.std.proofs.Common.{◌≡◌, ℕ, zero, suc, ◌+◌, ◌<◌, ◌≤◌, Bool, true, false, cond, ◌⊎◌, List, [], ◌∷◌, ◌++◌, length, Some, None, Option, sym, refl, ap, ◌∙◌, subst, inl, inr, arith}
use Rattle.deduction.specs.Term.{Term, term_decision, In}
use Rattle.deduction.specs.Decide.{decided}
use Rattle.rules.specs.Script.{Op, Line, Script, line, ◌then◌, is_term, find_from, find, holding, held}
use Rattle.rules.specs.Grows.{Holds}

-- Some is not None
pub some_none : {A : Type 0} {a : A} (o : Option A) → o ≡ Some a → o ≡ None → ⊥
some_none o e f = let z : ◌≡◌ {A = ℕ} 0 1 = cc in omega arith

-- held terms

in_holding : (o : Option Term) (t : Term) (ts : List Term) → In t ts → In t (holding o ts)
in_holding None t ts h = h
in_holding (Some u) t ts h = inr h

pub holds_held : (s : Script) (n : ℕ) (t : Term) → Holds s n t → In t (held s)
holds_held [] n t e = absurd (some_none None e refl)
holds_held (l ∷ s) zero t e = subst (λ o. In t (holding o (held s))) (sym e) (inl refl)
holds_held (l ∷ s) (suc n) t e = in_holding l.holds t (held s) (holds_held s n t e)

pub held_holds : (s : Script) (t : Term) → In t (held s) → (n : ℕ) × Holds s n t
held_holds [] t h = absurd h
held_holds (l ∷ s) t h = go (held_holds s t) l.holds refl h
  where
    go : (In t (held s) → (n : ℕ) × Holds s n t) → (o : Option Term) → l.holds ≡ o → In t (holding o (held s)) → (n : ℕ) × Holds (l ∷ s) n t
    go rest None e i = let w = rest i in (suc w.0, w.1)
    go rest (Some u) e (inl q) = (zero, e ∙ ap Some q)
    go rest (Some u) e (inr i) = let w = rest i in (suc w.0, w.1)

pub holds_below : (s : Script) (n : ℕ) (t : Term) → Holds s n t → n < length s
holds_below [] n t e = absurd (some_none None e refl)
holds_below (l ∷ s) zero t e = omega arith
holds_below (l ∷ s) (suc n) t e = let h : n < length s = holds_below s n t e in omega arith

-- a longer script holds the same in its first slots
pub holds_append : (s more : Script) (n : ℕ) (t : Term) → Holds s n t → Holds (s ++ more) n t
holds_append [] more n t e = absurd (some_none None e refl)
holds_append (l ∷ s) more zero t e = e
holds_append (l ∷ s) more (suc n) t e = holds_append s more n t e

pub holds_last : (s : Script) (op : Op) (t : Term) → Holds (s then line op (Some t)) (length s) t
holds_last [] op t = refl
holds_last (l ∷ s) op t = holds_last s op t

-- one more line: what a slot holds it held before, or it is the last
pub holds_then : (s : Script) (l : Line) (n : ℕ) (t : Term) → Holds (s then l) n t → Holds s n t ⊎ ((n ≡ length s) × (l.holds ≡ Some t))
holds_then [] l zero t e = inr (refl, e)
holds_then [] l (suc n) t e = inl e
holds_then (x ∷ s) l zero t e = inl e
holds_then (x ∷ s) l (suc n) t e = go (holds_then s l n t e)
  where
    go : Holds s n t ⊎ ((n ≡ length s) × (l.holds ≡ Some t)) → Holds s n t ⊎ ((suc n ≡ suc (length s)) × (l.holds ≡ Some t))
    go (inl h) = inl h
    go (inr h) = inr (ap suc h.0, h.1)

pub held_append : (s more : Script) (t : Term) → In t (held s) → In t (held (s ++ more))
held_append s more t h = let w = held_holds s t h in holds_held (s ++ more) w.0 t (holds_append s more w.0 t w.1)

pub held_last : (s : Script) (op : Op) (t : Term) → In t (held (s then line op (Some t)))
held_last s op t = holds_held (s then line op (Some t)) (length s) t (holds_last s op t)

pub held_then : (s : Script) (l : Line) (t : Term) → In t (held (s then l)) → In t (held s) ⊎ (l.holds ≡ Some t)
held_then s l t h = let w = held_holds (s then l) t h in go w.0 (holds_then s l w.0 t w.1)
  where
    go : (n : ℕ) → Holds s n t ⊎ ((n ≡ length s) × (l.holds ≡ Some t)) → In t (held s) ⊎ (l.holds ≡ Some t)
    go n (inl x) = inl (holds_held s n t x)
    go n (inr x) = inr x.1

-- finding

is_term_lem : (t : Term) (o : Option Term) → is_term t o ≡ true → o ≡ Some t
is_term_lem t None e = let z : ◌≡◌ {A = ℕ} 0 1 = cc in absurd (omega arith)
is_term_lem t (Some u) e = go (term_decision u t) e
  where
    go : (d : Dec (u ≡ t)) → decided d ≡ true → Some u ≡ Some t
    go (yes p) q = ap Some p
    go (no p) q = let z : ◌≡◌ {A = ℕ} 0 1 = cc in absurd (omega arith)

pub same_term_is : (t : Term) → decided (term_decision t t) ≡ true
same_term_is t = go (term_decision t t)
  where
    go : (d : Dec (t ≡ t)) → decided d ≡ true
    go (yes p) = refl
    go (no p) = absurd (p refl)

found_from : (s : Script) (n : ℕ) (t : Term) (m : ℕ) → find_from n s t ≡ Some m → (d : ℕ) × (m ≡ n + d) × Holds s d t
found_from [] n t m e = absurd (some_none None e refl)
found_from (l ∷ s) n t m e = go (found_from s (n + 1) t m) (is_term t l.holds) refl e
  where
    go : (find_from (n + 1) s t ≡ Some m → (d : ℕ) × (m ≡ (n + 1) + d) × Holds s d t) → (b : Bool) → is_term t l.holds ≡ b
        → cond b (Some n) (find_from (n + 1) s t) ≡ Some m → (d : ℕ) × (m ≡ n + d) × Holds (l ∷ s) d t
    go rest true q f = let g : n ≡ m = cc in (zero, omega arith, is_term_lem t l.holds q)
    go rest false q f = let w = rest f in let w1 = w.1 in (suc w.0, omega arith, w.2)

held_found : (s : Script) (n : ℕ) (t : Term) → In t (held s) → (m : ℕ) × (find_from n s t ≡ Some m)
held_found [] n t h = absurd h
held_found (l ∷ s) n t h = go (held_found s (n + 1) t) (is_term t l.holds) l.holds refl refl h
  where
    go : (In t (held s) → (m : ℕ) × (find_from (n + 1) s t ≡ Some m)) → (b : Bool) (o : Option Term) → is_term t l.holds ≡ b → l.holds ≡ o
        → In t (holding o (held s)) → (m : ℕ) × (cond b (Some n) (find_from (n + 1) s t) ≡ Some m)
    go rest true o q e i = (n, refl)
    go rest false None q e i = rest i
    go rest false (Some u) q e (inl p) =
        let r : is_term t l.holds ≡ true = ap (is_term t) (e ∙ ap Some p) ∙ same_term_is t in
        let z : ◌≡◌ {A = ℕ} 0 1 = cc in absurd (omega arith)
    go rest false (Some u) q e (inr i) = rest i

found_append : (s more : Script) (n : ℕ) (t : Term) (m : ℕ) → find_from n s t ≡ Some m → find_from n (s ++ more) t ≡ Some m
found_append [] more n t m e = absurd (some_none None e refl)
found_append (l ∷ s) more n t m e = go (found_append s more (n + 1) t m) (is_term t l.holds) e
  where
    go : (find_from (n + 1) s t ≡ Some m → find_from (n + 1) (s ++ more) t ≡ Some m) → (b : Bool) → cond b (Some n) (find_from (n + 1) s t) ≡ Some m
        → cond b (Some n) (find_from (n + 1) (s ++ more) t) ≡ Some m
    go rest true f = f
    go rest false f = rest f

lowest_from : (s : Script) (n : ℕ) (t : Term) (m : ℕ) → find_from n s t ≡ Some m → (j : ℕ) → Holds s j t → m ≤ n + j
lowest_from [] n t m e j h = absurd (some_none None e refl)
lowest_from (l ∷ s) n t m e j h = go (lowest_from s (n + 1) t m) (is_term t l.holds) refl j h e
  where
    go : (find_from (n + 1) s t ≡ Some m → (d : ℕ) → Holds s d t → m ≤ (n + 1) + d) → (b : Bool) → is_term t l.holds ≡ b → (d : ℕ)
        → Holds (l ∷ s) d t
        → cond b (Some n) (find_from (n + 1) s t) ≡ Some m → m ≤ n + d
    go rest true q d x f = let g : n ≡ m = cc in omega arith
    go rest false q (suc d) x f = let r = rest f d x in omega arith
    go rest false q zero x f =
        let r : is_term t l.holds ≡ true = ap (is_term t) x ∙ same_term_is t in
        let z : ◌≡◌ {A = ℕ} 0 1 = cc in absurd (omega arith)

-- the slot found holds the term
pub find_holds : (s : Script) (t : Term) (n : ℕ) → find s t ≡ Some n → Holds s n t
unfolding find
find_holds s t n e = let w = found_from s 0 t n e in let w1 = w.1 in let q : w.0 ≡ n = omega arith in subst (λ m. Holds s m t) q w.2

-- it is the lowest that does
pub find_lowest : (s : Script) (t : Term) (n : ℕ) → find s t ≡ Some n → (j : ℕ) → Holds s j t → n ≤ j
unfolding find
find_lowest s t n e j h = let r = lowest_from s 0 t n e j h in omega arith

-- a held term is found
pub held_find : (s : Script) (t : Term) → In t (held s) → (n : ℕ) × (find s t ≡ Some n)
unfolding find
held_find s t h = held_found s 0 t h

-- a term that is not found is not held
pub unfound_unheld : (s : Script) (t : Term) → find s t ≡ None → In t (held s) → ⊥
unfound_unheld s t e h = let w = held_find s t h in some_none (find s t) w.1 e

-- a term that is found keeps its slot
pub find_append : (s more : Script) (t : Term) (n : ℕ) → find s t ≡ Some n → find (s ++ more) t ≡ Some n
unfolding find
find_append s more t n e = found_append s more 0 t n e
