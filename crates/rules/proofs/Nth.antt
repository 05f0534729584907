-- Places of lists, and numbers of terms.
use Rattle.std.proofs.Common.{◌≡◌, ℕ, zero, suc, ◌+◌, ◌<◌, ◌≤◌, Bool, true, false, cond, ◌⊎◌, List, [], ◌∷◌, ◌++◌, length, get_or, set, Some, None, Option, sym, refl, ap, ◌∙◌, subst, inl, inr, arith}
use Rattle.deduction.specs.Term.{Term, term_decision, In}
use Rattle.deduction.specs.Decide.{decided, same_term}
use Rattle.rules.specs.State.{nth, with, name_at, place_from, place_of}
use Rattle.rules.proofs.Find.{some_none, same_term_is}

pub some_is : {A : Type 0} {a b : A} → Some a ≡ Some b → a ≡ b
some_is e = cc

module _ {A : Type 0} where
  pub nth_in : (xs : List A) (n : ℕ) (x : A) → nth xs n ≡ Some x → In x xs
  nth_in [] n x e = some_none None e refl
  nth_in (y ∷ ys) zero x e = inl (some_is e)
  nth_in (y ∷ ys) (suc n) x e = inr (nth_in ys n x e)

  pub in_nth : (xs : List A) (x : A) → In x xs → (n : ℕ) × (nth xs n ≡ Some x)
  in_nth [] x h = absurd h
  in_nth (y ∷ ys) x (inl e) = (zero, ap Some e)
  in_nth (y ∷ ys) x (inr h) = let w = in_nth ys x h in (suc w.0, w.1)

  pub nth_below : (xs : List A) (n : ℕ) (x : A) → nth xs n ≡ Some x → n < length xs
  nth_below [] n x e = absurd (some_none None e refl)
  nth_below (y ∷ ys) zero x e = omega arith
  nth_below (y ∷ ys) (suc n) x e = let h = nth_below ys n x e in omega arith

  -- a place below the length has what get_or reads there, and one past it has nothing
  pub nth_at : (xs : List A) (n : ℕ) (d : A) → n < length xs → nth xs n ≡ Some (get_or xs n d)
  nth_at [] n d l = absurd (omega arith)
  nth_at (y ∷ ys) zero d l = refl
  nth_at (y ∷ ys) (suc n) d l = nth_at ys n d (omega arith)

  pub nth_past : (xs : List A) (n : ℕ) → length xs ≤ n → nth xs n ≡ None
  nth_past [] n l = refl
  nth_past (y ∷ ys) zero l = absurd (omega arith)
  nth_past (y ∷ ys) (suc n) l = nth_past ys n (omega arith)

  pub nth_left : (xs ys : List A) (n : ℕ) (x : A) → nth xs n ≡ Some x → nth (xs ++ ys) n ≡ Some x
  nth_left [] ys n x e = absurd (some_none None e refl)
  nth_left (y ∷ xs) ys zero x e = e
  nth_left (y ∷ xs) ys (suc n) x e = nth_left xs ys n x e

  pub nth_right : (xs ys : List A) (d n : ℕ) → n ≡ d + length xs → nth (xs ++ ys) n ≡ nth ys d
  nth_right [] ys d n e = let q : n ≡ d = omega arith in ap (nth ys) q
  nth_right (y ∷ xs) ys d zero e = absurd (omega arith)
  nth_right (y ∷ xs) ys d (suc n) e = nth_right xs ys d n (omega arith)

  -- a place of two lists put together
  pub nth_either : (xs ys : List A) (n : ℕ) (x : A) → nth (xs ++ ys) n ≡ Some x
      → (nth xs n ≡ Some x) ⊎ ((d : ℕ) × (n ≡ d + length xs) × (nth ys d ≡ Some x))
  nth_either [] ys n x e = inr (n, omega arith, e)
  nth_either (y ∷ xs) ys zero x e = inl e
  nth_either (y ∷ xs) ys (suc n) x e = go (nth_either xs ys n x e)
    where
      go : (nth xs n ≡ Some x) ⊎ ((d : ℕ) × (n ≡ d + length xs) × (nth ys d ≡ Some x))
          → (nth xs n ≡ Some x) ⊎ ((d : ℕ) × (suc n ≡ d + suc (length xs)) × (nth ys d ≡ Some x))
      go (inl h) = inl h
      go (inr w) = let w1 = w.1 in inr (w.0, omega arith, w.2)

  -- a place of a list with another element put at i
  pub nth_set : (xs : List A) (i : ℕ) (y : A) (n : ℕ) (x : A) → nth (set xs i y) n ≡ Some x
      → ((n ≡ i) × (x ≡ y)) ⊎ ((n ≡ i → ⊥) × (nth xs n ≡ Some x))
  nth_set [] i y n x e = absurd (some_none None e refl)
  nth_set (z ∷ xs) zero y zero x e = inl (refl, sym (some_is e))
  nth_set (z ∷ xs) zero y (suc n) x e = inr ((λ q. omega arith), e)
  nth_set (z ∷ xs) (suc i) y zero x e = inr ((λ q. omega arith), e)
  nth_set (z ∷ xs) (suc i) y (suc n) x e = go (nth_set xs i y n x e)
    where
      go : ((n ≡ i) × (x ≡ y)) ⊎ ((n ≡ i → ⊥) × (nth xs n ≡ Some x))
          → ((suc n ≡ suc i) × (x ≡ y)) ⊎ ((suc n ≡ suc i → ⊥) × (nth xs n ≡ Some x))
      go (inl w) = inl (ap suc w.0, w.1)
      go (inr w) = inr ((λ q. w.0 (omega arith)), w.1)

  pub nth_set_other : (xs : List A) (i : ℕ) (y : A) (n : ℕ) (x : A) → (n ≡ i → ⊥) → nth xs n ≡ Some x → nth (set xs i y) n ≡ Some x
  nth_set_other [] i y n x d e = e
  nth_set_other (z ∷ xs) zero y zero x d e = absurd (d refl)
  nth_set_other (z ∷ xs) zero y (suc n) x d e = e
  nth_set_other (z ∷ xs) (suc i) y zero x d e = e
  nth_set_other (z ∷ xs) (suc i) y (suc n) x d e = nth_set_other xs i y n x (λ q. d (ap suc q)) e

  pub nth_set_same : (xs : List A) (i : ℕ) (x y : A) → nth xs i ≡ Some x → nth (set xs i y) i ≡ Some y
  nth_set_same [] i x y e = absurd (some_none None e refl)
  nth_set_same (z ∷ xs) zero x y e = refl
  nth_set_same (z ∷ xs) (suc i) x y e = nth_set_same xs i x y e

  pub nth_first : (xs : List A) (d : A) → 0 < length xs → nth xs 0 ≡ Some (get_or xs 0 d)
  nth_first [] d l = absurd (omega arith)
  nth_first (x ∷ xs) d l = refl

-- both ways of an option
pub with_both : {A B : Type 0} (o : Option A) (b : B) (f : A → B) (P : B → Type 0) → (o ≡ None → P b) → ((a : A) → o ≡ Some a → P (f a))
    → P (with o b f)
with_both None b f P n s = n refl
with_both (Some a) b f P n s = s a refl

-- the number of a term

same_is : (u t : Term) → same_term u t ≡ true → u ≡ t
same_is u t = go (term_decision u t)
  where
    go : (d : Dec (u ≡ t)) → decided d ≡ true → u ≡ t
    go (yes p) e = p
    go (no p) e = let z : ◌≡◌ {A = ℕ} 0 1 = cc in absurd (omega arith)

place_from_lem : (us : List Term) (n : ℕ) (t : Term) (m : ℕ) → place_from n us t ≡ Some m → (d : ℕ) × (m ≡ n + d) × (nth us d ≡ Some t)
place_from_lem [] n t m e = absurd (some_none None e refl)
place_from_lem (u ∷ us) n t m e = go (place_from_lem us (n + 1) t m) (same_term u t) refl e
  where
    go : (place_from (n + 1) us t ≡ Some m → (d : ℕ) × (m ≡ (n + 1) + d) × (nth us d ≡ Some t)) → (b : Bool) → same_term u t ≡ b
        → cond b (Some n) (place_from (n + 1) us t) ≡ Some m → (d : ℕ) × (m ≡ n + d) × (nth (u ∷ us) d ≡ Some t)
    go rest true q f = let g : n ≡ m = cc in (zero, omega arith, ap Some (same_is u t q))
    go rest false q f = let w = rest f in let w1 = w.1 in (suc w.0, omega arith, w.2)

placed_from : (us : List Term) (n : ℕ) (t : Term) → In t us → place_from n us t ≡ None → ⊥
placed_from [] n t h e = h
placed_from (u ∷ us) n t h e = go (placed_from us (n + 1) t) (same_term u t) refl h e
  where
    go : (In t us → place_from (n + 1) us t ≡ None → ⊥) → (b : Bool) → same_term u t ≡ b → In t (u ∷ us)
        → cond b (Some n) (place_from (n + 1) us t) ≡ None → ⊥
    go rest true q h f = some_none (Some n) refl f
    go rest false q (inr h) f = rest h f
    go rest false q (inl p) f =
        let r : same_term u t ≡ true = ap (λ x. same_term x t) p ∙ same_term_is t in
        let z : ◌≡◌ {A = ℕ} 0 1 = cc in omega arith

pub place_is : (us : List Term) (t : Term) (n : ℕ) → place_of us t ≡ Some n → nth us n ≡ Some t
unfolding place_of
place_is us t n e = let w = place_from_lem us 0 t n e in let w1 = w.1 in let q : w.0 ≡ n = omega arith in subst (λ m. nth us m ≡ Some t) q w.2

pub place_none : (us : List Term) (t : Term) → place_of us t ≡ None → In t us → ⊥
unfolding place_of
place_none us t e h = placed_from us 0 t h e

-- the listener has no name
pub name_above : (ts : List Term) (p : ℕ) (t : Term) → name_at ts p ≡ Some t → p ≡ 0 → ⊥
name_above ts p t e q = some_none None (sym (ap (name_at ts) q) ∙ e) refl
