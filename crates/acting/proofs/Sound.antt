-- Items that ask for the values of their terms put handles that stand for them, or are stopped by Full.
use Rattle.std.proofs.Common.{◌≡◌, ℕ, suc, ◌+◌, ◌<◌, ◌≤◌, false, ◌≢◌, List, [], ◌∷◌, length, get_or, set, is_some, Some, Ok, Err, Result, sym, refl, ap, ◌∙◌, inl, inr, add_assoc, arith, length-set, get_or-set_other, get_or-set_same, below_more, MatchResult}
use mathlib.Core.Bool.{false≢true}
use Rattle.deduction.specs.Term.{Term}
use Rattle.provider.specs.declared.Making.{Making}
use Rattle.provider.specs.declared.ProviderError.{ProviderError}
use Rattle.provider.specs.declared.ProviderError.TheVariants.{Wrong, Full}
use Rattle.provider.specs.Algebra.{Algebra}
use Rattle.provider.specs.Meaning.{Meaning, made, Kept, Answers}
use Rattle.rules.specs.State.{nth}
use Rattle.valuation.specs.Value.{value}
use Rattle.acting.specs.declared.halt.Halt.{Halt}
use Rattle.acting.specs.Acts.{Act, put, make, compare, wrong, Acts, Acting, total}
use Rattle.acting.specs.Standing.{StandsFor, NoRoom}

pub map_cases : {A B : Type 0} (r : Result A B) (P P' : A → Type 0) (Q Q' : B → Type 0) → ((a : A) → P a → P' a) → ((b : B) → Q b → Q' b) → MatchResult r P Q → MatchResult r P' Q'
map_cases (Ok a) P P' Q Q' f g h = f a h
map_cases (Err b) P P' Q Q' f g h = g b h

pub kept_same : {S X : Type 0} (m : S → Meaning X) (s s' : S) → s' ≡ s → Kept (m s).issued (m s').issued
kept_same m s s' e n x h = rw e h

-- what stood for a value goes on standing for it
pub still : {X : Type 0} (f : Algebra X) (is is' : List (ℕ × X)) (h : ℕ) (t : Term) → Kept is is' → StandsFor f is h t → StandsFor f is' h t
still f is is' h t kept w = (w.0, kept h w.0 w.1, w.2)

-- different numbers have different places
abbrev pub Apart : (ℕ → ℕ) → Type 0
Apart place = (j k : ℕ) → j < k → place j ≢ place k

-- what comes of an act is what stands for the term
abbrev pub Sound : {X : Type 0} → Algebra X → List (ℕ × X) → Act → Term → Type 0
Sound f is (put h) t = StandsFor f is h t
Sound {X} f is (make k) t = (x : X) × (made f is k ≡ Some x) × (value f t ≡ Some x)
Sound f is (compare a b) t = StandsFor f is a t × StandsFor f is b t
Sound f is wrong t = ⊥

-- the first n places stand for the values of their terms
abbrev pub Env : {X : Type 0} → Algebra X → List (ℕ × X) → (ℕ → ℕ) → (ℕ → Term) → List ℕ → ℕ → Type 0
Env f is place term hs n = (k : ℕ) → k < n → StandsFor f is (get_or hs (place k) 0) (term k)

module _ {X : Type 0} (f : Algebra X) where
  -- other writes leave an environment as it is
  pub env_kept : (is is' : List (ℕ × X)) (place : ℕ → ℕ) (term : ℕ → Term) (hs hs' : List ℕ) (n : ℕ) → Kept is is' → ((k : ℕ) → k < n → get_or hs' (place k) 0 ≡ get_or hs (place k) 0) → Env f is place term hs n → Env f is' place term hs' n
  env_kept is is' place term hs hs' n kept same env k l = rw (same k l) (still f is is' (get_or hs (place k) 0) (term k) kept (env k l))

  -- one place more
  env_more : (is is' : List (ℕ × X)) (place : ℕ → ℕ) → Apart place → (term : ℕ → Term) (hs : List ℕ) (p h : ℕ) → place p < length hs → Kept is is' → StandsFor f is' h (term p) → Env f is place term hs p → Env f is' place term (set hs (place p) h) (p + 1)
  env_more is is' place far term hs p h l kept w env =
      below_more (λ j. StandsFor f is' (get_or (set hs (place p) h) (place j) 0) (term j)) p
      (env_kept is is' place term hs (set hs (place p) h) p kept (λ j b. get_or-set_other hs (place p) (place j) h 0 (far j p b)) env)
      (rw (get_or-set_same hs (place p) h 0 l) w)

-- whatever n items do from the number p on, handles keep their values, other places keep their handles, and no place is added
pub record Keeps {S X : Type 0} (m : S → Meaning X) (place : ℕ → ℕ) (p n : ℕ) (s : S) (hs : List ℕ) (s' : S) (hs' : List ℕ) : Type 0 where
  pub kept : Kept (m s).issued (m s').issued
  pub outside : (j : ℕ) → ((k : ℕ) → p ≤ k → k < p + n → j ≢ place k) → get_or hs' j 0 ≡ get_or hs j 0
  pub long : length hs' ≡ length hs

module _ {S X : Type 0} (f : Algebra X) (m : S → Meaning X) where
  -- what is refused alters nothing
  act_err : (a : Act) (s s' : S) (e : ProviderError) → Acts f m a s (Err e) s' → s' ≡ s
  act_err (put h) s s' e a = a.1
  act_err (make k) s s' e a = a.answer
  act_err (compare x y) s s' e a = a.1
  act_err wrong s s' e a = a.1

  act_kept : (a : Act) (s s' : S) (h : ℕ) → Acts f m a s (Ok h) s' → Kept (m s).issued (m s').issued
  act_kept (put x) s s' h a = kept_same m s s' a.1
  act_kept (make k) s s' h a = a.kept
  act_kept (compare x y) s s' h a = kept_same m s s' a.1
  act_kept wrong s s' h a = kept_same m s s' a.1

  act_stands : (a : Act) (t : Term) (s s' : S) (h : ℕ) → Sound f (m s).issued a t → Acts f m a s (Ok h) s' → StandsFor f (m s').issued h t
  act_stands (put x) t s s' h w a = let e : h ≡ x = cc in rw (a.1, e) w
  act_stands (make k) t s s' h w a = (w.0, a.answer ∙ w.1, w.2)
  act_stands (compare x y) t s s' h w a = rw (a.1, a.0.0) w.0
  act_stands wrong t s s' h w a = absurd w

  make_full : (k : Making) (x : X) (s s' : S) (e : ProviderError) → made f (m s).issued k ≡ Some x → Answers f m s k (Err e) s' → (e ≡ Full) × ((m s').fits k ≡ false)
  make_full k x s s' Wrong h a = absurd (false≢true (sym a.verdict ∙ ap is_some h))
  make_full k x s s' Full h a = (refl, rw a.answer a.verdict.1)

  -- what asks for a term's value is stopped by Full alone, and then its making does not fit
  act_full : (a : Act) (t : Term) (s s' : S) (e : ProviderError) → Sound f (m s).issued a t → Acts f m a s (Err e) s' → (e ≡ Full) × ((k : Making) × (a ≡ make k) × ((m s').fits k ≡ false))
  act_full (put x) t s s' e w a = let z : ◌≡◌ {A = ℕ} 0 1 = cc in absurd (omega arith)
  act_full (make k) t s s' e w a = let u = make_full k w.0 s s' e w.1 a in (u.0, (k, refl, u.1))
  act_full (compare x y) t s s' e w a =
      let q : Some w.1.0 ≡ Some w.0.0 = sym w.1.2 ∙ w.0.2 in
      absurd (a.0.1 w.0.0 w.0.1 (w.1.1 ∙ q))
  act_full wrong t s s' e w a = absurd w

  module _ {I : Type 0} (act : List ℕ → ℕ → I → Act) (count : I → ℕ) (place : ℕ → ℕ) where
    pub acting_keeps : (is : List I) (p n : ℕ) (s : S) (hs : List ℕ) (r : Result ℕ Halt) (s' : S) (hs' : List ℕ) → Acting f m act count place is p n s hs r s' hs' → Keeps m place p (length is) s hs s' hs'
    acting_keeps [] p n s hs r s' hs' a = rw (a.1, a.2) (record { kept = λ h x e. e; outside = λ j h. refl; long = refl })
    acting_keeps (i ∷ is) p n s hs r s' hs' (inr a) =
        rw a.3 (record { kept = kept_same m s s' (act_err (act hs p i) s s' a.0 a.1); outside = λ j h. refl; long = refl })
    acting_keeps (i ∷ is) p n s hs r s' hs' (inl a) =
        let b = act_kept (act hs p i) s a.1 a.0 a.2 in
        let d = acting_keeps is (p + 1) (n + count i) a.1 (set hs (place p) a.0) r s' hs' a.3 in
        record {
          kept = λ h x e. d.kept h x (b h x e);
          outside = λ j h. d.outside j (λ k u v. h k (omega arith) (omega arith)) ∙ get_or-set_other hs (place p) j a.0 0 (h p (omega arith) (omega arith));
          long = d.long ∙ length-set hs (place p) a.0;
        }

    -- what is answered is what the items count, or the number of one of them
    pub acting_counts : (is : List I) (p n : ℕ) (s : S) (hs : List ℕ) (r : Result ℕ Halt) (s' : S) (hs' : List ℕ) → Acting f m act count place is p n s hs r s' hs'
        → MatchResult r (λ c. c ≡ n + total count is) (λ h. (p ≤ h.at) × (h.at < p + length is))
    acting_counts [] p n s hs r s' hs' a = rw a.0 (omega arith)
    acting_counts (i ∷ is) p n s hs r s' hs' (inr a) = rw a.2 (omega arith, omega arith)
    acting_counts (i ∷ is) p n s hs r s' hs' (inl a) =
        map_cases r (λ c. c ≡ (n + count i) + total count is) (λ c. c ≡ n + (count i + total count is))
        (λ h. (p + 1 ≤ h.at) × (h.at < (p + 1) + length is)) (λ h. (p ≤ h.at) × (h.at < p + suc (length is)))
        (λ c h. h ∙ add_assoc n (count i) (total count is)) (λ h w. (omega (arith, w.0), omega (arith, w.1)))
        (acting_counts is (p + 1) (n + count i) a.1 (set hs (place p) a.0) r s' hs' a.3)

    -- Items of a whole list `all`, from low up to high, where C holds of the state and goes on to hold.
    module _ (far : Apart place) (all : List I) (term : ℕ → Term) (low high : ℕ) (C : S → Type 0) (mono : (s s' : S) → Kept (m s).issued (m s').issued → C s → C s')
        (sound : (s : S) (hs : List ℕ) (k : ℕ) (i : I) → low ≤ k → k < high → nth all k ≡ Some i → C s → Env f (m s).issued place term hs k → Sound f (m s).issued (act hs k i) (term k)) where
      -- all is done, or it is stopped by Full where the named item's making does not fit
      abbrev pub Ends : List I → ℕ → ℕ → Result ℕ Halt → S → List ℕ → Type 0
      Ends is p n r s' hs' =
          MatchResult r
          (λ c. (c ≡ n + total count is) × Env f (m s').issued place term hs' high)
          (λ h. (p ≤ h.at) × (h.at < high) × NoRoom m act all s' hs' h × Env f (m s').issued place term hs' h.at)

      pub acting_stands : (is : List I) (p n : ℕ) (s : S) (hs : List ℕ) (r : Result ℕ Halt) (s' : S) (hs' : List ℕ)
          → low ≤ p → p + length is ≡ high → ((k : ℕ) (i : I) → nth is k ≡ Some i → nth all (p + k) ≡ Some i) → ((k : ℕ) → k < high → place k < length hs)
          → C s → Env f (m s).issued place term hs p → Acting f m act count place is p n s hs r s' hs' → Ends is p n r s' hs'
      acting_stands [] p n s hs r s' hs' lo hi there room ctx env a =
          let z : p ≡ high = omega arith in
          rw (a.0, a.1, a.2) (omega arith, rw z at env)
      acting_stands (i ∷ is) p n s hs r s' hs' lo hi there room ctx env (inr a) =
          let l : p < high = omega arith in
          let z : p + 0 ≡ p = omega arith in
          let q : nth all p ≡ Some i = rw z at (there 0 i refl) in
          let g = sound s hs p i lo l q ctx env in
          let b = act_full (act hs p i) (term p) s s' a.0 g a.1 in
          let e : s' ≡ s = act_err (act hs p i) s s' a.0 a.1 in
          rw (a.2, a.3) (omega arith, l, record { full = b.0; item = i; making = b.1.0; named = q; asked = b.1.1; unfit = b.1.2 }, rw e env)
      acting_stands (i ∷ is) p n s hs r s' hs' lo hi there room ctx env (inl a) =
          let l : p < high = omega arith in
          let z : p + 0 ≡ p = omega arith in
          let q : nth all p ≡ Some i = rw z at (there 0 i refl) in
          let g = sound s hs p i lo l q ctx env in
          let b = act_stands (act hs p i) (term p) s a.1 a.0 g a.2 in
          let kept = act_kept (act hs p i) s a.1 a.0 a.2 in
          let env' = env_more f (m s).issued (m a.1).issued place far term hs p a.0 (room p l) kept b env in
          let there' : (k : ℕ) (j : I) → nth is k ≡ Some j → nth all ((p + 1) + k) ≡ Some j = (λ k j h. let w : p + suc k ≡ (p + 1) + k = omega arith in rw w at (there (suc k) j h)) in
          let long = length-set hs (place p) a.0 in
          let room' : (k : ℕ) → k < high → place k < length (set hs (place p) a.0) = (λ k h. let w = room k h in omega arith) in
          let d = acting_stands is (p + 1) (n + count i) a.1 (set hs (place p) a.0) r s' hs' (omega arith) (omega arith) there' room' (mono s a.1 kept ctx) env' a.3 in
          map_cases r
          (λ c. (c ≡ (n + count i) + total count is) × Env f (m s').issued place term hs' high)
          (λ c. (c ≡ n + (count i + total count is)) × Env f (m s').issued place term hs' high)
          (λ h. (p + 1 ≤ h.at) × (h.at < high) × NoRoom m act all s' hs' h × Env f (m s').issued place term hs' h.at)
          (λ h. (p ≤ h.at) × (h.at < high) × NoRoom m act all s' hs' h × Env f (m s').issued place term hs' h.at)
          (λ c h. (h.0 ∙ add_assoc n (count i) (total count is), h.1))
          (λ h w. (omega (arith, w.0), w.1, w.2, w.3))
          d
