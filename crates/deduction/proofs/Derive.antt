-- Derivability is the least set that contains the givens and is closed under the seven ways; what follows from that.
use Rattle.std.proofs.Common.{ℕ, ◌⊎◌, List, [], ◌∷◌, ◌++◌, refl, subst, inl, inr}
use Rattle.deduction.specs.Term.{Kind, Form, pair, sealed, digest, entry, Term, built, opener, PartsFit, Formed, Occurs, In, among}
use Rattle.deduction.specs.Derive.{Way, left_half, right_half, pairing, sealing, opening, digesting, looking_up, Derivation, DerivesFrom}
use Rattle.deduction.specs.Theorems.{WaysKeepDerivable, DerivabilityGrows, DerivabilityIsTransitive, NamesComeFromGivens, DerivableIsFormed}
use Rattle.deduction.proofs.Members.{in_left, in_right}

-- a way from terms of one set is a way from those of a larger one
pub way_map : (E F : Term → Type 0) → ((t : Term) → E t → F t) → {t : Term} → Way E t → Way F t
way_map E F m (left_half {a} {b} d) = left_half {b = b} (m (built pair a b) d)
way_map E F m (right_half {a} {b} d) = right_half {a = a} (m (built pair a b) d)
way_map E F m (pairing {a} {b} d e) = pairing (m a d) (m b e)
way_map E F m (sealing {c} {k} d e n) = sealing (m c d) (m k e) n
way_map E F m (opening {c} {k} d e) = opening {k = k} (m (built sealed c k) d) (m (opener k) e)
way_map E F m (digesting {f} {t} d e n) = digesting (m f d) (m t e) n
way_map E F m (looking_up {t} {p} d e n o) = looking_up (m t d) (m p e) n o

-- the way that builds a two-part term
pub built_way : (E : Term → Type 0) (f : Form) (a b : Term) → PartsFit f a b → E a → E b → Way E (built f a b)
built_way E pair a b n d e = pairing d e
built_way E sealed a b n d e = sealing d e n
built_way E digest a b n d e = digesting d e n
built_way E entry a b n d e = looking_up d e n.0 n.1

-- induction: what contains the givens and is closed under the seven ways contains every member of a derivation
module _ (G P : Term → Type 0) (base : (t : Term) → G t → P t) (step : (t : Term) → Way P t → P t) where
  pub derivation_ind : (ts : List Term) → Derivation G ts → (t : Term) → In t ts → P t
  derivation_ind [] d t h = absurd h
  derivation_ind (x ∷ xs) d t (inr h) = derivation_ind xs d.1 t h
  derivation_ind (x ∷ xs) d t (inl e) = subst P e (go (derivation_ind xs d.1) d.0)
    where
      go : ((s : Term) → In s xs → P s) → G x ⊎ Way (among xs) x → P x
      go below (inl g) = base x g
      go below (inr w) = step x (way_map (among xs) P below w)

  pub derives_ind : (t : Term) → DerivesFrom G t → P t
  derives_ind t d = derivation_ind (t ∷ d.0) d.1 t (inl refl)

-- what is derivable contains the givens and is closed under the seven ways: derivations are put one after the other
module _ (G : Term → Type 0) where
  pub derives_given : (t : Term) → G t → DerivesFrom G t
  derives_given t g = ([], (inl g, tt))

  derivation_both : (xs ys : List Term) → Derivation G xs → Derivation G ys → Derivation G (xs ++ ys)
  derivation_both [] ys d e = e
  derivation_both (x ∷ xs) ys d e = (go d.0, derivation_both xs ys d.1 e)
    where
      go : G x ⊎ Way (among xs) x → G x ⊎ Way (among (xs ++ ys)) x
      go (inl g) = inl g
      go (inr w) = inr (way_map (among xs) (among (xs ++ ys)) (λ s h. in_left s xs ys h) w)

  from_one : (s t : Term) (d : DerivesFrom G s) → Way (among (s ∷ d.0)) t → DerivesFrom G t
  from_one s t d w = (s ∷ d.0, (inr w, d.1))

  from_two : (s u t : Term) → DerivesFrom G s → DerivesFrom G u → ((E : Term → Type 0) → E s → E u → Way E t) → DerivesFrom G t
  from_two s u t d e w =
      let xs : List Term = s ∷ d.0 in
      let ys : List Term = u ∷ e.0 in
      let way : Way (among (xs ++ ys)) t = w (among (xs ++ ys)) (in_left s xs ys (inl refl)) (in_right u xs ys (inl refl)) in
      (xs ++ ys, (inr way, derivation_both xs ys d.1 e.1))

  pub derives_way : {t : Term} → Way (DerivesFrom G) t → DerivesFrom G t
  derives_way (left_half {a} {b} d) = from_one (built pair a b) a d (left_half {b = b} (inl refl))
  derives_way (right_half {a} {b} d) = from_one (built pair a b) b d (right_half {a = a} (inl refl))
  derives_way (pairing {a} {b} d e) = from_two a b (built pair a b) d e (λ E x y. pairing x y)
  derives_way (sealing {c} {k} d e n) = from_two c k (built sealed c k) d e (λ E x y. sealing x y n)
  derives_way (opening {c} {k} d e) = from_two (built sealed c k) (opener k) c d e (λ E x y. opening {k = k} x y)
  derives_way (digesting {f} {t} d e n) = from_two f t (built digest f t) d e (λ E x y. digesting x y n)
  derives_way (looking_up {t} {p} d e n o) = from_two t p (built entry t p) d e (λ E x y. looking_up x y n o)

  pub derives_built : (f : Form) (a b : Term) → PartsFit f a b → DerivesFrom G a → DerivesFrom G b → DerivesFrom G (built f a b)
  derives_built f a b n d e = derives_way (built_way (DerivesFrom G) f a b n d e)

  -- every name of a derivable term is a name of a given
  pub derives_names : (k : Kind) (i : ℕ) (t : Term) → DerivesFrom G t → Occurs k i t → (g : Term) × G g × Occurs k i g
  derives_names k i = derives_ind G P (λ t g o. (t, g, o)) (λ t w. step w)
    where
      P : Term → Type 0
      P t = Occurs k i t → (g : Term) × G g × Occurs k i g

      step : {t : Term} → Way P t → P t
      step (left_half d) o = d (inl o)
      step (right_half d) o = d (inr o)
      step (pairing d e) (inl o) = d o
      step (pairing d e) (inr o) = e o
      step (sealing d e n) (inl o) = d o
      step (sealing d e n) (inr o) = e o
      step (opening d e) o = d (inl o)
      step (digesting d e n) (inl o) = d o
      step (digesting d e n) (inr o) = e o
      step (looking_up d e n m) (inl o) = d o
      step (looking_up d e n m) (inr o) = e o

  -- the seven ways keep terms well-formed
  pub derives_formed : ((t : Term) → G t → Formed t) → (t : Term) → DerivesFrom G t → Formed t
  derives_formed formed = derives_ind G Formed formed (λ t w. step w)
    where
      step : {t : Term} → Way Formed t → Formed t
      step (left_half d) = d.0
      step (right_half d) = d.1
      step (pairing d e) = (d, e, tt)
      step (sealing d e n) = (d, e, n)
      step (opening d e) = d.0
      step (digesting d e n) = (d, e, n)
      step (looking_up d e n m) = (d, e, (n, m))

-- givens that are themselves derivable from others derive nothing more than these
pub derives_cut : (G G' : Term → Type 0) → ((t : Term) → G t → DerivesFrom G' t) → (t : Term) → DerivesFrom G t → DerivesFrom G' t
derives_cut G G' f = derives_ind G (DerivesFrom G') f (λ t w. derives_way G' w)

pub derives_grow : (G G' : Term → Type 0) → ((t : Term) → G t → G' t) → (t : Term) → DerivesFrom G t → DerivesFrom G' t
derives_grow G G' f = derives_cut G G' (λ t g. derives_given G' t (f t g))

-- the same for listed givens
pub ways_keep_derivable_lem : WaysKeepDerivable
ways_keep_derivable_lem givens t w = derives_way (among givens) w

pub derivability_grows_lem : DerivabilityGrows
derivability_grows_lem givens more = derives_grow (among givens) (among more)

pub derivability_is_transitive_lem : DerivabilityIsTransitive
derivability_is_transitive_lem givens others = derives_cut (among givens) (among others)

pub names_come_from_givens_lem : NamesComeFromGivens
names_come_from_givens_lem givens t d k i = derives_names (among givens) k i t d

pub derivable_is_formed_lem : DerivableIsFormed
derivable_is_formed_lem givens = derives_formed (among givens)
