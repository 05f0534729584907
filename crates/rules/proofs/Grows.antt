-- What follows of a script that grew by lines that fit: it begins with the earlier one, holds no term twice if that did not, and holds
-- only what is derivable from what that held and what was given.
use Rattle.std.proofs.Common.{◌≡◌, ℕ, ◌⊎◌, [], ◌∷◌, ◌++◌, length, Some, None, sym, refl, ap, ◌∙◌, subst, inl, inr, append_assoc}
use Rattle.std.proofs.lemmas.List.{append-nil}
use Rattle.deduction.specs.Term.{party, number, shared, public, table, function, Form, pair, sealed, Term, name, built, mate, opener, Formed, In}
use Rattle.deduction.specs.Term.{among}
use Rattle.deduction.specs.Derive.{DerivesFrom, left_half, right_half, opening}
use Rattle.deduction.specs.Compose.{ComposableFrom, Composable, Saturated}
use Rattle.deduction.proofs.Derive.{derives_way, derives_built}
use Rattle.deduction.proofs.Compose.{held_composable, composable_map}
use Rattle.rules.specs.Script.{Op, MATE, Line, Script, ◌then◌, held}
use Rattle.rules.specs.Grows.{Holds, Begins, Apart, Grows, stays, adds, Builds, Brings, gives, mates, takes_left, takes_right, opens, Fits, building}
use Rattle.rules.specs.Grows.{bringing, repeating, comparing, sending, Closed, Within}
use Rattle.rules.proofs.Find.{some_none, holds_held, holds_append, holds_then, held_append, held_then}

module _ (Q : Script → Line → Type 0) where
  pub grows_join : {s s1 s2 : Script} → Grows Q s s1 → Grows Q s1 s2 → Grows Q s s2
  grows_join g stays = g
  grows_join g (adds h q) = adds (grows_join g h) q

  pub grows_one : {s : Script} {l : Line} → Q s l → Grows Q s (s then l)
  grows_one q = adds stays q

  -- the script begins with the earlier one
  pub grows_begins : {s s1 : Script} → Grows Q s s1 → Begins s s1
  grows_begins {s} stays = ([], sym (append-nil s))
  grows_begins {s} (adds {l = l} g q) =
      let w = grows_begins g in (w.0 ++ (l ∷ []), ap (λ x. x ++ (l ∷ [])) w.1 ∙ append_assoc s w.0 (l ∷ []))

  pub grows_holds : {s s1 : Script} → Grows Q s s1 → (n : ℕ) (t : Term) → Holds s n t → Holds s1 n t
  grows_holds {s} g n t h = let w = grows_begins g in subst (λ x. Holds x n t) (sym w.1) (holds_append s w.0 n t h)

  pub grows_held : {s s1 : Script} → Grows Q s s1 → (t : Term) → In t (held s) → In t (held s1)
  grows_held {s} g t h = let w = grows_begins g in subst (λ x. In t (held x)) (sym w.1) (held_append s w.0 t h)

  pub grows_composable : {s s1 : Script} → Grows Q s s1 → (t : Term) → Composable (held s) t → Composable (held s1) t
  grows_composable {s} {s1} g = composable_map (among (held s)) (among (held s1)) (grows_held g)

  -- what each line keeps, the whole keeps
  pub grows_keeps : (K : Script → Type 0) → ((s : Script) (l : Line) → Q s l → K s → K (s then l)) → {s s1 : Script} → Grows Q s s1 → K s → K s1
  grows_keeps K each stays k = k
  grows_keeps K each (adds {s1 = s1} {l = l} g q) k = each s1 l q (grows_keeps K each g k)

pub grows_map : (Q R : Script → Line → Type 0) → ((s : Script) (l : Line) → Q s l → R s l) → {s s1 : Script} → Grows Q s s1 → Grows R s s1
grows_map Q R m stays = stays
grows_map Q R m (adds {s1 = s1} {l = l} g q) = adds (grows_map Q R m g) (m s1 l q)

-- what is composable from composable terms is composable
pub composable_bind : (H H' : Term → Type 0) → ((t : Term) → H t → ComposableFrom H' t) → (t : Term) → ComposableFrom H t → ComposableFrom H' t
composable_bind H H' m (name k i) h = m (name k i) h
composable_bind H H' m (built f a b) (inl h) = m (built f a b) h
composable_bind H H' m (built f a b) (inr c) = inr (composable_bind H H' m a c.0, composable_bind H H' m b c.1)
composable_bind H H' m (mate k) h = m (mate k) h

pub holds_composable : (s : Script) (n : ℕ) (t : Term) → Holds s n t → Composable (held s) t
holds_composable s n t h = held_composable (among (held s)) t (holds_held s n t h)

-- one line that builds
module _ (P : Term → Type 0) (s : Script) (l : Line) (q : Builds P s l) where
  builds_made : (t : Term) → l.holds ≡ Some t → Composable (held s) t
  builds_made t e =
      let f : built q.form q.first q.second ≡ t = (let h = q.holds_is in cc) in
      subst (Composable (held s)) f (inr (holds_composable s q.slot_1 q.first q.first_held, holds_composable s q.slot_2 q.second q.second_held))

  builds_back : (t : Term) → In t (held (s then l)) → Composable (held s) t
  builds_back t h = go (held_then s l t h)
    where
      go : In t (held s) ⊎ (l.holds ≡ Some t) → Composable (held s) t
      go (inl x) = held_composable (among (held s)) t x
      go (inr e) = builds_made t e

  old : (t : Term) → Composable (held s) t → Composable (held (s then l)) t
  old = composable_map (among (held s)) (among (held (s then l))) (λ t h. held_append s (l ∷ []) t h)

  back : (t : Term) → Composable (held (s then l)) t → Composable (held s) t
  back = composable_bind (among (held (s then l))) (among (held s)) builds_back

  -- a built term leaves held terms saturated
  builds_saturated : Saturated (held s) → Saturated (held (s then l))
  builds_saturated y = record { lefts = lefts; rights = rights; contents = contents }
    where
      two : (f : Form) (a b : Term) → l.holds ≡ Some (built f a b) → Composable (held s) a × Composable (held s) b
      two f a b e =
          let h = q.holds_is in
          let fa : q.first ≡ a = cc in
          let fb : q.second ≡ b = cc in (
            subst (Composable (held s)) fa (holds_composable s q.slot_1 q.first q.first_held),
            subst (Composable (held s)) fb (holds_composable s q.slot_2 q.second q.second_held),
          )

      lefts : (a b : Term) → In (built pair a b) (held (s then l)) → Composable (held (s then l)) a
      lefts a b h = go (held_then s l (built pair a b) h)
        where
          go : In (built pair a b) (held s) ⊎ (l.holds ≡ Some (built pair a b)) → Composable (held (s then l)) a
          go (inl x) = old a (y.lefts a b x)
          go (inr e) = old a (two pair a b e).0

      rights : (a b : Term) → In (built pair a b) (held (s then l)) → Composable (held (s then l)) b
      rights a b h = go (held_then s l (built pair a b) h)
        where
          go : In (built pair a b) (held s) ⊎ (l.holds ≡ Some (built pair a b)) → Composable (held (s then l)) b
          go (inl x) = old b (y.rights a b x)
          go (inr e) = old b (two pair a b e).1

      contents : (c k : Term) → In (built sealed c k) (held (s then l)) → Composable (held (s then l)) (opener k) → Composable (held (s then l)) c
      contents c k h o = go (held_then s l (built sealed c k) h)
        where
          go : In (built sealed c k) (held s) ⊎ (l.holds ≡ Some (built sealed c k)) → Composable (held (s then l)) c
          go (inl x) = old c (y.contents c k x (back (opener k) o))
          go (inr e) = old c (two sealed c k e).0

-- composing adds nothing to what is composable, and leaves held terms saturated
module _ (P : Term → Type 0) where
  pub builds_composable : {s s1 : Script} → Grows (Builds P) s s1 → (t : Term) → Composable (held s1) t → Composable (held s) t
  builds_composable stays t c = c
  builds_composable (adds {s1 = s1} {l = l} g q) t c = builds_composable g t (back P s1 l q t c)

  pub builds_keep_saturated : {s s1 : Script} → Grows (Builds P) s s1 → Saturated (held s) → Saturated (held s1)
  builds_keep_saturated = grows_keeps (Builds P) (λ s. Saturated (held s)) (builds_saturated P)

  pub builds_fit : (G : Op → Term → Type 0) {s s1 : Script} → Grows (Builds P) s s1 → Grows (Fits P G) s s1
  builds_fit G = grows_map (Builds P) (Fits P G) (λ s l q. building q)

-- what a fitting line holds
module _ (P : Term → Type 0) (G : Op → Term → Type 0) where
  fits_new : (s : Script) (l : Line) → Fits P G s l → (t : Term) → l.holds ≡ Some t → In t (held s) → ⊥
  fits_new s l (building q) t e h =
      let i = q.holds_is in let f : t ≡ built q.form q.first q.second = cc in q.unheld (subst (λ x. In x (held s)) f h)
  fits_new s l (bringing {t = u} b n p) t e h = let f : t ≡ u = cc in n (subst (λ x. In x (held s)) f h)
  fits_new s l (repeating b c) t e h = some_none None e refl
  fits_new s l (comparing b c) t e h = some_none None e refl
  fits_new s l (sending b c) t e h = some_none None e refl

  fits_within : (s : Script) (l : Line) → Fits P G s l → (t : Term) → l.holds ≡ Some t → P t
  fits_within s l (building q) t e = let i = q.holds_is in let f : built q.form q.first q.second ≡ t = cc in subst P f q.within
  fits_within s l (bringing {t = u} b n p) t e = let f : u ≡ t = cc in subst P f p
  fits_within s l (repeating b c) t e = absurd (some_none None e refl)
  fits_within s l (comparing b c) t e = absurd (some_none None e refl)
  fits_within s l (sending b c) t e = absurd (some_none None e refl)

  -- no term is held by two slots
  fits_apart : (s : Script) (l : Line) → Fits P G s l → Apart s → Apart (s then l)
  fits_apart s l q a i j t x y = go (holds_then s l i t x) (holds_then s l j t y)
    where
      go : Holds s i t ⊎ ((i ≡ length s) × (l.holds ≡ Some t)) → Holds s j t ⊎ ((j ≡ length s) × (l.holds ≡ Some t)) → i ≡ j
      go (inl u) (inl v) = a i j t u v
      go (inl u) (inr v) = absurd (fits_new s l q t v.1 (holds_held s i t u))
      go (inr u) (inl v) = absurd (fits_new s l q t u.1 (holds_held s j t v))
      go (inr u) (inr v) = u.0 ∙ sym v.0

  pub grows_apart : {s s1 : Script} → Grows (Fits P G) s s1 → Apart s → Apart s1
  grows_apart = grows_keeps (Fits P G) Apart fits_apart

  -- what holds of all held terms holds of the new ones
  pub grows_within : {s s1 : Script} → Grows (Fits P G) s s1 → ((t : Term) → In t (held s) → P t) → (t : Term) → In t (held s1) → P t
  grows_within = grows_keeps (Fits P G) (λ s. (t : Term) → In t (held s) → P t) each
    where
      each : (s : Script) (l : Line) → Fits P G s l → ((t : Term) → In t (held s) → P t) → (t : Term) → In t (held (s then l)) → P t
      each s l q all t h = go (held_then s l t h)
        where
          go : In t (held s) ⊎ (l.holds ≡ Some t) → P t
          go (inl x) = all t x
          go (inr e) = fits_within s l q t e

  -- each new term is derivable from what was held and what was given
  module _ (formed : (t : Term) → P t → Formed t) (E : Term → Type 0) (given : (op : Op) (t : Term) → G op t → DerivesFrom E t) where
    brings_derived : (s : Script) → ((t : Term) → In t (held s) → DerivesFrom E t) → {op : Op} {t : Term} → Brings G s op t → DerivesFrom E t
    brings_derived s d (gives {op} {t} n g) = given op t g
    brings_derived s d (mates {n} {k} h g) = given (MATE n) (mate k) g
    brings_derived s d (takes_left {n} {a} {b} h) = derives_way E (left_half {b = b} (d (built pair a b) (holds_held s n (built pair a b) h)))
    brings_derived s d (takes_right {n} {a} {b} h) = derives_way E (right_half {a = a} (d (built pair a b) (holds_held s n (built pair a b) h)))
    brings_derived s d (opens {n} {o} {c} {k} h i) =
        derives_way E (opening {k = k} (d (built sealed c k) (holds_held s n (built sealed c k) h)) (d (opener k) (holds_held s o (opener k) i)))

    fits_derived : (s : Script) (l : Line) → Fits P G s l → ((t : Term) → In t (held s) → DerivesFrom E t) → (t : Term) → l.holds ≡ Some t
        → DerivesFrom E t
    fits_derived s l (building q) d t e =
        let i = q.holds_is in
        let f : built q.form q.first q.second ≡ t = cc in
        subst (DerivesFrom E) f
        (derives_built E q.form q.first q.second (formed (built q.form q.first q.second) q.within).2
        (d q.first (holds_held s q.slot_1 q.first q.first_held)) (d q.second (holds_held s q.slot_2 q.second q.second_held)))
    fits_derived s l (bringing {t = u} b n p) d t e = let f : u ≡ t = cc in subst (DerivesFrom E) f (brings_derived s d b)
    fits_derived s l (repeating b c) d t e = absurd (some_none None e refl)
    fits_derived s l (comparing b c) d t e = absurd (some_none None e refl)
    fits_derived s l (sending b c) d t e = absurd (some_none None e refl)

    pub grows_derived : {s s1 : Script} → Grows (Fits P G) s s1 → ((t : Term) → In t (held s) → DerivesFrom E t) → (t : Term) → In t (held s1)
        → DerivesFrom E t
    grows_derived = grows_keeps (Fits P G) (λ s. (t : Term) → In t (held s) → DerivesFrom E t) each
      where
        each : (s : Script) (l : Line) → Fits P G s l → ((t : Term) → In t (held s) → DerivesFrom E t) → (t : Term) → In t (held (s then l))
            → DerivesFrom E t
        each s l q all t h = go (held_then s l t h)
          where
            go : In t (held s) ⊎ (l.holds ≡ Some t) → DerivesFrom E t
            go (inl x) = all t x
            go (inr e) = fits_derived s l q all t e

pub brings_map : (G G' : Op → Term → Type 0) → ((op : Op) (t : Term) → G op t → G' op t) → (s : Script) {op : Op} {t : Term} → Brings G s op t
    → Brings G' s op t
brings_map G G' g s (gives {op} {t} n x) = gives n (g op t x)
brings_map G G' g s (mates {n} {k} h x) = mates h (g (MATE n) (mate k) x)
brings_map G G' g s (takes_left h) = takes_left h
brings_map G G' g s (takes_right h) = takes_right h
brings_map G G' g s (opens h i) = opens h i

-- fitting lines fit with fewer conditions
pub fits_map : (P P' : Term → Type 0) (G G' : Op → Term → Type 0) → ((t : Term) → P t → P' t) → ((op : Op) (t : Term) → G op t → G' op t)
    → (s : Script) (l : Line) → Fits P G s l → Fits P' G' s l
fits_map P P' G G' p g s l (building q) =
    building (record {
      form = q.form;
      first = q.first;
      second = q.second;
      slot_1 = q.slot_1;
      slot_2 = q.slot_2;
      op_is = q.op_is;
      holds_is = q.holds_is;
      first_held = q.first_held;
      second_held = q.second_held;
      unheld = q.unheld;
      within = p (built q.form q.first q.second) q.within;
    })
fits_map P P' G G' p g s l (bringing {t = t} b n w) = bringing (brings_map G G' g s b) n (p t w)
fits_map P P' G G' p g s l (repeating b c) = repeating (brings_map G G' g s b) c
fits_map P P' G G' p g s l (comparing b c) = comparing (b.0, b.1, b.2, b.3, b.4, brings_map G G' g b.0 b.5) c
fits_map P P' G G' p g s l (sending b c) = sending b c

-- two-part terms within a term of a closed set are in it
pub closed_within : (P : Term → Type 0) → Closed P → (t : Term) → P t → Within P t
closed_within P c (name k i) p = tt
closed_within P c (built f a b) p = (p, closed_within P c a (c.firsts f a b p), closed_within P c b (c.seconds f a b p))
closed_within P c (mate k) p = tt

pub opener_within : (P : Term → Type 0) → Closed P → (k : Term) → P k → Within P (opener k)
opener_within P c (name party i) p = tt
opener_within P c (name number i) p = tt
opener_within P c (name shared i) p = tt
opener_within P c (name public i) p = tt
opener_within P c (name table i) p = tt
opener_within P c (name function i) p = tt
opener_within P c (built f a b) p = tt
opener_within P c (mate k) p = closed_within P c k (c.keys k p)
