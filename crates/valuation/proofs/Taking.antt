-- Taking terms apart keeps scripts fitting: saturating, and walking a term that an instruction brings in.
use Rattle.std.proofs.Common.{ℕ, zero, suc, ◌+◌, Bool, true, false, cond, List, [], ◌∷◌, length, Some, None, Option, sym, ap, ◌∙◌}
use Rattle.deduction.specs.Term.{Form, pair, sealed, digest, entry, Term, name, built, mate, opener}
use Rattle.rules.specs.Script.{Op, LEFT, RIGHT, OPEN, SAME, Script, line, ◌then◌, held}
use Rattle.rules.specs.Compose.{Composed, compose, composes}
use Rattle.rules.specs.Saturate.{opened, take_form, take_held, first_of, take_from, take_apart, go_on, steps, all_parts, saturate}
use Rattle.rules.specs.Walk.{walked, unlocked, apart, walk}
use Rattle.valuation.specs.Fit.{first, second, terms_of, Fits, Settled}
use Rattle.valuation.proofs.Scripts.{Slot, Keeps, keeps_all, keeps_on, keeps_slot, KeepsIn, Brings, adds_keeps, adds_held, adds_slot, HeldAt, AllHeld, all_held, ComposedTo, compose_makes, opener_makes}

module _ (terms : List Term) (settled : Settled terms) where
  -- the halves of a pair, and the content of a sealed term
  module _ (ts : List Term) (n : ℕ) (a b : Term) (x : Slot terms ts n (built pair a b)) where
    brings_left : Brings terms ts (LEFT n) a
    brings_left = record { fit = (x.inside, (a, b, x.is)); is = ap first x.is; among = (settled (built pair a b) x.among).0 }

    brings_right : Brings terms ts (RIGHT n) b
    brings_right = record { fit = (x.inside, (a, b, x.is)); is = ap second x.is; among = (settled (built pair a b) x.among).1 }

  brings_content : (ts : List Term) (n o : ℕ) (c k : Term) → Slot terms ts n (built sealed c k) → Slot terms ts o (opener k) → Brings terms ts (OPEN n o) c
  brings_content ts n o c k x y = record {
    fit = (x.inside, y.inside, (c, k, x.is), y.is ∙ sym (ap (λ t. opener (second t)) x.is));
    is = ap first x.is;
    among = (settled (built sealed c k) x.among).0;
  }

  -- saturating

  opened_keeps : (s : Script) (n : ℕ) (c k : Term) → Slot terms (terms_of s) n (built sealed c k) → (o : Option Composed) → ComposedTo terms s (opener k) o → KeepsIn terms s (opened n c o)
  opened_keeps s n c k x None h = tt
  opened_keeps s n c k x (Some o) h =
      let brings = brings_content (terms_of o.script) n o.slot c k (keeps_slot terms s o.script n (built sealed c k) h.keeps x) h.slot in
      keeps_on terms s o.script _ h.keeps (adds_held terms o.script (OPEN n o.slot) c h.keeps.fits brings)

  form_keeps : (s : Script) (n : ℕ) (f : Form) (a b : Term) → Fits terms s → Slot terms (terms_of s) n (built f a b) → KeepsIn terms s (take_form s n f a b)
  form_keeps s n pair a b fits x = go (composes s a) (composes s b)
    where
      go : (p q : Bool) → KeepsIn terms s (cond p (cond q None (Some (s then line (RIGHT n) (Some b)))) (Some (s then line (LEFT n) (Some a))))
      go true true = tt
      go true false = adds_held terms s (RIGHT n) b fits (brings_right (terms_of s) n a b x)
      go false q = adds_held terms s (LEFT n) a fits (brings_left (terms_of s) n a b x)
  form_keeps s n sealed c k fits x = go (composes s c)
    where
      go : (p : Bool) → KeepsIn terms s (cond p None (opened n c (compose s (opener k))))
      go true = tt
      go false = opened_keeps s n c k x (compose s (opener k)) (opener_makes terms settled k (settled (built sealed c k) x.among).1 s fits)
  form_keeps s n digest a b fits x = tt
  form_keeps s n entry a b fits x = tt

  held_keeps : (s : Script) (n : ℕ) (h : Option Term) → Fits terms s → HeldAt terms (terms_of s) n h → KeepsIn terms s (take_held s n h)
  held_keeps s n None fits x = tt
  held_keeps s n (Some (name k i)) fits x = tt
  held_keeps s n (Some (built f a b)) fits x = form_keeps s n f a b fits x
  held_keeps s n (Some (mate k)) fits x = tt

  first_keeps : (s : Script) (o p : Option Script) → KeepsIn terms s o → KeepsIn terms s p → KeepsIn terms s (first_of o p)
  first_keeps s None p h k = k
  first_keeps s (Some s1) p h k = h

  from_keeps : (s : Script) (n : ℕ) (rest : Script) → Fits terms s → AllHeld terms (terms_of s) n rest → KeepsIn terms s (take_from s n rest)
  from_keeps s n [] fits h = tt
  from_keeps s n (l ∷ rest) fits h = first_keeps s (take_held s n l.holds) (take_from s (n + 1) rest) (held_keeps s n l.holds fits h.0) (from_keeps s (n + 1) rest fits h.1)

  on_keeps : (rest : Script → Script) → ((s : Script) → Fits terms s → Keeps terms s (rest s)) → (s : Script) (o : Option Script) → Fits terms s → KeepsIn terms s o → Keeps terms s (go_on rest s o)
  on_keeps rest all s None fits h = keeps_all terms s fits
  on_keeps rest all s (Some s1) fits h = keeps_on terms s s1 (rest s1) h (all s1 h.fits)

  steps_keep : (n : ℕ) (s : Script) → Fits terms s → Keeps terms s (steps n s)
  steps_keep zero s fits = keeps_all terms s fits
  steps_keep (suc n) s fits = on_keeps (steps n) (steps_keep n) s (take_apart s) fits (from_keeps s 0 s fits (all_held terms s fits))

  pub saturate_keeps : (s : Script) → Fits terms s → Keeps terms s (saturate s)
  unfolding saturate
  saturate_keeps s fits = steps_keep (length (all_parts (held s))) s fits

  -- walking

  -- the instruction op brings the term t in
  module _ (s : Script) (op : Op) (t : Term) (fits : Fits terms s) (brings : Brings terms (terms_of s) op t) where
    -- not held, as it can be composed
    unheld_keeps : Keeps terms s (s then line op None)
    unheld_keeps = adds_keeps terms s op t fits brings None tt

    -- compared, or held and what follows
    walked_keeps : (next : Script → Script) → Keeps terms s (next (s then line op (Some t))) → (o : Option Composed) → ComposedTo terms (s then line op None) t o → Keeps terms s (walked s op t next o)
    walked_keeps next h None k = h
    walked_keeps next h (Some c) k =
        let x = keeps_slot terms (s then line op None) c.script (length s) t k.keeps (adds_slot terms s op t fits brings None) in
        let same : Brings terms (terms_of c.script) (SAME (length s) c.slot) t =
        record { fit = (x.inside, k.slot.inside, x.is ∙ sym k.slot.is); is = x.is; among = x.among } in
        keeps_on terms s (s then line op None) _ unheld_keeps
        (keeps_on terms (s then line op None) c.script _ k.keeps (adds_keeps terms c.script (SAME (length s) c.slot) t k.keeps.fits same None tt))

    pub brought_keeps : (next : Script → Script) → Keeps terms s (next (s then line op (Some t))) → Keeps terms s (walked s op t next (compose (s then line op None) t))
    brought_keeps next h = walked_keeps next h (compose (s then line op None) t) (compose_makes terms settled t brings.among (s then line op None) unheld_keeps.fits)

  -- a way of walking the term t keeps scripts fitting
  abbrev WalkKeeps : Term → (Script → Op → Script) → Type 0
  WalkKeeps t by = (s : Script) (op : Op) → Fits terms s → Brings terms (terms_of s) op t → Keeps terms s (by s op)

  unlocked_keeps : (s : Script) (n : ℕ) (c k : Term) (by : Script → Op → Script) → WalkKeeps c by → Fits terms s → Slot terms (terms_of s) n (built sealed c k)
      → (o : Option Composed) → ComposedTo terms s (opener k) o → Keeps terms s (unlocked s o (λ s1 m. by s1 (OPEN n m)))
  unlocked_keeps s n c k by all fits x None h = keeps_all terms s fits
  unlocked_keeps s n c k by all fits x (Some o) h =
      let brings = brings_content (terms_of o.script) n o.slot c k (keeps_slot terms s o.script n (built sealed c k) h.keeps x) h.slot in
      keeps_on terms s o.script _ h.keeps (all o.script (OPEN n o.slot) h.keeps.fits brings)

  apart_keeps : (f : Form) (n : ℕ) (a b : Term) (by-a by-b : Script → Op → Script) → WalkKeeps a by-a → WalkKeeps b by-b
      → (s : Script) → Fits terms s → Slot terms (terms_of s) n (built f a b) → Keeps terms s (apart f n b by-a by-b s)
  apart_keeps pair n a b by-a by-b ka kb s fits x =
      let h = ka s (LEFT n) fits (brings_left (terms_of s) n a b x) in
      let y = keeps_slot terms s (by-a s (LEFT n)) n (built pair a b) h x in
      keeps_on terms s (by-a s (LEFT n)) _ h (kb (by-a s (LEFT n)) (RIGHT n) h.fits (brings_right (terms_of (by-a s (LEFT n))) n a b y))
  apart_keeps sealed n c k by-c by-k kc kk s fits x =
      unlocked_keeps s n c k by-c kc fits x (compose s (opener k)) (opener_makes terms settled k (settled (built sealed c k) x.among).1 s fits)
  apart_keeps digest n a b by-a by-b ka kb s fits x = keeps_all terms s fits
  apart_keeps entry n a b by-a by-b ka kb s fits x = keeps_all terms s fits

  pub walk_keeps : (t : Term) → WalkKeeps t (λ s op. walk s op t)
  walk_keeps (name k i) s op fits b = brought_keeps s op (name k i) fits b (λ s1. s1) (adds_held terms s op (name k i) fits b)
  walk_keeps (built f l r) s op fits b =
      let s1 = s then line op (Some (built f l r)) in
      let h = adds_held terms s op (built f l r) fits b in
      brought_keeps s op (built f l r) fits b (apart f (length s) r (λ s2 o. walk s2 o l) (λ s2 o. walk s2 o r))
      (keeps_on terms s s1 _ h
      (apart_keeps f (length s) l r (λ s2 o. walk s2 o l) (λ s2 o. walk s2 o r) (walk_keeps l) (walk_keeps r) s1 h.fits (adds_slot terms s op (built f l r) fits b (Some (built f l r)))))
  walk_keeps (mate k) s op fits b = brought_keeps s op (mate k) fits b (λ s1. s1) (adds_held terms s op (mate k) fits b)
