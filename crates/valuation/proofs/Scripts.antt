-- How a fitting script grows: by an instruction that fits, and by composing a term. What a slot stands for, it stands for ever after.
use Rattle.std.proofs.Common.{◌≡◌, ℕ, ◌+◌, ◌<◌, ◌≤◌, Bool, true, false, cond, List, [], ◌∷◌, ◌++◌, length, Some, None, Option, sym, refl, ◌∙◌, subst, arith}
use mathlib.Core.Bool.{false≢true}
use Rattle.std.proofs.lemmas.List.{length_push, get_or_push, get_or_append_left}
use Rattle.deduction.specs.Term.{Kind, party, number, shared, public, table, function, Form, pair, sealed, digest, entry, Term, name, built, mate, term_decision, opener, PartsFit, In}
use Rattle.deduction.specs.Decide.{decided}
use Rattle.rules.specs.Script.{Op, Script, line, ◌then◌, is_term, find_from, find, builder}
use Rattle.rules.specs.Compose.{Composed, leaf, whole, both, or_both, compose}
use Rattle.valuation.specs.Fit.{at, term_of, terms_after, terms_of, Fit, HoldsIt, FitsAfter, Fits, Settled}
use Rattle.valuation.proofs.Slots.{length_terms, slot_term}

terms_append : (ts : List Term) (s r : Script) → terms_after ts (s ++ r) ≡ terms_after (terms_after ts s) r
terms_append ts [] r = refl
terms_append ts (l ∷ s) r = terms_append (ts ++ (term_of ts l.op ∷ [])) s r

pub length_slots : (s : Script) → length (terms_of s) ≡ length s
length_slots s = let n = length_terms [] s in omega arith

module _ (terms : List Term) where
  fits_append : (ts : List Term) (s r : Script) → FitsAfter terms ts s → FitsAfter terms (terms_after ts s) r → FitsAfter terms ts (s ++ r)
  fits_append ts [] r h k = k
  fits_append ts (l ∷ s) r h k = (h.0, h.1, h.2, fits_append (ts ++ (term_of ts l.op ∷ [])) s r h.3 k)

  -- of the slots with the terms ts, slot n stands for t, which is one of the terms
  pub record Slot (ts : List Term) (n : ℕ) (t : Term) : Type 0 where
    pub inside : n < length ts
    pub is : at ts n ≡ t
    pub among : In t terms

  -- s' fits, and the slots of s stand there for what they stood for
  pub record Keeps (s s' : Script) : Type 0 where
    pub fits : Fits terms s'
    pub longer : length (terms_of s) ≤ length (terms_of s')
    pub same : (j : ℕ) → j < length (terms_of s) → at (terms_of s') j ≡ at (terms_of s) j

  pub keeps_all : (s : Script) → Fits terms s → Keeps s s
  keeps_all s fits = record { fits = fits; longer = omega arith; same = λ j h. refl }

  pub keeps_on : (s s1 s2 : Script) → Keeps s s1 → Keeps s1 s2 → Keeps s s2
  keeps_on s s1 s2 h k = record { fits = k.fits; longer = omega arith; same = λ j b. k.same j (omega arith) ∙ h.same j b }

  pub keeps_slot : (s s1 : Script) (n : ℕ) (t : Term) → Keeps s s1 → Slot (terms_of s) n t → Slot (terms_of s1) n t
  keeps_slot s s1 n t h k = record { inside = omega arith; is = h.same n k.inside ∙ k.is; among = k.among }

  -- the same of a script that may not be there
  abbrev pub KeepsIn : Script → Option Script → Type 0
  KeepsIn s None = Unit {0}
  KeepsIn s (Some s1) = Keeps s s1

  -- after the slots with the terms ts, the instruction fits and stands for t, which is one of the terms
  pub record Brings (ts : List Term) (op : Op) (t : Term) : Type 0 where
    pub fit : Fit ts op
    pub is : term_of ts op ≡ t
    pub among : In t terms

  -- one more instruction
  module _ (s : Script) (op : Op) (t : Term) (fits : Fits terms s) (brings : Brings (terms_of s) op t) where
    pub adds_keeps : (h : Option Term) → HoldsIt t h → Keeps s (s then line op h)
    adds_keeps h holds =
        let e = terms_append [] s (line op h ∷ []) in
        let n = length_push (terms_of s) (term_of (terms_of s) op) in
        let held = subst (λ u. HoldsIt u h) (sym brings.is) holds in
        let among = subst (λ u. In u terms) (sym brings.is) brings.among in
        record {
          fits = fits_append [] s (line op h ∷ []) fits (brings.fit, held, among, tt);
          longer = rw e (omega arith);
          same = λ j b. rw e (get_or_append_left (terms_of s) (term_of (terms_of s) op ∷ []) (name party 0) j b);
        }

    -- whose slot holds the term
    pub adds_held : Keeps s (s then line op (Some t))
    adds_held = adds_keeps (Some t) refl

    pub adds_slot : (h : Option Term) → Slot (terms_of (s then line op h)) (length s) t
    adds_slot h =
        let e = terms_append [] s (line op h ∷ []) in
        let n = length_push (terms_of s) (term_of (terms_of s) op) in
        let m = length_slots s in
        record {
          inside = rw e (omega arith);
          is = rw e (get_or_push (terms_of s) (term_of (terms_of s) op) (name party 0) (length s) m ∙ brings.is);
          among = brings.among;
        }

  -- what a slot holds it stands for
  abbrev pub HeldAt : List Term → ℕ → Option Term → Type 0
  HeldAt ts n None = Unit {0}
  HeldAt ts n (Some t) = Slot ts n t

  -- the slots from n on hold what they stand for
  abbrev pub AllHeld : List Term → ℕ → Script → Type 0
  AllHeld ts n [] = Unit {0}
  AllHeld ts n (l ∷ s) = HeldAt ts n l.holds × AllHeld ts (n + 1) s

  held_at : (ts : List Term) (n : ℕ) (t : Term) (h : Option Term) → HoldsIt t h → Slot ts n t → HeldAt ts n h
  held_at ts n t None e k = tt
  held_at ts n t (Some u) e k = rw e k

  held_after : (ts : List Term) (s : Script) → FitsAfter terms ts s → AllHeld (terms_after ts s) (length ts) s
  held_after ts [] fits = tt
  held_after ts (l ∷ s) fits =
      let t = term_of ts l.op in
      let n = length_terms ts (l ∷ s) in
      let here : Slot (terms_after ts (l ∷ s)) (length ts) t = record { inside = omega arith; is = slot_term ts l s; among = fits.2 } in (
        held_at (terms_after ts (l ∷ s)) (length ts) t l.holds fits.1 here,
        subst (λ m. AllHeld (terms_after ts (l ∷ s)) m s) (length_push ts t) (held_after (ts ++ (t ∷ [])) s fits.3),
      )

  pub all_held : (s : Script) → Fits terms s → AllHeld (terms_of s) 0 s
  all_held s fits = held_after [] s fits

  -- the slot found stands for the term
  abbrev pub FoundAt : List Term → Term → Option ℕ → Type 0
  FoundAt ts t None = Unit {0}
  FoundAt ts t (Some n) = Slot ts n t

  is_held : (ts : List Term) (n : ℕ) (t : Term) (h : Option Term) → HeldAt ts n h → is_term t h ≡ true → Slot ts n t
  is_held ts n t None k e = absurd (false≢true e)
  is_held ts n t (Some u) k e = go (term_decision u t) e
    where
      go : (d : Dec (u ≡ t)) → decided d ≡ true → Slot ts n t
      go (yes p) q = subst (Slot ts n) p k
      go (no p) q = absurd (false≢true q)

  found_from : (ts : List Term) (t : Term) (n : ℕ) (s : Script) → AllHeld ts n s → FoundAt ts t (find_from n s t)
  found_from ts t n [] h = tt
  found_from ts t n (l ∷ s) h = go (found_from ts t (n + 1) s h.1) (is_term t l.holds) refl
    where
      go : FoundAt ts t (find_from (n + 1) s t) → (b : Bool) → is_term t l.holds ≡ b → FoundAt ts t (cond b (Some n) (find_from (n + 1) s t))
      go rest true e = is_held ts n t l.holds h.0 e
      go rest false e = rest

  pub find_stands : (s : Script) (t : Term) → Fits terms s → FoundAt (terms_of s) t (find s t)
  unfolding find
  find_stands s t fits = found_from (terms_of s) t 0 s (all_held s fits)

  -- composed: the script fits, and the slot stands for the term
  pub record Makes (s : Script) (t : Term) (c : Composed) : Type 0 where
    pub keeps : Keeps s c.script
    pub slot : Slot (terms_of c.script) c.slot t

  abbrev pub ComposedTo : Script → Term → Option Composed → Type 0
  ComposedTo s t None = Unit {0}
  ComposedTo s t (Some c) = Makes s t c

  leaf_makes : (s : Script) (t : Term) (o : Option ℕ) → Fits terms s → FoundAt (terms_of s) t o → ComposedTo s t (leaf s o)
  leaf_makes s t None fits h = tt
  leaf_makes s t (Some n) fits h = record { keeps = keeps_all s fits; slot = h }

  name_makes : (k : Kind) (i : ℕ) (s : Script) → Fits terms s → ComposedTo s (name k i) (compose s (name k i))
  name_makes k i s fits = leaf_makes s (name k i) (find s (name k i)) fits (find_stands s (name k i) fits)

  mate_makes : (k : Term) (s : Script) → Fits terms s → ComposedTo s (mate k) (compose s (mate k))
  mate_makes k s fits = leaf_makes s (mate k) (find s (mate k)) fits (find_stands s (mate k) fits)

  -- the instruction that builds a form, from the slots of parts that fit
  module _ (ts : List Term) (i j : ℕ) (a b : Term) (x : Slot ts i a) (y : Slot ts j b) where
    parts_fit_lem : (f : Form) → PartsFit f a b → PartsFit f (at ts i) (at ts j)
    parts_fit_lem f p = subst (λ u. PartsFit f u (at ts j)) (sym x.is) (subst (PartsFit f a) (sym y.is) p)

    brings_built : (f : Form) → PartsFit f a b → In (built f a b) terms → Brings ts (builder f i j) (built f a b)
    brings_built pair p h = record { fit = (x.inside, y.inside); is = rw (x.is, y.is) refl; among = h }
    brings_built sealed p h = record { fit = (x.inside, y.inside, parts_fit_lem sealed p); is = rw (x.is, y.is) refl; among = h }
    brings_built digest p h = record { fit = (x.inside, y.inside, parts_fit_lem digest p); is = rw (x.is, y.is) refl; among = h }
    brings_built entry p h = record { fit = (x.inside, y.inside, parts_fit_lem entry p); is = rw (x.is, y.is) refl; among = h }

  module _ (settled : Settled terms) where
    module _ (s : Script) (f : Form) (a b : Term) (among : In (built f a b) terms) where
      whole_makes : (x : Composed) → Makes s a x → (o : Option Composed) → ComposedTo x.script b o → ComposedTo s (built f a b) (whole f (built f a b) x.slot o)
      whole_makes x ma None h = tt
      whole_makes x ma (Some y) mb =
          let op = builder f x.slot y.slot in
          let first = keeps_slot x.script y.script x.slot a mb.keeps ma.slot in
          let brings = brings_built (terms_of y.script) x.slot y.slot a b first mb.slot f (settled (built f a b) among).2 among in
          record {
            keeps = keeps_on s y.script _ (keeps_on s x.script y.script ma.keeps mb.keeps) (adds_held y.script op (built f a b) mb.keeps.fits brings);
            slot = adds_slot y.script op (built f a b) mb.keeps.fits brings (Some (built f a b));
          }

      both_makes : (o : Option Composed) → ComposedTo s a o → ((s1 : Script) → Fits terms s1 → ComposedTo s1 b (compose s1 b)) → ComposedTo s (built f a b) (both f (built f a b) o (λ s1. compose s1 b))
      both_makes None h next = tt
      both_makes (Some x) h next = whole_makes x h (compose x.script b) (next x.script h.keeps.fits)

      or_makes : (o : Option ℕ) (c : Option Composed) → Fits terms s → FoundAt (terms_of s) (built f a b) o → ComposedTo s (built f a b) c → ComposedTo s (built f a b) (or_both s o c)
      or_makes None c fits h k = k
      or_makes (Some n) c fits h k = record { keeps = keeps_all s fits; slot = h }

    pub compose_makes : (t : Term) → In t terms → (s : Script) → Fits terms s → ComposedTo s t (compose s t)
    compose_makes (name k i) h s fits = name_makes k i s fits
    compose_makes (built f a b) h s fits =
        let w = settled (built f a b) h in
        or_makes s f a b h (find s (built f a b)) _ fits (find_stands s (built f a b) fits)
        (both_makes s f a b h (compose s a) (compose_makes a w.0 s fits) (compose_makes b w.1))
    compose_makes (mate k) h s fits = mate_makes k s fits

    -- the opener of a key that is one of the terms: a mate need not be one of them, and is composed only where a slot holds it
    pub opener_makes : (k : Term) → In k terms → (s : Script) → Fits terms s → ComposedTo s (opener k) (compose s (opener k))
    opener_makes (name party i) h s fits = mate_makes (name party i) s fits
    opener_makes (name number i) h s fits = mate_makes (name number i) s fits
    opener_makes (name shared i) h s fits = name_makes shared i s fits
    opener_makes (name public i) h s fits = mate_makes (name public i) s fits
    opener_makes (name table i) h s fits = mate_makes (name table i) s fits
    opener_makes (name function i) h s fits = mate_makes (name function i) s fits
    opener_makes (built f a b) h s fits = mate_makes (built f a b) s fits
    opener_makes (mate k) h s fits = compose_makes k (settled (mate k) h).0 s fits
