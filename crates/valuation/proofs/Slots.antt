-- The terms of a script's slots: a slot's term stays while the script grows, and what a fitting instruction makes is its value.
use Rattle.std.proofs.Common.{◌≡◌, ℕ, zero, suc, ◌+◌, ◌<◌, List, [], ◌∷◌, ◌++◌, length, Some, Option, sym, refl, ap, ◌∙◌, subst, arith, below_more}
use Rattle.std.proofs.lemmas.List.{length_push, get_or_push, get_or_append_left}
use Rattle.deduction.specs.Term.{pair, sealed, party, Term, name, built, Key, mate_of, opener, In}
use Rattle.provider.specs.Algebra.{Algebra}
use Rattle.provider.specs.Meaning.{on}
use Rattle.rules.specs.Script.{Op, GIVEN, FRESH, FROM, TO, RECV, MATE, LEFT, RIGHT, JOIN, SEAL, DIGEST, ENTRY, OPEN, SAME, SEND, Line, Script}
use Rattle.rules.specs.State.{nth}
use Rattle.valuation.specs.Value.{value, HasValue, Valued}
use Rattle.valuation.specs.Fit.{at, second, term_of, terms_after, terms_of, Fit, FitsAfter, Fits, Settled}
use Rattle.valuation.specs.Law.{made, Lawful, SlotValues}
use Rattle.valuation.proofs.Values.{on_some, mate_value}

pub length_terms : (ts : List Term) (s : Script) → length (terms_after ts s) ≡ length ts + length s
length_terms ts [] = omega arith
length_terms ts (l ∷ s) =
    let n = length_terms (ts ++ (term_of ts l.op ∷ [])) s in
    let m = length_push ts (term_of ts l.op) in
    omega arith

-- the slots before keep their terms
pub terms_kept : (ts : List Term) (s : Script) (j : ℕ) → j < length ts → at (terms_after ts s) j ≡ at ts j
terms_kept ts [] j h = refl
terms_kept ts (l ∷ s) j h =
    let n = length_push ts (term_of ts l.op) in
    terms_kept (ts ++ (term_of ts l.op ∷ [])) s j (omega arith) ∙ get_or_append_left ts (term_of ts l.op ∷ []) (name party 0) j h

-- an instruction's slot has the term of the instruction
pub slot_term : (ts : List Term) (l : Line) (s : Script) → at (terms_after ts (l ∷ s)) (length ts) ≡ term_of ts l.op
slot_term ts l s =
    let n = length_push ts (term_of ts l.op) in
    terms_kept (ts ++ (term_of ts l.op ∷ [])) s (length ts) (omega arith) ∙ get_or_push ts (term_of ts l.op) (name party 0) (length ts) refl

-- every one of the slots so far has one of the terms
abbrev pub Among : List Term → List Term → Type 0
Among terms ts = (j : ℕ) → j < length ts → In (at ts j) terms

among_push : (terms ts : List Term) (t : Term) → Among terms ts → In t terms → Among terms (ts ++ (t ∷ []))
among_push terms ts t h i j l =
    let n = length_push ts t in
    below_more (λ k. In (at (ts ++ (t ∷ [])) k) terms) (length ts)
    (λ k b. rw (get_or_append_left ts (t ∷ []) (name party 0) k b) (h k b))
    (rw (get_or_push ts t (name party 0) (length ts) refl) i)
    j (omega arith)

-- the slot n of all, and its instruction op, which fits what the slots before it stand for
pub record Before (terms all : List Term) (n : ℕ) (op : Op) : Type 0 where
  pub slots : List Term
  pub count : length slots ≡ n
  pub among : Among terms slots
  pub kept : (j : ℕ) → j < length slots → at all j ≡ at slots j
  pub fit : Fit slots op
  pub is : at all n ≡ term_of slots op
  pub term : In (term_of slots op) terms

slot_before : (terms ts : List Term) (s : Script) → Among terms ts → FitsAfter terms ts s → (i : ℕ) (l : Line) → nth s i ≡ Some l → Before terms (terms_after ts s) (length ts + i) l.op
slot_before terms ts [] all fits i l h = let z : ◌≡◌ {A = ℕ} 0 1 = cc in absurd (omega arith)
slot_before terms ts (x ∷ s) all fits zero l h =
    let e : x ≡ l = cc in
    let z : length ts + 0 ≡ length ts = omega arith in
    rw (← e, z) (record { slots = ts; count = refl; among = all; kept = terms_kept ts (x ∷ s); fit = fits.0; is = slot_term ts x s; term = fits.2 })
slot_before terms ts (x ∷ s) all fits (suc i) l h =
    let t = term_of ts x.op in
    let n = length_push ts t in
    let z : length ts + suc i ≡ length (ts ++ (t ∷ [])) + i = omega arith in
    rw z (slot_before terms (ts ++ (t ∷ [])) s (among_push terms ts t all fits.2) fits.3 i l h)

-- every instruction of a fitting script fits what the slots before it stand for
pub fits_before : (terms : List Term) (s : Script) → Fits terms s → (i : ℕ) (l : Line) → nth s i ≡ Some l → Before terms (terms_of s) i l.op
fits_before terms s fits i l h =
    let z : 0 + i ≡ i = omega arith in
    rw z at (slot_before terms [] s (λ j b. absurd (omega arith)) fits i l h)

module _ {X : Type 0} {P : X → Type 0} {f : Algebra X} (law : Lawful P f) where
  -- the halves of what stands for a pair
  halves_value : (a b : Term) (o : Option X) → HasValue P f a → HasValue P f b → o ≡ value f (built pair a b) → (on o f.left ≡ value f a) × (on o f.right ≡ value f b)
  halves_value a b o u v h =
      let e : o ≡ Some (f.join u.0 v.0) = h ∙ rw (u.1, v.1) refl in
      (on_some f.left e ∙ law.halves.left u.0 v.0 u.2 v.2 ∙ sym u.1, on_some f.right e ∙ law.halves.right u.0 v.0 u.2 v.2 ∙ sym v.1)

  -- the content of what stands for a sealed term, opened with what stands for the opener of its key
  content_value : (c k : Term) (o p : Option X) → Key k → HasValue P f c → HasValue P f k → HasValue P f (opener k) → HasValue P f (built sealed c k)
      → o ≡ value f (built sealed c k) → p ≡ value f (opener k) → on o (λ x. on p (f.opens x)) ≡ value f c
  content_value c k o p key u v m s h g =
      let mated : f.mate v.0 ≡ Some m.0 = sym (mate_value law k key v m ∙ on_some f.mate v.1) ∙ m.1 in
      let q : value f (built sealed c k) ≡ f.seal u.0 v.0 = rw (u.1, v.1) refl in
      rw (h ∙ s.1, g ∙ m.1) (law.seals.with_mate u.0 v.0 m.0 s.0 u.2 v.2 mated (sym q ∙ s.1) ∙ sym u.1)

  module _ (terms : List Term) (settled : Settled terms) (valued : Valued P f terms) (v : ℕ → Option X) where
    -- what an instruction makes, where the slots before it stand for the values of their terms
    pub op_value : (ts : List Term) (op : Op) → Among terms ts → ((j : ℕ) → j < length ts → v j ≡ value f (at ts j)) → Fit ts op → In (term_of ts op) terms → made f v op ≡ value f (term_of ts op)
    op_value ts (GIVEN t) all same fit i = refl
    op_value ts (FRESH t) all same fit i = refl
    op_value ts (FROM t) all same fit i = refl
    op_value ts (TO t) all same fit i = refl
    op_value ts (RECV t) all same fit i = refl
    op_value ts (MATE a) all same fit i = rw (same a fit.0) (sym (mate_value law (at ts a) fit.1 (valued (at ts a) (all a fit.0)) (valued (mate_of (at ts a)) i)))
    op_value ts (LEFT a) all same fit i =
        let e = fit.1.2 in
        let w = settled (built pair fit.1.0 fit.1.1) (rw e at (all a fit.0)) in
        rw e (halves_value fit.1.0 fit.1.1 (v a) (valued fit.1.0 w.0) (valued fit.1.1 w.1) (same a fit.0 ∙ ap (value f) e)).0
    op_value ts (RIGHT a) all same fit i =
        let e = fit.1.2 in
        let w = settled (built pair fit.1.0 fit.1.1) (rw e at (all a fit.0)) in
        rw e (halves_value fit.1.0 fit.1.1 (v a) (valued fit.1.0 w.0) (valued fit.1.1 w.1) (same a fit.0 ∙ ap (value f) e)).1
    op_value ts (JOIN a b) all same fit i = rw (same a fit.0, same b fit.1) refl
    op_value ts (SEAL a b) all same fit i = rw (same a fit.0, same b fit.1) refl
    op_value ts (DIGEST a b) all same fit i = rw (same a fit.0, same b fit.1) refl
    op_value ts (ENTRY a b) all same fit i = rw (same a fit.0, same b fit.1) refl
    op_value ts (OPEN a b) all same fit i =
        let c = fit.2.0 in
        let k = fit.2.1 in
        let e : at ts a ≡ built sealed c k = fit.2.2 in
        let o : at ts b ≡ opener k = fit.3 ∙ ap (λ t. opener (second t)) e in
        let inside : In (built sealed c k) terms = rw e at (all a fit.0) in
        let opens : In (opener k) terms = rw o at (all b fit.1) in
        let w = settled (built sealed c k) inside in
        rw e (content_value c k (v a) (v b) w.2 (valued c w.0) (valued k w.1) (valued (opener k) opens) (valued (built sealed c k) inside)
        (same a fit.0 ∙ ap (value f) e) (same b fit.1 ∙ ap (value f) o))
    op_value ts (SAME a b) all same fit i = same a fit.0
    op_value ts (SEND a b) all same fit i = same a fit.0

  pub slot_values : SlotValues P f
  slot_values terms s settled valued fits i l h =
      let w = fits_before terms s fits i l h in
      let all = terms_of s in
      record {
        has_value = valued (at all i) (rw w.is w.term);
        makes_it = op_value terms settled valued (λ j. value f (at all j)) w.slots l.op w.among (λ j b. ap (value f) (w.kept j b)) w.fit w.term ∙ sym (ap (value f) w.is);
        agrees = λ a b e. let u : Fit w.slots (SAME a b) = subst (Fit w.slots) e w.fit in ap (value f) (w.kept a u.0 ∙ u.2 ∙ sym (w.kept b u.1));
      }
