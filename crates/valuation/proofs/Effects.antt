-- What initial knowledge and a step write keeps scripts fitting.
use Rattle.std.proofs.Common.{◌≡◌, ℕ, Bool, true, false, cond, List, [], ◌∷◌, length, Some, None, Option, sym, refl, ap, subst, inl, inr}
use Rattle.deduction.specs.Term.{party, number, shared, public, table, function, Term, name, built, mate, Key, mate_of, In}
use Rattle.rules.specs.Script.{Op, GIVEN, FRESH, FROM, TO, RECV, MATE, SEND, Script, line, ◌then◌}
use Rattle.rules.specs.Compose.{Composed, compose, composes}
use Rattle.rules.specs.Saturate.{saturate}
use Rattle.rules.specs.Walk.{walked, walk}
use Rattle.rules.specs.Effects.{knows, fresh_mate, freshen, freshens, sends, heard_from, received, overhears, overheard}
use Rattle.valuation.specs.Fit.{terms_of, Fits, Settled}
use Rattle.valuation.proofs.Scripts.{Slot, Keeps, keeps_all, keeps_on, keeps_slot, KeepsIn, Brings, adds_keeps, adds_held, adds_slot, ComposedTo, compose_makes}
use Rattle.valuation.proofs.Taking.{saturate_keeps, brought_keeps, walk_keeps}

-- hearing a name is walking it
heard_walked : (s : Script) (who : Term) (o : Option Composed) → heard_from s who o ≡ walked s (FROM who) who (λ s1. s1) o
heard_walked s who None = refl
heard_walked s who (Some c) = refl

module _ (terms : List Term) (settled : Settled terms) where
  -- an instruction that names one of the terms
  module _ (t : Term) (h : In t terms) (ts : List Term) where
    brings_given : Brings terms ts (GIVEN t) t
    brings_given = record { fit = tt; is = refl; among = h }

    brings_fresh : Brings terms ts (FRESH t) t
    brings_fresh = record { fit = tt; is = refl; among = h }

    brings_from : Brings terms ts (FROM t) t
    brings_from = record { fit = tt; is = refl; among = h }

    brings_to : Brings terms ts (TO t) t
    brings_to = record { fit = tt; is = refl; among = h }

    brings_received : Brings terms ts (RECV t) t
    brings_received = record { fit = tt; is = refl; among = h }

  saturated_keeps : (s s1 : Script) → Keeps terms s s1 → Keeps terms s (saturate s1)
  saturated_keeps s s1 h = keeps_on terms s s1 (saturate s1) h (saturate_keeps terms settled s1 h.fits)

  pub knows_keeps : (s : Script) (t : Term) → Fits terms s → In t terms → Keeps terms s (knows s t)
  knows_keeps s t fits h = go (composes s t)
    where
      go : (b : Bool) → Keeps terms s (cond b s (saturate (s then line (GIVEN t) (Some t))))
      go true = keeps_all terms s fits
      go false = saturated_keeps s (s then line (GIVEN t) (Some t)) (adds_held terms s (GIVEN t) t fits (brings_given t h (terms_of s)))

  fresh_held : (s : Script) (t : Term) → Fits terms s → In t terms → Keeps terms s (s then line (FRESH t) (Some t))
  fresh_held s t fits h = adds_held terms s (FRESH t) t fits (brings_fresh t h (terms_of s))

  -- a fresh public key, and its mate
  public_keeps : (s : Script) (i : ℕ) → Fits terms s → In (name public i) terms → Keeps terms s (fresh_mate s (name public i) public)
  public_keeps s i fits h =
      let s1 = s then line (FRESH (name public i)) (Some (name public i)) in
      let k = fresh_held s (name public i) fits h in
      let x = adds_slot terms s (FRESH (name public i)) (name public i) fits (brings_fresh (name public i) h (terms_of s)) (Some (name public i)) in
      let brings : Brings terms (terms_of s1) (MATE (length s)) (mate (name public i)) =
      record { fit = (x.inside, subst Key (sym x.is) tt); is = ap mate_of x.is; among = (settled (name public i) h).1 refl } in
      keeps_on terms s s1 _ k (adds_held terms s1 (MATE (length s)) (mate (name public i)) k.fits brings)

  freshen_keeps : (s : Script) (t : Term) → Fits terms s → In t terms → Keeps terms s (freshen s t)
  freshen_keeps s (name party i) fits h = fresh_held s (name party i) fits h
  freshen_keeps s (name number i) fits h = fresh_held s (name number i) fits h
  freshen_keeps s (name shared i) fits h = fresh_held s (name shared i) fits h
  freshen_keeps s (name public i) fits h = public_keeps s i fits h
  freshen_keeps s (name table i) fits h = fresh_held s (name table i) fits h
  freshen_keeps s (name function i) fits h = fresh_held s (name function i) fits h
  freshen_keeps s (built f a b) fits h = fresh_held s (built f a b) fits h
  freshen_keeps s (mate k) fits h = fresh_held s (mate k) fits h

  freshens_keep : (s : Script) (ts : List Term) → Fits terms s → ((t : Term) → In t ts → In t terms) → Keeps terms s (freshens s ts)
  freshens_keep s [] fits h = keeps_all terms s fits
  freshens_keep s (t ∷ ts) fits h =
      let k = freshen_keeps s t fits (h t (inl refl)) in
      keeps_on terms s (freshen s t) _ k (freshens_keep (freshen s t) ts k.fits (λ u i. h u (inr i)))

  sends_keeps : (s s1 : Script) (m to : Term) (address : ℕ) → Keeps terms s s1 → Slot terms (terms_of s) address to → (o : Option Composed) → ComposedTo terms s1 m o → KeepsIn terms s (sends address o)
  sends_keeps s s1 m to address k x None h = tt
  sends_keeps s s1 m to address k x (Some c) h =
      let all = keeps_on terms s s1 c.script k h.keeps in
      let y = keeps_slot terms s c.script address to all x in
      let brings : Brings terms (terms_of c.script) (SEND c.slot address) m = record { fit = (h.slot.inside, y.inside); is = h.slot.is; among = h.slot.among } in
      keeps_on terms s c.script _ all (adds_keeps terms c.script (SEND c.slot address) m h.keeps.fits brings None tt)

  pub sent_keeps : (s : Script) (fresh : List Term) (m to : Term) (address : ℕ) → Fits terms s → ((t : Term) → In t fresh → In t terms) → In m terms → Slot terms (terms_of s) address to
      → KeepsIn terms s (sends address (compose (freshens s fresh) m))
  sent_keeps s fresh m to address fits h i x =
      let k = freshens_keep s fresh fits h in
      sends_keeps s (freshens s fresh) m to address k x (compose (freshens s fresh) m) (compose_makes terms settled m i (freshens s fresh) k.fits)

  pub received_keeps : (s : Script) (who m : Term) → Fits terms s → In who terms → In m terms → Keeps terms s (received s who m)
  received_keeps s who m fits i j =
      let o = compose (s then line (FROM who) None) who in
      let b = brings_from who i (terms_of s) in
      let h : Keeps terms s (heard_from s who o) = subst (Keeps terms s) (sym (heard_walked s who o)) (brought_keeps terms settled s (FROM who) who fits b (λ s1. s1) (adds_held terms s (FROM who) who fits b)) in
      let s1 = heard_from s who o in
      saturated_keeps s (walk s1 (RECV m) m)
      (keeps_on terms s s1 _ h (walk_keeps terms settled m s1 (RECV m) h.fits (brings_received m j (terms_of s1))))

  overhears_keeps : (s : Script) (op : Op) (t : Term) → Fits terms s → Brings terms (terms_of s) op t → Keeps terms s (overhears s op t)
  overhears_keeps s op t fits b = go (composes s t)
    where
      go : (c : Bool) → Keeps terms s (cond c s (s then line op (Some t)))
      go true = keeps_all terms s fits
      go false = adds_held terms s op t fits b

  pub overheard_keeps : (s : Script) (from to m : Term) → Fits terms s → In from terms → In to terms → In m terms → Keeps terms s (overheard s from to m)
  overheard_keeps s from to m fits i j l =
      let s1 = overhears s (FROM from) from in
      let s2 = overhears s1 (TO to) to in
      let s3 = overhears s2 (RECV m) m in
      let a = overhears_keeps s (FROM from) from fits (brings_from from i (terms_of s)) in
      let b = overhears_keeps s1 (TO to) to a.fits (brings_to to j (terms_of s1)) in
      let c = overhears_keeps s2 (RECV m) m b.fits (brings_received m l (terms_of s2)) in
      saturated_keeps s s3 (keeps_on terms s s2 s3 (keeps_on terms s s1 s2 a b) c)
