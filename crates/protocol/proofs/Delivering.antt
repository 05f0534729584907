-- The three scripts of a step.
use Rattle.std.proofs.Common.{◌≡◌, Result, MatchResult, ℕ, zero, suc, ◌<◌, true, false, List, [], ◌∷◌, length, get_or, Some, Ok, Err, sym, refl, ap, ◌∙◌, subst, inl, inr, arith, le-ltb, lt-ltb}
use Rattle.deduction.specs.Term.{Kind, party, number, shared, public, table, function, Term, name, built, mate, Named, In}
use Rattle.terms.specs.Listed.{listed}
use Rattle.terms.specs.Tree.{tree}
use Rattle.terms.proofs.Listed.{orderly}
use Rattle.scripts.specs.declared.instruction.ScriptError.{ScriptError}
use Rattle.scripts.specs.declared.instruction.ScriptError.TheVariants.{Full, Missing}
use Rattle.scripts.specs.declared.script.Script.{Script}
use Rattle.scripts.specs.Composing.{view}
use Rattle.scripts.specs.View.{written}
use Rattle.scripts.proofs.View.{length_view}
use Rattle.scripts.proofs.Writing.{written_few}
use Rattle.effects.specs.Effects.{Effects}
use Rattle.effects.specs.Sending.{Sends}
use Rattle.rules.specs.Script.{Script as RuleScript}
use Rattle.rules.specs.Compose.{missing}
use Rattle.rules.specs.Effects.{freshens, received, overheard}
use Rattle.rules.specs.State.{State, Outcome, STEP, stepped, nth, party_names, party_of, name_of, fresh_names, place_of, too_long, missing_number, stepped_to, delivers, outcome, refuses, perform}
use Rattle.rules.specs.State as rules
use Rattle.rules.proofs.Nth.{nth_in}
use Rattle.protocol.specs.declared.protocol.Protocol.{Protocol}
use Rattle.protocol.specs.declared.refusal.Refusal.TheVariants.{ScriptFull}
use Rattle.protocol.specs.declared.step.Delivery.{Delivery}
use Rattle.std.specs.Prelude.{IsErrAnd}
use Rattle.std.proofs.lemmas.Result.{err_from_is_err_and}
use Rattle.protocol.specs.declared.protocol.delivering.Delivered.{Delivered}
use Rattle.protocol.specs.declared.refusal.Refusal.{Refusal}
use Rattle.protocol.specs.Delivering.{refused_send, Delivers, Grants}
use Rattle.protocol.specs.Outcome.{Performed}
use Rattle.protocol.specs.Stepping.{Addressed}
use Rattle.protocol.specs.View.{lines_of, view_of}
use Rattle.protocol.proofs.Addressing.{view_at, addressed_performs}
use Rattle.protocol.proofs.Trees.{place_tree}

-- the name of a party is a party's name
in_party : (k : Kind) (i : ℕ) (us : List Term) (t : Term) → In t (party_of k (name k i) us) → (In t us → Named party t) → Named party t
in_party party i us t (inl e) f = subst (Named party) e refl
in_party party i us t (inr h) f = f h
in_party number i us t h f = f h
in_party shared i us t h f = f h
in_party public i us t h f = f h
in_party table i us t h f = f h
in_party function i us t h f = f h

in_parties : (ts : List Term) (t : Term) → In t (party_names ts) → Named party t
in_parties [] t h = absurd h
in_parties (name k i ∷ ts) t h = in_party k i (party_names ts) t h (in_parties ts t)
in_parties (built f a b ∷ ts) t h = in_parties ts t h
in_parties (mate k ∷ ts) t h = in_parties ts t h

pub name_named : (st : State) (p : ℕ) (t : Term) → name_of st p ≡ Some t → Named party t
name_named st zero t e = let z : ◌≡◌ {A = ℕ} 0 1 = cc in absurd (omega arith)
name_named st (suc p) t e = in_parties st.terms t (nth_in (party_names st.terms) p t e)

-- what was written is no longer than 512
short : (ts : List _) (s : Script) → too_long (view ts s) ≡ false
short ts s = le-ltb 512 (length (view ts s)) (omega (arith, length_view (tree ts) (written s), written_few s))

long : (w : RuleScript) → 512 < length w → too_long w ≡ true
long w l = lt-ltb 512 (length w) l

-- a result whose error is told as another
pub told_ok : {A E D : Type 0} (f : E → D) (r : Result A E) (m : Result A D) (x : A) → MatchResult r (λ y. m ≡ Ok y) (λ e. m ≡ Err (f e)) → m ≡ Ok x → r ≡ Ok x
told_ok f (Ok y) m x is e = ap Ok (same (sym is ∙ e))
  where
    same : {A D : Type 0} {u v : A} → ◌≡◌ {A = Result A D} (Ok u) (Ok v) → u ≡ v
    same q = cc
told_ok f (Err z) m x is e = absurd (apart (sym is ∙ e))
  where
    apart : {A D : Type 0} {u : D} {v : A} → ◌≡◌ {A = Result A D} (Err u) (Ok v) → ⊥
    apart q = let z : ◌≡◌ {A = ℕ} 0 1 = cc in omega arith

pub told_err : {A E D : Type 0} (f : E → D) (r : Result A E) (m : Result A D) (x : D) → MatchResult r (λ y. m ≡ Ok y) (λ e. m ≡ Err (f e)) → m ≡ Err x → (e : E) × (r ≡ Err e) × (x ≡ f e)
told_err f (Ok y) m x is e = absurd (apart (sym is ∙ e))
  where
    apart : {A D : Type 0} {u : D} {v : A} → ◌≡◌ {A = Result A D} (Ok v) (Err u) → ⊥
    apart q = let z : ◌≡◌ {A = ℕ} 0 1 = cc in omega arith
told_err f (Err z) m x is e = (z, refl, same (sym e ∙ is))
  where
    same : {A D : Type 0} {u v : D} → ◌≡◌ {A = Result A D} (Err u) (Err v) → u ≡ v
    same q = cc

-- a refusal that is passed on
pub passed_on : (c : Protocol) (a b n : ℕ) (x y : Refusal) (o : Result Delivered Refusal) → IsErrAnd o (λ z. z ≡ x) → x ≡ y → Performed (view_of c) (STEP a b n) (Err y) (view_of c) → Delivers c a b n o
passed_on c a b n x y o h e p = let q = err_from_is_err_and o h in subst (Delivers c a b n) (sym (q.1 ∙ ap Err (q.2 ∙ e))) p

module _ (c : Protocol) (a b n : ℕ) (d : Delivery) (w : Addressed c a b n d) where
  abbrev st : State
  st = view_of c

  abbrev m : Term
  m = tree (listed c.terms) n

  abbrev sa : RuleScript
  sa = get_or (view_of c).scripts a []

  abbrev sb : RuleScript
  sb = get_or (view_of c).scripts b []

  abbrev sl : RuleScript
  sl = get_or (view_of c).scripts 0 []

  abbrev na : Term
  na = tree (listed c.terms) d.from

  abbrev nb : Term
  nb = tree (listed c.terms) d.to

  delivered : perform st (STEP a b n) ≡ delivers st a b n m sa sb sl na nb d.address
  delivered = addressed_performs c a b n d w

  send_refused_as : (e : ScriptError) → Sends (listed c.terms) sa (fresh_names st m) m d.address (Err e) → Performed st (STEP a b n) (Err (refused_send e a)) st
  send_refused_as Full p =
      let q = p.1 in
      let l = long p.0 p.2 in
      let x : perform st (STEP a b n) ≡ refuses st (STEP a b n) (rules.ScriptFull a) = delivered ∙ rw (q, l) refl in
      record { answer = rw x refl; after = rw x refl }
  send_refused_as (Missing t) p =
      let q = p.0 in
      let y : missing_number st (missing (freshens sa (fresh_names st m)) m) ≡ t =
      ap (missing_number st) p.2 ∙ rw (place_tree (listed c.terms) (orderly c.terms) t p.1) refl in
      let x : perform st (STEP a b n) ≡ refuses st (STEP a b n) (rules.Unmakeable t) = delivered ∙ rw q (ap (λ z. refuses st (STEP a b n) (rules.Unmakeable z)) y) in
      record { answer = rw x refl; after = rw x refl }

  pub send_refused : (r : Result Script ScriptError) (e : ScriptError) → r ≡ Err e → Sends (listed c.terms) sa (fresh_names st m) m d.address r → Performed st (STEP a b n) (Err (refused_send e a)) st
  send_refused r e q h = send_refused_as e (subst (Sends (listed c.terms) sa (fresh_names st m) m d.address) q h)

  module _ (s1 : Script) (r1 : Result Script ScriptError) (e1 : r1 ≡ Ok s1) (h1 : Sends (listed c.terms) sa (fresh_names st m) m d.address r1) where
    one : Sends (listed c.terms) sa (fresh_names st m) m d.address (Ok s1)
    one = subst (Sends (listed c.terms) sa (fresh_names st m) m d.address) e1 h1

    stepping : perform st (STEP a b n) ≡ stepped_to st a b n m (view (listed c.terms) s1) (received sb na m) (overheard sl na nb m)
    stepping = let q = one.0 in delivered ∙ rw q refl

    receive_refused_as : (x : Script) → nth (lines_of c) b ≡ Some (written x) → (e : ScriptError) → Effects (listed c.terms) (received (view (listed c.terms) x) na m) (Err e) → Performed st (STEP a b n) (Err (ScriptFull b)) st
    receive_refused_as x at Full p =
        let v = view_at c b x at in
        let k = short (listed c.terms) s1 in
        let l = long (received sb na m) (subst (λ y. 512 < length (received y na m)) v p) in
        let z : perform st (STEP a b n) ≡ refuses st (STEP a b n) (rules.ScriptFull b) = stepping ∙ rw (k, l) refl in
        record { answer = rw z refl; after = rw z refl }
    receive_refused_as x at (Missing t) p = absurd p

    pub receive_refused : (x : Script) → nth (lines_of c) b ≡ Some (written x) → (r : Result Script ScriptError) (e : ScriptError) → r ≡ Err e → Effects (listed c.terms) (received (view (listed c.terms) x) na m) r → Performed st (STEP a b n) (Err (ScriptFull b)) st
    receive_refused x at r e q h = receive_refused_as x at e (subst (Effects (listed c.terms) (received (view (listed c.terms) x) na m)) q h)

    module _ (x : Script) (at : nth (lines_of c) b ≡ Some (written x)) (s2 : Script) (r2 : Result Script ScriptError) (e2 : r2 ≡ Ok s2) (h2 : Effects (listed c.terms) (received (view (listed c.terms) x) na m) r2) where
      two : Effects (listed c.terms) (received (view (listed c.terms) x) na m) (Ok s2)
      two = subst (Effects (listed c.terms) (received (view (listed c.terms) x) na m)) e2 h2

      second : view (listed c.terms) s2 ≡ received sb na m
      second = two.0 ∙ ap (λ y. received y na m) (view_at c b x at)

      stepping_2 : perform st (STEP a b n) ≡ stepped_to st a b n m (view (listed c.terms) s1) (view (listed c.terms) s2) (overheard sl na nb m)
      stepping_2 = stepping ∙ ap (λ y. stepped_to st a b n m (view (listed c.terms) s1) y (overheard sl na nb m)) (sym second)

      hear_refused_as : (z : Script) → nth (lines_of c) 0 ≡ Some (written z) → (e : ScriptError) → Effects (listed c.terms) (overheard (view (listed c.terms) z) na nb m) (Err e) → Performed st (STEP a b n) (Err (ScriptFull 0)) st
      hear_refused_as z there Full p =
          let v = view_at c 0 z there in
          let k = short (listed c.terms) s1 in
          let j = short (listed c.terms) s2 in
          let l = long (overheard sl na nb m) (subst (λ y. 512 < length (overheard y na nb m)) v p) in
          let q : perform st (STEP a b n) ≡ refuses st (STEP a b n) (rules.ScriptFull 0) = stepping_2 ∙ rw (k, j, l) refl in
          record { answer = rw q refl; after = rw q refl }
      hear_refused_as z there (Missing t) p = absurd p

      pub hear_refused : (z : Script) → nth (lines_of c) 0 ≡ Some (written z) → (r : Result Script ScriptError) (e : ScriptError) → r ≡ Err e → Effects (listed c.terms) (overheard (view (listed c.terms) z) na nb m) r → Performed st (STEP a b n) (Err (ScriptFull 0)) st
      hear_refused z there r e q h = hear_refused_as z there e (subst (Effects (listed c.terms) (overheard (view (listed c.terms) z) na nb m)) q h)

      pub all_granted : (z : Script) → nth (lines_of c) 0 ≡ Some (written z) → (s3 : Script) (r3 : Result Script ScriptError) → r3 ≡ Ok s3 → Effects (listed c.terms) (overheard (view (listed c.terms) z) na nb m) r3
          → Grants c a b n (record { sent = s1; received = s2; heard = s3 })
      all_granted z there s3 r3 e3 h3 =
          let three : Effects (listed c.terms) (overheard (view (listed c.terms) z) na nb m) (Ok s3) = subst (Effects (listed c.terms) (overheard (view (listed c.terms) z) na nb m)) e3 h3 in
          let v : view (listed c.terms) s3 ≡ overheard sl na nb m = three.0 ∙ ap (λ y. overheard y na nb m) (view_at c 0 z there) in
          let k = short (listed c.terms) s1 in
          let j = short (listed c.terms) s2 in
          let i = short (listed c.terms) s3 in
          record {
            performs = stepping_2 ∙ ap (stepped_to st a b n m (view (listed c.terms) s1) (view (listed c.terms) s2)) (sym v) ∙ rw (k, j, i) refl;
            sent_known = one.1;
            received_known = two.1;
            heard_known = three.1;
          }
