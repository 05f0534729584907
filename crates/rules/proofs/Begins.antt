-- Every rule goes on from the script that it is given, and a step of saturating makes it longer; no condition is needed.
use Rattle.std.proofs.Common.{◌≡◌, ℕ, ◌<◌, ◌≤◌, List, [], ◌∷◌, ◌++◌, length, Some, None, Option, refl, ap, subst, arith, length-append}
use Rattle.deduction.specs.Term.{party, number, shared, public, table, function, Form, pair, sealed, digest, entry, Term, name, built, mate, opener}
use Rattle.deduction.specs.Term.{In, among}
use Rattle.deduction.specs.Compose.{Composable}
use Rattle.deduction.proofs.Compose.{held_composable}
use Rattle.rules.specs.Script.{Op, LEFT, RIGHT, OPEN, Line, Script, line, ◌then◌, held}
use Rattle.rules.specs.Compose.{Composed, compose}
use Rattle.rules.specs.Saturate.{take_apart, Saturates, saturate}
use Rattle.rules.specs.Walk.{walked, unlocked, apart, walk}
use Rattle.rules.specs.Effects.{knows, freshen, freshens, sends, sent, received, overheard}
use Rattle.rules.specs.Grows.{Begins, Grows, stays, adds, Builds, Fits}
use Rattle.rules.specs.Theorems.{RulesOnlyAppend}
use Rattle.rules.proofs.Find.{some_none}
use Rattle.rules.proofs.Grows.{grows_join, grows_one, grows_begins, grows_map}
use Rattle.rules.proofs.Nth.{some_is}
use Rattle.rules.proofs.Compose.{Any, any_within, composed_makes}
use Rattle.rules.proofs.Saturate.{any_closed, Free, took, saturates_grows, saturate_saturates}
use Rattle.rules.proofs.Effects.{knows_right, received_right, overheard_right}

pub begins_length : (s s' : Script) → Begins s s' → length s ≤ length s'
begins_length s s' w = let a = length-append s w.0 in let e : length s' ≡ length (s ++ w.0) = ap length w.1 in omega arith

-- any line
abbrev Any-line : Script → Line → Type 0
Any-line s l = Unit {0}

pub compose_begins : (s : Script) (t : Term) (c : Composed) → compose s t ≡ Some c → Begins s c.script
compose_begins s t c e = grows_begins (Builds Any) (composed_makes Any s t (any_within t) c e).grows

composed_any : (s : Script) (t : Term) (c : Composed) → compose s t ≡ Some c → Grows Any-line s c.script
composed_any s t c e = grows_map (Builds Any) Any-line (λ x l q. tt) (composed_makes Any s t (any_within t) c e).grows

pub saturates_begins : {s s' : Script} → Saturates s s' → Begins s s'
saturates_begins w = grows_begins (Fits Any Free) (saturates_grows Any any_closed Free (λ t h. tt) w)

pub saturate_begins : (s : Script) → Begins s (saturate s)
saturate_begins s = saturates_begins (saturate_saturates s)

-- a step of saturating adds a line
pub take_longer : (s s1 : Script) → take_apart s ≡ Some s1 → length s < length s1
take_longer s s1 e = let w = took Any any_closed Free s (λ t h. tt) s1 e in go w.grows w.term w.unmade w.made
  where
    go : {x : Script} → Grows (Fits Any Free) s x → (t : Term) → (Composable (held s) t → ⊥) → In t (held x) → length s < length x
    go stays t un h = absurd (un (held_composable (among (held s)) t h))
    go (adds {s1 = y} {l = l} g q) t un h =
        let a = begins_length s y (grows_begins (Fits Any Free) g) in let b = length-append y (l ∷ []) in omega arith

-- walking
walked_any : (s : Script) (op : Op) (t : Term) (next : Script → Script) → Grows Any-line (s then line op (Some t)) (next (s then line op (Some t)))
    → (o : Option Composed) → compose (s then line op None) t ≡ o → Grows Any-line s (walked s op t next o)
walked_any s op t next g None e = grows_join Any-line (grows_one Any-line tt) g
walked_any s op t next g (Some c) e = adds (grows_join Any-line (grows_one Any-line tt) (composed_any (s then line op None) t c e)) tt

walk_any : (t : Term) (s : Script) (op : Op) → Grows Any-line s (walk s op t)
walk_any (name k i) s op = walked_any s op (name k i) (λ x. x) stays (compose (s then line op None) (name k i)) refl
walk_any (built f a b) s op =
    walked_any s op (built f a b) (apart f (length s) b (λ x o. walk x o a) (λ x o. walk x o b)) (go f (walk_any a) (walk_any b))
    (compose (s then line op None) (built f a b)) refl
  where
    opens : (s1 : Script) → ((x : Script) (o : Op) → Grows Any-line x (walk x o a)) → (o : Option Composed) → compose s1 (opener b) ≡ o
        → Grows Any-line s1 (unlocked s1 o (λ x i. walk x (OPEN (length s) i) a))
    opens s1 wa None e = stays
    opens s1 wa (Some c) e = grows_join Any-line (composed_any s1 (opener b) c e) (wa c.script (OPEN (length s) c.slot))

    go : (g : Form) → ((x : Script) (o : Op) → Grows Any-line x (walk x o a)) → ((x : Script) (o : Op) → Grows Any-line x (walk x o b))
        → Grows Any-line (s then line op (Some (built f a b))) (apart g (length s) b (λ x o. walk x o a) (λ x o. walk x o b) (s then line op (Some (built f a b))))
    go pair wa wb =
        let s1 : Script = s then line op (Some (built f a b)) in
        grows_join Any-line (wa s1 (LEFT (length s))) (wb (walk s1 (LEFT (length s)) a) (RIGHT (length s)))
    go sealed wa wb = opens (s then line op (Some (built f a b))) wa (compose (s then line op (Some (built f a b))) (opener b)) refl
    go digest wa wb = stays
    go entry wa wb = stays
walk_any (mate k) s op = walked_any s op (mate k) (λ x. x) stays (compose (s then line op None) (mate k)) refl

pub walk_begins : (s : Script) (op : Op) (t : Term) → Begins s (walk s op t)
walk_begins s op t = grows_begins Any-line (walk_any t s op)

pub knows_begins : (s : Script) (t : Term) → Begins s (knows s t)
knows_begins s t = grows_begins (Fits Any Free) (knows_right Any any_closed Free s t (λ u h. tt) tt tt).grows

pub received_begins : (s : Script) (who m : Term) → Begins s (received s who m)
received_begins s who m = grows_begins (Fits Any Free) (received_right Any any_closed Free s who m (λ u h. tt) tt tt tt tt).grows

pub overheard_begins : (s : Script) (from to m : Term) → Begins s (overheard s from to m)
overheard_begins s from to m = grows_begins (Fits Any Free) (overheard_right Any any_closed Free s from to m (λ u h. tt) tt tt tt tt tt tt).grows

-- fresh names and sending
freshen_any : (s : Script) (t : Term) → Grows Any-line s (freshen s t)
freshen_any s (name party i) = grows_one Any-line tt
freshen_any s (name number i) = grows_one Any-line tt
freshen_any s (name shared i) = grows_one Any-line tt
freshen_any s (name public i) = adds (grows_one Any-line tt) tt
freshen_any s (name table i) = grows_one Any-line tt
freshen_any s (name function i) = grows_one Any-line tt
freshen_any s (built f a b) = grows_one Any-line tt
freshen_any s (mate k) = grows_one Any-line tt

freshens_any : (s : Script) (ts : List Term) → Grows Any-line s (freshens s ts)
freshens_any s [] = stays
freshens_any s (t ∷ ts) = grows_join Any-line (freshen_any s t) (freshens_any (freshen s t) ts)

pub sent_begins : (s : Script) (fresh : List Term) (m : Term) (address : ℕ) (s' : Script) → sent s fresh m address ≡ Some s' → Begins s s'
sent_begins s fresh m address s' e = grows_begins Any-line (go (compose (freshens s fresh) m) refl e)
  where
    go : (o : Option Composed) → compose (freshens s fresh) m ≡ o → sends address o ≡ Some s' → Grows Any-line s s'
    go None q x = absurd (some_none None x refl)
    go (Some c) q x =
        subst (Grows Any-line s) (some_is x) (adds (grows_join Any-line (freshens_any s fresh) (composed_any (freshens s fresh) m c q)) tt)

pub rules_only_append_lem : RulesOnlyAppend
rules_only_append_lem s =
    record {
      composing = compose_begins s;
      saturating = saturate_begins s;
      stepping = take_longer s;
      walking = walk_begins s;
      knowing = knows_begins s;
      receiving = received_begins s;
      overhearing = overheard_begins s;
      sending = sent_begins s;
    }
