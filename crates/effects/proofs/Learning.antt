-- Knowing, receiving and overhearing: what is too long after one call is too long after the next.
use Rattle.std.proofs.Common.{◌≡◌, ℕ, ◌<◌, ◌≤◌, cond, List, [], ◌∷◌, length, is_some, Some, None, Ok, Err, Option, Result, sym, refl, ap, ◌∙◌, subst, arith, length-append}
use Rattle.deduction.specs.Term.{party, Term, name, built, mate, Named}
use Rattle.terms.specs.declared.node.TermNode.{TermNode}
use Rattle.terms.specs.Tree.{tree}
use Rattle.rules.specs.Script.{Op, GIVEN, FROM, TO, RECV, Script as RuleScript, line, ◌then◌}
use Rattle.rules.specs.Compose.{Composed, compose}
use Rattle.rules.specs.Saturate.{saturate}
use Rattle.rules.specs.Walk.{walked, walk}
use Rattle.rules.specs.Effects.{knows, heard_from, received, overhears, overheard}
use Rattle.rules.proofs.Begins.{begins_length, saturate_begins, walk_begins}
use Rattle.scripts.specs.declared.instruction.Instruction.{Instruction}
use Rattle.scripts.specs.declared.instruction.Instruction.TheVariants.{Given}
use Rattle.scripts.specs.declared.instruction.ScriptError.{ScriptError}
use Rattle.scripts.specs.declared.instruction.ScriptError.TheVariants.{Full, Missing}
use Rattle.scripts.specs.declared.script.Script.{Script}
use Rattle.scripts.specs.Composing.{view, AllNamed, OpBelow}
use Rattle.scripts.specs.Lines.{op_of}
use Rattle.scripts.specs.View.{written, Pushed}
use Rattle.scripts.specs.Writing.{Writes, Wrote}
use Rattle.scripts.proofs.Writing.{pushed_writes}
use Rattle.effects.specs.Effects.{Effects}

-- what is too long stays too long
stop_later : (A : Type 0) (ts : List TermNode) (w w' : RuleScript) (s : Script) (e : ScriptError) → length w ≤ length w'
    → Writes {A = A} ts w (Err e) s → Effects ts w' (Err e)
stop_later A ts w w' s Full l p = omega (arith, l, p)
stop_later A ts w w' s (Missing m) l p = absurd p

wrote_stop : (A : Type 0) (ts : List TermNode) (s s1 : Script) (w : RuleScript) (e : ScriptError)
    → Wrote {A = A} ts s w (Err e) s1 → Writes {A = A} ts w (Err e) s1
wrote_stop A ts s s1 w Full p = p.0
wrote_stop A ts s s1 w (Missing m) p = absurd p

saturate_longer : (v : RuleScript) → length v ≤ length (saturate v)
saturate_longer v = begins_length v (saturate v) (saturate_begins v)

walk_longer : (v : RuleScript) (op : Op) (t : Term) → length v ≤ length (walk v op t)
walk_longer v op t = begins_length v (walk v op t) (walk_begins v op t)

-- what cannot be composed is written
knows_unknown : (v : RuleScript) (t : Term) → compose v t ≡ None → knows v t ≡ saturate (v then line (GIVEN t) (Some t))
knows_unknown v t e = ap (λ o. cond (is_some o) v (saturate (v then line (GIVEN t) (Some t)))) e

overhears_unknown : (v : RuleScript) (op : Op) (t : Term) → compose v t ≡ None → overhears v op t ≡ (v then line op (Some t))
overhears_unknown v op t e = ap (λ o. cond (is_some o) v (v then line op (Some t))) e

-- what can be composed writes nothing
pub knows_composed : (v : RuleScript) (t : Term) (c : Composed) → compose v t ≡ Some c → v ≡ knows v t
knows_composed v t c e = sym (ap (λ o. cond (is_some o) v (saturate (v then line (GIVEN t) (Some t)))) e)

pub overhears_composed : (v : RuleScript) (op : Op) (t : Term) (c : Composed) → compose v t ≡ Some c → v ≡ overhears v op t
overhears_composed v op t c e = sym (ap (λ o. cond (is_some o) v (v then line op (Some t))) e)

-- initial knowledge
module _ (ts : List TermNode) (s s1 : Script) (t : ℕ) (lt : t < length ts) (known : AllNamed (length ts) (written s)) (none : compose (view ts s) (tree ts t) ≡ None) where
  pub know_stop : (e : ScriptError) → Pushed s (record { op = Given t; holds = Some t }) (Err e) s1 → Effects ts (knows (view ts s) (tree ts t)) (Err e)
  know_stop e p =
      let w : RuleScript = view ts s then line (GIVEN (tree ts t)) (Some (tree ts t)) in
      stop_later ℕ ts w (knows (view ts s) (tree ts t)) s1 e
      (omega (arith, saturate_longer w, ap length (knows_unknown (view ts s) (tree ts t) none)))
      (pushed_writes ts s s1 (record { op = Given t; holds = Some t }) (Err e) p known (lt, lt))

  pub know_on : (n : ℕ) → Pushed s (record { op = Given t; holds = Some t }) (Ok n) s1 → (r : Result Script ScriptError)
      → (AllNamed (length ts) (written s1) → Effects ts (saturate (view ts s1)) r) → Effects ts (knows (view ts s) (tree ts t)) r
  know_on n p r on =
      let w = pushed_writes ts s s1 (record { op = Given t; holds = Some t }) (Ok n) p known (lt, lt) in
      subst (λ v. Effects ts v r) (ap saturate w.0 ∙ sym (knows_unknown (view ts s) (tree ts t) none)) (on w.1)

-- overhearing one term
module _ (ts : List TermNode) (s s1 : Script) (op : Instruction) (t : ℕ) (lt : t < length ts) (known : AllNamed (length ts) (written s)) (below : OpBelow (length ts) op)
    (none : compose (view ts s) (tree ts t) ≡ None) where
  pub hold_stop : (e : ScriptError) → Pushed s (record { op = op; holds = Some t }) (Err e) s1
      → Writes {A = Unit {0}} ts (overhears (view ts s) (op_of (tree ts) op) (tree ts t)) (Err e) s1
  hold_stop Full p =
      let w : 512 < length (view ts s then line (op_of (tree ts) op) (Some (tree ts t))) =
      pushed_writes ts s s1 (record { op = op; holds = Some t }) (Err Full) p known (lt, below) in
      omega (arith, w, ap length (overhears_unknown (view ts s) (op_of (tree ts) op) (tree ts t) none))
  hold_stop (Missing m) p = absurd p

  pub hold_on : (n : ℕ) → Pushed s (record { op = op; holds = Some t }) (Ok n) s1
      → Writes {A = Unit {0}} ts (overhears (view ts s) (op_of (tree ts) op) (tree ts t)) (Ok tt) s1
  hold_on n p =
      let w = pushed_writes ts s s1 (record { op = op; holds = Some t }) (Ok n) p known (lt, below) in
      (w.0 ∙ sym (overhears_unknown (view ts s) (op_of (tree ts) op) (tree ts t) none), w.1)

-- overhearing makes a script no shorter
overhears_longer : (v : RuleScript) (op : Op) (t : Term) → length v ≤ length (overhears v op t)
overhears_longer v op t = go (compose v t)
  where
    go : (o : Option Composed) → length v ≤ length (cond (is_some o) v (v then line op (Some t)))
    go None = omega (arith, length-append v (line op (Some t) ∷ []))
    go (Some c) = omega arith

-- the listener's script, from one term to the next
module _ (ts : List TermNode) (v : RuleScript) (from to m : Term) where
  longer_third : length (overhears (overhears (overhears v (FROM from) from) (TO to) to) (RECV m) m) ≤ length (overheard v from to m)
  longer_third = saturate_longer (overhears (overhears (overhears v (FROM from) from) (TO to) to) (RECV m) m)

  longer_second : length (overhears (overhears v (FROM from) from) (TO to) to) ≤ length (overheard v from to m)
  longer_second = omega (arith, longer_third, overhears_longer (overhears (overhears v (FROM from) from) (TO to) to) (RECV m) m)

  longer_first : length (overhears v (FROM from) from) ≤ length (overheard v from to m)
  longer_first = omega (arith, longer_second, overhears_longer (overhears v (FROM from) from) (TO to) to)

  pub overheard_stop_first : (s1 : Script) (e : ScriptError) → Writes {A = Unit {0}} ts (overhears v (FROM from) from) (Err e) s1 → Effects ts (overheard v from to m) (Err e)
  overheard_stop_first s1 e p = stop_later (Unit {0}) ts (overhears v (FROM from) from) (overheard v from to m) s1 e longer_first p

  module _ (v1 : RuleScript) (one : v1 ≡ overhears v (FROM from) from) where
    pub overheard_stop_second : (s2 : Script) (e : ScriptError) → Writes {A = Unit {0}} ts (overhears v1 (TO to) to) (Err e) s2 → Effects ts (overheard v from to m) (Err e)
    overheard_stop_second s2 e p =
        stop_later (Unit {0}) ts (overhears v1 (TO to) to) (overheard v from to m) s2 e
        (omega (arith, longer_second, ap (λ x. length (overhears x (TO to) to)) one)) p

    module _ (v2 : RuleScript) (two : v2 ≡ overhears v1 (TO to) to) where
      both : v2 ≡ overhears (overhears v (FROM from) from) (TO to) to
      both = two ∙ ap (λ x. overhears x (TO to) to) one

      pub overheard_stop_third : (s3 : Script) (e : ScriptError) → Writes {A = Unit {0}} ts (overhears v2 (RECV m) m) (Err e) s3 → Effects ts (overheard v from to m) (Err e)
      overheard_stop_third s3 e p =
          stop_later (Unit {0}) ts (overhears v2 (RECV m) m) (overheard v from to m) s3 e
          (omega (arith, longer_third, ap (λ x. length (overhears x (RECV m) m)) both)) p

      pub overheard_on : (v3 : RuleScript) → v3 ≡ overhears v2 (RECV m) m → (r : Result Script ScriptError) → Effects ts (saturate v3) r → Effects ts (overheard v from to m) r
      overheard_on v3 three r p = subst (λ x. Effects ts x r) (ap saturate (three ∙ ap (λ x. overhears x (RECV m) m) both)) p

-- the sender's name is walked
heard_walk : (v : RuleScript) (who : Term) → Named party who → heard_from v who (compose (v then line (FROM who) None) who) ≡ walk v (FROM who) who
heard_walk v (name k i) n = go (compose (v then line (FROM (name k i)) None) (name k i))
  where
    go : (o : Option Composed) → heard_from v (name k i) o ≡ walked v (FROM (name k i)) (name k i) (λ x. x) o
    go None = refl
    go (Some c) = refl
heard_walk v (built f a b) n = absurd n
heard_walk v (mate k) n = absurd n

-- the receiver's script, from the sender's name to the message
module _ (ts : List TermNode) (v : RuleScript) (who m : Term) (named : Named party who) where
  received_walk : received v who m ≡ saturate (walk (walk v (FROM who) who) (RECV m) m)
  received_walk = ap (λ w. saturate (walk w (RECV m) m)) (heard_walk v who named)

  walks_second : length (walk (walk v (FROM who) who) (RECV m) m) ≤ length (received v who m)
  walks_second = omega (arith, saturate_longer (walk (walk v (FROM who) who) (RECV m) m), ap length received_walk)

  walks_first : length (walk v (FROM who) who) ≤ length (received v who m)
  walks_first = omega (arith, walks_second, walk_longer (walk v (FROM who) who) (RECV m) m)

  pub received_stop_first : (s s1 : Script) (e : ScriptError) → Wrote {A = Unit {0}} ts s (walk v (FROM who) who) (Err e) s1 → Effects ts (received v who m) (Err e)
  received_stop_first s s1 e p =
      stop_later (Unit {0}) ts (walk v (FROM who) who) (received v who m) s1 e walks_first (wrote_stop (Unit {0}) ts s s1 (walk v (FROM who) who) e p)

  module _ (v1 : RuleScript) (one : v1 ≡ walk v (FROM who) who) where
    pub received_stop_second : (s1 s2 : Script) (e : ScriptError) → Wrote {A = Unit {0}} ts s1 (walk v1 (RECV m) m) (Err e) s2 → Effects ts (received v who m) (Err e)
    received_stop_second s1 s2 e p =
        stop_later (Unit {0}) ts (walk v1 (RECV m) m) (received v who m) s2 e
        (omega (arith, walks_second, ap (λ x. length (walk x (RECV m) m)) one)) (wrote_stop (Unit {0}) ts s1 s2 (walk v1 (RECV m) m) e p)

    pub received_on : (v2 : RuleScript) → v2 ≡ walk v1 (RECV m) m → (r : Result Script ScriptError) → Effects ts (saturate v2) r → Effects ts (received v who m) r
    received_on v2 two r p =
        subst (λ x. Effects ts x r) (ap saturate (two ∙ ap (λ x. walk x (RECV m) m) one) ∙ sym received_walk) p
