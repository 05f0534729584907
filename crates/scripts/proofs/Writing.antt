-- Writing line by line, and what is too long.
use Rattle.std.proofs.Common.{◌≡◌, ℕ, ◌<◌, ◌≤◌, List, [], ◌∷◌, length, Some, None, Ok, Err, Option, Result, sym, refl, ap, ◌∙◌, subst, arith, length-append, length-take-le}
use Rattle.terms.specs.declared.node.TermNode.{TermNode}
use Rattle.terms.specs.Tree.{tree}
use Rattle.rules.specs.Script.{OPEN, Script as RuleScript, line, ◌then◌}
use Rattle.rules.specs.Compose.{Composed, compose}
use Rattle.rules.specs.Saturate.{opened, take_apart, Saturates, done, more, saturate}
use Rattle.rules.proofs.Saturate.{saturate_saturates, saturates_one}
use Rattle.rules.proofs.Nth.{some_is}
use Rattle.rules.proofs.Begins.{begins_length, saturates_begins}
use Rattle.scripts.specs.declared.instruction.Instruction.TheVariants.{Open}
use Rattle.scripts.specs.declared.instruction.Line.{Line}
use Rattle.scripts.specs.declared.instruction.ScriptError.{ScriptError}
use Rattle.scripts.specs.declared.instruction.ScriptError.TheVariants.{Full, Missing}
use Rattle.scripts.specs.declared.script.Script.{Script}
use Rattle.scripts.specs.Composing.{view, LineBelow, AllNamed, Puts}
use Rattle.scripts.specs.Lines.{line_of, script_of}
use Rattle.scripts.specs.View.{written, Pushed}
use Rattle.scripts.specs.declared.instruction.Taking.{Taking}
use Rattle.scripts.specs.Writing.{Writes, taken, Takes}
use Rattle.scripts.proofs.View.{length_view, view_append, named_more}

-- a pushed line is written by the rules' line
pub pushed_writes : (ts : List TermNode) (s s1 : Script) (l : Line) (r : Result ℕ ScriptError) → Pushed s l r s1 → AllNamed (length ts) (written s) → LineBelow (length ts) l
    → Writes ts (view ts s then line_of (tree ts) l) r s1
pushed_writes ts s s1 l (Ok n) p k b =
    (ap (script_of (tree ts)) p.2 ∙ view_append (tree ts) (written s) (l ∷ []), rw p.2 (named_more (length ts) (written s) l k b))
pushed_writes ts s s1 l (Err Full) p k b =
    omega (arith, p.0, length_view (tree ts) (written s), length-append (view ts s) (line_of (tree ts) l ∷ []))
pushed_writes ts s s1 l (Err (Missing m)) p k b = absurd p

-- a half is taken by one line
pub half_writes : (ts : List TermNode) (s s1 : Script) (t u : Taking) (l : Line) (r : Result ℕ ScriptError) → t ≡ u → Pushed s l r s1 → AllNamed (length ts) (written s)
    → LineBelow (length ts) l → taken ts (view ts s) u ≡ Some (view ts s then line_of (tree ts) l) → (w : RuleScript) → taken ts (view ts s) t ≡ Some w → Writes ts w r s1
half_writes ts s s1 t u l r e p k b x w q =
    subst (λ y. Writes ts y r s1) (some_is (sym x ∙ (sym (ap (taken ts (view ts s)) e) ∙ q))) (pushed_writes ts s s1 l r p k b)

-- opening: the opener composed, then the line
module _ (ts : List TermNode) (s : Script) (slot o c : ℕ) (w : RuleScript) (e : opened slot (tree ts c) (compose (view ts s) (tree ts o)) ≡ Some w) where
  pub open_stopped : (x : ScriptError) (s1 : Script) → Puts ts s o (Err x) s1 → Writes {A = ℕ} ts w (Err x) s1
  open_stopped Full s1 p = go (compose (view ts s) (tree ts o)) refl e
    where
      go : (m : Option Composed) → compose (view ts s) (tree ts o) ≡ m → opened slot (tree ts c) m ≡ Some w → 512 < length w
      go None q h = let z : ◌≡◌ {A = ℕ} 0 1 = cc in absurd (omega arith)
      go (Some d) q h =
          let x = p d q in
          let y : (d.script then line (OPEN slot d.slot) (Some (tree ts c))) ≡ w = cc in
          omega (arith, x, ap length y, length-append d.script (line (OPEN slot d.slot) (Some (tree ts c)) ∷ []))
  open_stopped (Missing m) s1 p = let z : ◌≡◌ {A = ℕ} 0 1 = cc (e, ap (opened slot (tree ts c)) p) in absurd (omega arith)

  pub open_written : (i : ℕ) (s1 : Script) → Puts ts s o (Ok i) s1 → AllNamed (length ts) (written s1) → c < length ts → (r : Result ℕ ScriptError) (s2 : Script)
      → Pushed s1 (record { op = Open slot i; holds = Some c }) r s2 → Writes ts w r s2
  open_written i s1 p k lc r s2 q =
      let y : (view ts s1 then line (OPEN slot i) (Some (tree ts c))) ≡ w = cc (e, ap (opened slot (tree ts c)) p.0) in
      subst (λ u. Writes ts u r s2) y (pushed_writes ts s1 s2 (record { op = Open slot i; holds = Some c }) r q k (lc, tt))

-- what is too long after a step is too long when saturated
pub saturate_long : (v0 v w : RuleScript) → ((u : RuleScript) → Saturates v u → Saturates v0 u) → take_apart v ≡ Some w → 512 < length w → 512 < length (saturate v0)
saturate_long v0 v w on e l =
    let x = on (saturate w) (more e (saturate_saturates w)) in
    let q = saturates_one (saturate_saturates v0) x in
    let b = begins_length w (saturate w) (saturates_begins (saturate_saturates w)) in
    omega (arith, l, b, ap length q)

pub saturate_done : (v0 v : RuleScript) → ((u : RuleScript) → Saturates v u → Saturates v0 u) → take_apart v ≡ None → v ≡ saturate v0
saturate_done v0 v on e = sym (saturates_one (saturate_saturates v0) (on v (done e)))

pub written_few : (s : Script) → length (written s) ≤ 512
written_few s = omega (arith, s.lines.few, length-take-le s.lines.len s.lines.cells (omega (arith, s.lines.size, s.lines.few)))

-- a step of saturating: what saturates the script after it saturates the one before
module _ (ts : List TermNode) (s0 s s1 : Script) (on : (u : RuleScript) → Saturates (view ts s) u → Saturates (view ts s0) u) (t : Taking)
    (n : Takes ts (view ts s) (take_apart (view ts s)) (Some t)) where
  pub take_on : (view ts s1 ≡ n.2.0) × AllNamed (length ts) (written s1) → AllNamed (length ts) (written s1) × ((u : RuleScript) → Saturates (view ts s1) u → Saturates (view ts s0) u)
  take_on w = (w.1, λ u y. on u (more n.2.1 (subst (λ v. Saturates v u) w.0 y)))

  pub take_stopped : (e : ScriptError) → Writes {A = ℕ} ts n.2.0 (Err e) s1 → Writes {A = Unit {0}} ts (saturate (view ts s0)) (Err e) s1
  take_stopped Full w = saturate_long (view ts s0) (view ts s) n.2.0 on n.2.1 w
  take_stopped (Missing m) w = absurd w
