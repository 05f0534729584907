-- What is missing by numbers is what is missing by the rules.
use Rattle.std.proofs.Common.{◌≡◌, ℕ, ◌<◌, ◌≤◌, Bool, true, false, ◌⊎◌, List, [], ◌∷◌, length, get_or, is_some, Some, None, Option, sym, refl, ap, ◌∙◌, inl, inr, arith}
use mathlib.Core.Bool.{false≢true}
use Rattle.deduction.specs.Term.{Term, name, built, mate, In, among}
use Rattle.deduction.specs.Compose.{Composable}
use Rattle.deduction.proofs.Compose.{composable_map}
use Rattle.terms.specs.declared.node.TermNode.{TermNode}
use Rattle.terms.specs.Held.{held_terms, FirstMissing, Misses}
use Rattle.terms.specs.Tree.{tree, Orderly}
use Rattle.terms.proofs.Composed.{held_number, number_held}
use Rattle.terms.proofs.Missing.{missing_composable}
use Rattle.rules.specs.Script.{Script as RuleScript, find, held, holding}
use Rattle.rules.specs.Compose.{Composed, compose, missing, or_else}
use Rattle.rules.proofs.Compose.{composes_decides, missing_right, MissingRight}
use Rattle.rules.proofs.Find.{find_holds, held_find, holds_held}
use Rattle.scripts.specs.declared.instruction.Line.{Line}
use Rattle.scripts.specs.declared.script.Script.{Script}
use Rattle.scripts.specs.Composing.{view, Below, AllKnown, HeldMarks, Lacks}
use Rattle.scripts.specs.Lines.{held_of, script_of}
use Rattle.scripts.specs.View.{written}
use Rattle.scripts.proofs.View.{slot_find}

-- no slot holds what is not held
unheld_unfound : (s : RuleScript) (t : Term) → (In t (held s) → ⊥) → find s t ≡ None
unheld_unfound s t nh = by (find s t) refl
  where
    by : (o : Option ℕ) → find s t ≡ o → o ≡ None
    by None e = refl
    by (Some n) e = absurd (nh (holds_held s n t (find_holds s t n e)))

-- what is composable is composed
pub composable_composed : (s : RuleScript) (t : Term) → Composable (held s) t → (c : Composed) × (compose s t ≡ Some c)
composable_composed s t m = by (compose s t) refl ((composes_decides s t).1 m)
  where
    by : (o : Option Composed) → compose s t ≡ o → is_some o ≡ true → (c : Composed) × (compose s t ≡ Some c)
    by None e y = absurd (false≢true y)
    by (Some c) e y = (c, e)

-- the missing term of the rules, where the same terms are held
module _ (s : RuleScript) (hs : List Term) (same : (u : Term) → In u (held s) → In u hs) (back : (u : Term) → In u hs → In u (held s)) where
  none_missing : (t : Term) → Composable hs t → missing s t ≡ None
  none_missing t c = by (missing s t) (missing_right s t)
    where
      by : (o : Option Term) → MissingRight s t o → o ≡ None
      by None m = refl
      by (Some u) m = absurd (m.0 (composable_map (among hs) (among (held s)) back t c))

  first_missing_lem : (t m : Term) → FirstMissing hs t m → missing s t ≡ Some m
  first_missing_lem (name k i) m f = rw (unheld_unfound s (name k i) (λ h. f.0 (same (name k i) h))) (ap Some (sym f.1))
  first_missing_lem (built g a b) m f =
      rw (unheld_unfound s (built g a b) (λ h. f.0 (same (built g a b) h)))
      (either f.1 (λ p. first_missing_lem a m p) (λ p. first_missing_lem b m p))
    where
      either : FirstMissing hs a m ⊎ (Composable hs a × FirstMissing hs b m) → (FirstMissing hs a m → missing s a ≡ Some m) → (FirstMissing hs b m → missing s b ≡ Some m) → or_else (missing s a) (missing s b) ≡ Some m
      either (inl p) fa fb = rw (fa p) refl
      either (inr p) fa fb = rw (none_missing a p.0) (fb p.1)
  first_missing_lem (mate k) m f = rw (unheld_unfound s (mate k) (λ h. f.0 (same (mate k) h))) (ap Some (sym f.1))

-- a held term is that of a number that some line holds
pub held_view : (T : ℕ → Term) (n : ℕ) (ls : List Line) → AllKnown n ls → (u : Term) → In u (held (script_of T ls)) → (m : ℕ) × (m < n) × (T m ≡ u)
held_view T n [] k u h = absurd h
held_view T n (l ∷ ls) k u h = by l.holds k.0 h (held_view T n ls k.1 u)
  where
    by : (o : Option ℕ) → Below n o → In u (holding (held_of T o) (held (script_of T ls))) → (In u (held (script_of T ls)) → (m : ℕ) × (m < n) × (T m ≡ u)) → (m : ℕ) × (m < n) × (T m ≡ u)
    by None b h rest = rest h
    by (Some m) b (inl e) rest = (m, b, e)
    by (Some m) b (inr h) rest = rest h

module _ (ts : List TermNode) (ok : Orderly ts) (few : length ts ≤ 512) (s : Script) (known : AllKnown (length ts) (written s)) (marks : List Bool) (marked : HeldMarks (written s) marks) where
  -- a number is marked exactly if its term is held
  mark_find : (m : ℕ) → m < length ts → get_or marks m false ≡ is_some (find (view ts s) (tree ts m))
  mark_find m l = marked.marks m (omega (arith, l, few)) ∙ ap is_some (slot_find ts ok m l (written s) known)

  pub to_marks : (u : Term) → In u (held (view ts s)) → In u (held_terms ts marks)
  to_marks u h =
      let w = held_view (tree ts) (length ts) (written s) known u h in
      let hm : In (tree ts w.0) (held (view ts s)) = rw w.2 h in
      let f = held_find (view ts s) (tree ts w.0) hm in
      let e : In (tree ts w.0) (held_terms ts marks) = number_held ts marks w.0 w.1 (mark_find w.0 w.1 ∙ ap is_some f.1) in
      rw w.2 at e

  pub from_marks : (u : Term) → In u (held_terms ts marks) → In u (held (view ts s))
  from_marks u h =
      let w = held_number ts marks u h in
      let e : In (tree ts w.0) (held (view ts s)) = by (tree ts w.0) (find (view ts s) (tree ts w.0)) refl (sym (mark_find w.0 w.1) ∙ w.2) in
      rw w.3 at e
    where
      by : (t : Term) (o : Option ℕ) → find (view ts s) t ≡ o → is_some o ≡ true → In t (held (view ts s))
      by t None q e = absurd (false≢true e)
      by t (Some n) q e = holds_held (view ts s) n t (find_holds (view ts s) t n q)

  pub lacks : (t : ℕ) → t < length ts → (r : Option ℕ) → Misses ts marks t r → Lacks ts s t r
  lacks t l None m = composable_composed (view ts s) (tree ts t) (composable_map (among (held_terms ts marks)) (among (held (view ts s))) from_marks (tree ts t) (m l))
  lacks t l (Some x) m = (
    m.1,
    first_missing_lem (view ts s) (held_terms ts marks) to_marks from_marks (tree ts t) (tree ts x) m.2,
    nothing (compose (view ts s) (tree ts t)) refl,
  )
    where
      nothing : (o : Option Composed) → compose (view ts s) (tree ts t) ≡ o → o ≡ None
      nothing None e = refl
      nothing (Some c) e =
          let d = (composes_decides (view ts s) (tree ts t)).0 (ap is_some e) in
          absurd (missing_composable (held_terms ts marks) (tree ts t) (tree ts x) m.2 (composable_map (among (held (view ts s))) (among (held_terms ts marks)) to_marks (tree ts t) d))
