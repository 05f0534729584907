-- Judging by marks is composing by the rules; and what lies past the end of marks.
use Rattle.std.proofs.Common.{◌≡◌, ℕ, zero, suc, ◌≤◌, Bool, true, false, List, [], ◌∷◌, length, get_or, Decides, sym, refl, arith}
use Rattle.deduction.specs.Term.{among}
use Rattle.deduction.proofs.Compose.{composable_map}
use Rattle.terms.specs.declared.node.TermNode.{TermNode}
use Rattle.terms.specs.Held.{held_terms, JudgedBelow}
use Rattle.terms.specs.Tree.{tree, Orderly}
use Rattle.rules.specs.Script.{held}
use Rattle.rules.specs.Compose.{composes}
use Rattle.rules.proofs.Compose.{composes_decides}
use Rattle.scripts.specs.declared.script.Script.{Script}
use Rattle.scripts.specs.Composing.{view, AllKnown, AllNamed, HeldMarks}
use Rattle.scripts.specs.View.{written}
use Rattle.scripts.specs.Writing.{Judged, HeldIn}
use Rattle.scripts.proofs.View.{named_known}
use Rattle.scripts.proofs.Lacking.{to_marks, from_marks, held_view}

-- past the end there is the default
pub get_d_past : {A : Type 0} (xs : List A) (i : ℕ) (d : A) → length xs ≤ i → get_or xs i d ≡ d
get_d_past [] i d l = refl
get_d_past (x ∷ xs) zero d l = absurd (omega arith)
get_d_past (x ∷ xs) (suc i) d l = get_d_past xs i d (omega arith)

-- two tests of facts that follow from each other are equal
pub same_tests : {P Q : Type 0} (a b : Bool) → Decides a P → Decides b Q → (P → Q) → (Q → P) → a ≡ b
same_tests true b da db to back = sym (db.1 (to (da.0 refl)))
same_tests false true da db to back = da.1 (back (db.0 refl))
same_tests false false da db to back = refl

module _ (ts : List TermNode) (ok : Orderly ts) (few : length ts ≤ 512) (s : Script) (known : AllNamed (length ts) (written s)) (marks : List Bool) (marked : HeldMarks (written s) marks) where
  held_known : AllKnown (length ts) (written s)
  held_known = named_known (length ts) (written s) known

  pub judged_view : (js : List Bool) → JudgedBelow ts marks js (length ts) → Judged ts (view ts s) js
  judged_view js j i l =
      same_tests (get_or js i false) (composes (view ts s) (tree ts i)) (j i l) (composes_decides (view ts s) (tree ts i))
      (composable_map (among (held_terms ts marks)) (among (held (view ts s))) (from_marks ts ok few s held_known marks marked) (tree ts i))
      (composable_map (among (held (view ts s))) (among (held_terms ts marks)) (to_marks ts ok few s held_known marks marked) (tree ts i))

-- what a script holds are terms of its table
pub held_in : (ts : List TermNode) (s : Script) → AllNamed (length ts) (written s) → HeldIn ts (view ts s)
held_in ts s known u h = held_view (tree ts) (length ts) (written s) (named_known (length ts) (written s) known) u h
