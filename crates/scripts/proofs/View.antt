-- Scripts by number and scripts by the rules.
use Rattle.std.proofs.Common.{◌≡◌, ℕ, suc, ◌+◌, ◌<◌, Bool, true, false, eqb, List, [], ◌∷◌, ◌++◌, length, Some, None, Option, sym, refl, ap, ◌∙◌, ⊎_elim, eq-eqb, ne_eqb}
use mathlib.Core.Bool.{false≢true}
use Rattle.std.proofs.lemmas.Bool.{cases_eq}
use Rattle.deduction.specs.Term.{Term, term_decision}
use Rattle.terms.specs.declared.node.Form.{Form}
use Rattle.terms.specs.declared.node.Form.TheVariants.{Pair, Sealed, Digest, Entry}
use Rattle.terms.specs.declared.node.TermNode.{TermNode}
use Rattle.terms.specs.Tree.{tree, form_of, Orderly}
use Rattle.terms.proofs.Trees.{numbers_apart}
use Rattle.deduction.specs.Decide.{decided}
use Rattle.rules.specs.Script.{find_from, find, is_term, builder}
use Rattle.scripts.specs.declared.instruction.Line.{Line}
use Rattle.scripts.specs.Composing.{Below, OpBelow, LineBelow, AllKnown, AllNamed}
use Rattle.scripts.specs.Lines.{is_number, slot_of, op_of, held_of, line_of, script_of, building}

pub length_view : (T : ℕ → Term) (ls : List Line) → length (script_of T ls) ≡ length ls
length_view T [] = refl
length_view T (l ∷ ls) = ap suc (length_view T ls)

pub view_append : (T : ℕ → Term) (ls ms : List Line) → script_of T (ls ++ ms) ≡ script_of T ls ++ script_of T ms
view_append T [] ms = refl
view_append T (l ∷ ls) ms = ap (λ v. line_of T l ∷ v) (view_append T ls ms)

pub view_builder : (T : ℕ → Term) (g : Form) (i j : ℕ) → op_of T (building g i j) ≡ builder (form_of g) i j
view_builder T Pair i j = refl
view_builder T Sealed i j = refl
view_builder T Digest i j = refl
view_builder T Entry i j = refl

pub builder_below : (n : ℕ) (g : Form) (i j : ℕ) → OpBelow n (building g i j)
builder_below n Pair i j = tt
builder_below n Sealed i j = tt
builder_below n Digest i j = tt
builder_below n Entry i j = tt

pub named_more : (n : ℕ) (ls : List Line) (l : Line) → AllNamed n ls → LineBelow n l → AllNamed n (ls ++ (l ∷ []))
named_more n [] l k b = (b, tt)
named_more n (m ∷ ls) l k b = (k.0, named_more n ls l k.1 b)

-- where every named term is one of the first n, so is every held one
pub named_known : (n : ℕ) (ls : List Line) → AllNamed n ls → AllKnown n ls
named_known n [] k = tt
named_known n (l ∷ ls) k = (k.0.0, named_known n ls k.1)

pub known_more : (n : ℕ) (ls : List Line) (l : Line) → AllKnown n ls → Below n l.holds → AllKnown n (ls ++ (l ∷ []))
known_more n [] l k b = (b, tt)
known_more n (m ∷ ls) l k b = (k.0, known_more n ls l k.1 b)

-- a number is looked for as its term is
module _ (ts : List TermNode) (ok : Orderly ts) (t : ℕ) (lt : t < length ts) where
  decides : {a b : Term} (d : Dec (a ≡ b)) (p : Bool) → (p ≡ true → a ≡ b) → (a ≡ b → p ≡ true) → p ≡ decided d
  decides (yes e) p f g = g e
  decides (no ne) true f g = absurd (ne (f refl))
  decides (no ne) false f g = refl

  same_number : (u : ℕ) → u < length ts → eqb u t ≡ decided (term_decision (tree ts u) (tree ts t))
  same_number u lu =
      ⊎_elim
      (λ (e : u ≡ t). decides (term_decision (tree ts u) (tree ts t)) (eqb u t) (λ q. ap (tree ts) e) (λ q. eq-eqb u t e))
      (λ (ne : u ≡ t → ⊥).
      decides (term_decision (tree ts u) (tree ts t)) (eqb u t)
      (λ q. absurd (false≢true (sym (ne_eqb u t ne) ∙ q)))
      (λ q. absurd (ne (numbers_apart ts ok u t lu lt q))))
      (cases_eq u t)

  same_held : (h : Option ℕ) → Below (length ts) h → is_number t h ≡ is_term (tree ts t) (held_of (tree ts) h)
  same_held None b = refl
  same_held (Some u) b = same_number u b

  slot_from : (n : ℕ) (ls : List Line) → AllKnown (length ts) ls → slot_of n ls t ≡ find_from n (script_of (tree ts) ls) (tree ts t)
  slot_from n [] k = refl
  slot_from n (l ∷ ls) k = rw (same_held l.holds k.0, slot_from (n + 1) ls k.1) refl

  pub slot_find : (ls : List Line) → AllKnown (length ts) ls → slot_of 0 ls t ≡ find (script_of (tree ts) ls) (tree ts t)
  unfolding find
  slot_find ls k = slot_from 0 ls k
