-- Composing by numbers is composing by the rules.
use Rattle.std.proofs.Common.{◌≡◌, ℕ, ◌<◌, ◌≤◌, List, [], ◌∷◌, ◌++◌, length, Some, None, Ok, Err, Option, Result, sym, refl, ap, ◌∙◌, ap₂, append_assoc, append-nil, arith, length-append}
use Rattle.deduction.specs.Term.{Form, Term, name, built, mate}
use Rattle.terms.specs.declared.node.Form.{Form as NodeForm}
use Rattle.terms.specs.declared.node.TermNode.{TermNode}
use Rattle.terms.specs.declared.node.TermNode.TheVariants.{Name, Built, Mate}
use Rattle.terms.specs.Node.{node_at}
use Rattle.terms.specs.Tree.{tree, form_of, Orderly}
use Rattle.terms.proofs.Trees.{tree_at, parts_lower}
use Rattle.rules.specs.Script.{Script as RuleScript, find, line, ◌then◌, builder}
use Rattle.rules.specs.Compose.{Composed, composed_at, compose, both, whole, leaf}
use Rattle.rules.specs.Grows.{Builds}
use Rattle.rules.proofs.Compose.{Any, any_within, composed_makes}
use Rattle.rules.proofs.Grows.{grows_begins}
use Rattle.scripts.specs.declared.instruction.Line.{Line}
use Rattle.scripts.specs.declared.instruction.ScriptError.{ScriptError}
use Rattle.scripts.specs.declared.instruction.ScriptError.TheVariants.{Full, Missing}
use Rattle.scripts.specs.declared.script.Script.{Script}
use Rattle.scripts.specs.Composing.{view, LineBelow, AllNamed, Begins, IsTerm, HoldsTerms, Puts}
use Rattle.scripts.specs.Lines.{slot_of, script_of, building}
use Rattle.scripts.specs.View.{written, Pushed}
use Rattle.scripts.proofs.View.{length_view, view_append, view_builder, named_more, known_more, slot_find}

pub begins_on : (ls ms ns : List Line) → Begins ls ms → Begins ms ns → Begins ls ns
begins_on ls ms ns a b = (a.0 ++ b.0, b.1 ∙ ap (λ v. v ++ b.0) a.1 ∙ append_assoc ls a.0 b.0)

-- the rules, by what is found
pub composed_found : (s : RuleScript) (t : Term) (n : ℕ) → find s t ≡ Some n → compose s t ≡ Some (composed_at n s)
composed_found s (name k i) n e = rw e refl
composed_found s (built f a b) n e = rw e refl
composed_found s (mate k) n e = rw e refl

composed_built : (s : RuleScript) (f : Form) (a b : Term) → find s (built f a b) ≡ None → compose s (built f a b) ≡ both f (built f a b) (compose s a) (λ s1. compose s1 b)
composed_built s f a b e = rw e refl

abbrev script_from : Option Composed → RuleScript
script_from None = []
script_from (Some c) = c.script

-- composing makes a script no shorter
pub grows_length : (s : RuleScript) (t : Term) (c : Composed) → compose s t ≡ Some c → length s ≤ length c.script
grows_length s t c e =
    let w = grows_begins (Builds Any) (composed_makes Any s t (any_within t) c e).grows in
    omega (arith, ap length w.1, length-append s w.0)

-- what is known where a term is looked for among the slots
pub record Sought (ts : List TermNode) (s : Script) (t : ℕ) : Type 0 where
  pub ok : Orderly ts
  pub term : IsTerm ts t
  pub holds : HoldsTerms ts s

pub sought : {ts : List TermNode} (ok : Orderly ts) (s : Script) (t : ℕ) → IsTerm ts t → HoldsTerms ts s → Sought ts s t
sought ok s t l k = record { ok = ok; term = l; holds = k }

-- a slot holds it
pub put_found : {ts : List TermNode} {s : Script} {t : ℕ} (h : Sought ts s t) (n : ℕ) → Some n ≡ slot_of 0 (written s) t → Puts ts s t (Ok n) s
put_found {ts} {s} {t} h n e = (composed_found (view ts s) (tree ts t) n (sym (slot_find ts h.ok t h.term (written s) h.holds) ∙ sym e), h.holds)

not_found : {ts : List TermNode} {s : Script} {t : ℕ} (h : Sought ts s t) → None ≡ slot_of 0 (written s) t → find (view ts s) (tree ts t) ≡ None
not_found {ts} {s} {t} h none = sym (slot_find ts h.ok t h.term (written s) h.holds) ∙ sym none

-- a name or a mate that no slot holds
pub put_missing : {ts : List TermNode} {s : Script} {t : ℕ} (h : Sought ts s t) → None ≡ slot_of 0 (written s) t
    → (m : ℕ) (s' : Script) → ((g : NodeForm) (a b : ℕ) → node_at ts t ≡ Built g a b → ⊥) → Puts ts s t (Err (Missing m)) s'
put_missing {ts} {s} {t} h none m s' nb = by (node_at ts t) refl nb
  where
    by : (r : TermNode) → node_at ts t ≡ r → ((g : NodeForm) (a b : ℕ) → r ≡ Built g a b → ⊥) → compose (view ts s) (tree ts t) ≡ None
    by (Name k i) e nb = let q = tree_at ts h.ok.lower t (Name k i) h.term e in ap (compose (view ts s)) q ∙ ap (leaf (view ts s)) (ap (find (view ts s)) (sym q) ∙ not_found h none)
    by (Built g a b) e nb = absurd (nb g a b refl)
    by (Mate k) e nb = let q = tree_at ts h.ok.lower t (Mate k) h.term e in ap (compose (view ts s)) q ∙ ap (leaf (view ts s)) (ap (find (view ts s)) (sym q) ∙ not_found h none)

-- a two-part term that no slot holds: what composing its parts makes of the script
pub record Apart (ts : List TermNode) (s : Script) (t : ℕ) (g : NodeForm) (a b : ℕ) : Type 0 where
  pub first : IsTerm ts a
  pub second : IsTerm ts b
  pub parts : compose (view ts s) (tree ts t) ≡ both (form_of g) (tree ts t) (compose (view ts s) (tree ts a)) (λ s1. compose s1 (tree ts b))

pub apart_at : {ts : List TermNode} {s : Script} {t : ℕ} {g : NodeForm} {a b : ℕ} (h : Sought ts s t) → None ≡ slot_of 0 (written s) t → node_at ts t ≡ Built g a b → Apart ts s t g a b
apart_at {ts} {s} {t} {g} {a} {b} h none node =
    let p = parts_lower ts h.ok.lower t g a b h.term node in
    let e = tree_at ts h.ok.lower t (Built g a b) h.term node in
    record {
      first = omega (arith, p.0, h.term);
      second = omega (arith, p.1, h.term);
      parts = ap (compose (view ts s)) e
          ∙ composed_built (view ts s) (form_of g) (tree ts a) (tree ts b) (ap (find (view ts s)) (sym e) ∙ not_found h none)
          ∙ ap (λ v. both (form_of g) v (compose (view ts s) (tree ts a)) (λ s1. compose s1 (tree ts b))) (sym e);
    }

module _ {ts : List TermNode} {s : Script} {t : ℕ} {g : NodeForm} {a b : ℕ} (h : Apart ts s t g a b) where
  -- the first part is stopped
  long_first : (o : Option Composed) → ((c : Composed) → o ≡ Some c → 512 < length c.script) → (c : Composed) → both (form_of g) (tree ts t) o (λ s1. compose s1 (tree ts b)) ≡ Some c → 512 < length c.script
  long_first None h c e = let z : ◌≡◌ {A = ℕ} 0 1 = cc in absurd (omega (arith, z))
  long_first (Some x) h c e = long_second x.script x.slot (compose x.script (tree ts b)) refl (h x refl) c e
    where
      long_second : (s1 : RuleScript) (i : ℕ) (o : Option Composed) → compose s1 (tree ts b) ≡ o → 512 < length s1 → (c : Composed) → whole (form_of g) (tree ts t) i o ≡ Some c → 512 < length c.script
      long_second s1 i None eo l c e = let z : ◌≡◌ {A = ℕ} 0 1 = cc in absurd (omega (arith, z))
      long_second s1 i (Some y) eo l c e =
          let n = grows_length s1 (tree ts b) y eo in
          let q = ap script_from e in
          omega (arith, l, n, ap length q, length-append y.script (line (builder (form_of g) i y.slot) (Some (tree ts t)) ∷ []))

  pub first_stopped : (e : ScriptError) (s1 : Script) → Puts ts s a (Err e) s1 → Puts ts s t (Err e) s1
  first_stopped Full s1 p = λ c q. long_first (compose (view ts s) (tree ts a)) p c (sym h.parts ∙ q)
  first_stopped (Missing m) s1 p = h.parts ∙ ap (λ v. both (form_of g) (tree ts t) v (λ s1. compose s1 (tree ts b))) p

  module _ {i : ℕ} (s1 : Script) (first : Puts ts s a (Ok i) s1) where
    then_second : compose (view ts s) (tree ts t) ≡ whole (form_of g) (tree ts t) i (compose (view ts s1) (tree ts b))
    then_second = h.parts ∙ ap (λ v. both (form_of g) (tree ts t) v (λ s2. compose s2 (tree ts b))) first.0

    -- the second part is stopped
    long_whole : (o : Option Composed) → ((c : Composed) → o ≡ Some c → 512 < length c.script) → (c : Composed) → whole (form_of g) (tree ts t) i o ≡ Some c → 512 < length c.script
    long_whole None h c e = let z : ◌≡◌ {A = ℕ} 0 1 = cc in absurd (omega (arith, z))
    long_whole (Some y) h c e =
        let l = h y refl in
        let q = ap script_from e in
        omega (arith, l, ap length q, length-append y.script (line (builder (form_of g) i y.slot) (Some (tree ts t)) ∷ []))

    pub second_stopped : (e : ScriptError) (s2 : Script) → Puts ts s1 b (Err e) s2 → Puts ts s t (Err e) s2
    second_stopped Full s2 p = λ c q. long_whole (compose (view ts s1) (tree ts b)) p c (sym then_second ∙ q)
    second_stopped (Missing m) s2 p = then_second ∙ ap (whole (form_of g) (tree ts t) i) p

    module _ {j : ℕ} (s2 : Script) (second : Puts ts s1 b (Ok j) s2) where
      then_whole : compose (view ts s) (tree ts t) ≡ Some (composed_at (length (view ts s2)) (view ts s2 then line (builder (form_of g) i j) (Some (tree ts t))))
      then_whole = then_second ∙ ap (whole (form_of g) (tree ts t) i) second.0

      -- the whole is written, or there is no room for it
      pub wrote : IsTerm ts t → (r : Result ℕ ScriptError) (s3 : Script) → Pushed s2 (record { op = building g i j; holds = Some t }) r s3 → Puts ts s t r s3
      wrote lt (Ok n) s3 p =
          let l : Line = record { op = building g i j; holds = Some t } in
          let v : view ts s3 ≡ (view ts s2 then line (builder (form_of g) i j) (Some (tree ts t))) =
          ap (script_of (tree ts)) p.2 ∙ view_append (tree ts) (written s2) (l ∷ []) ∙ ap (λ o. view ts s2 then line o (Some (tree ts t))) (view_builder (tree ts) g i j) in
          let e : n ≡ length (view ts s2) = p.0 ∙ sym (length_view (tree ts) (written s2)) in (
            then_whole ∙ ap₂ (λ m w. Some (composed_at m w)) (sym e) (sym v),
            rw p.2 (known_more (length ts) (written s2) l second.1 lt),
          )
      wrote lt (Err Full) s3 p = λ c q.
          let u = ap script_from (sym then_whole ∙ q) in
          omega (arith, p.0, length_view (tree ts) (written s2), ap length u, length-append (view ts s2) (line (builder (form_of g) i j) (Some (tree ts t)) ∷ []))
      wrote lt (Err (Missing m)) s3 p = absurd p

-- what a push leaves begins with what there was
pub pushed_begins : (s s1 : Script) (l : Line) (r : Result ℕ ScriptError) → Pushed s l r s1 → Begins (written s) (written s1)
pushed_begins s s1 l (Ok n) p = (l ∷ [], p.2)
pushed_begins s s1 l (Err Full) p = ([], ap written p.1 ∙ sym (append-nil (written s)))
pushed_begins s s1 l (Err (Missing m)) p = absurd p

-- a push keeps every named term among the first n, whether there is room for it or not
pub pushed_named : (n : ℕ) (s s1 : Script) (l : Line) (r : Result ℕ ScriptError) → Pushed s l r s1 → LineBelow n l → AllNamed n (written s) → AllNamed n (written s1)
pushed_named n s s1 l (Ok m) p b k = rw p.2 (named_more n (written s) l k b)
pushed_named n s s1 l (Err Full) p b k = rw p.1 k
pushed_named n s s1 l (Err (Missing m)) p b k = absurd p
