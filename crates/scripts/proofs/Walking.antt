-- Walking by numbers is walking by the rules.
use Rattle.std.proofs.Common.{◌≡◌, ℕ, ◌<◌, ◌≤◌, true, false, List, [], ◌∷◌, length, is_some, Some, None, Ok, Err, Option, Result, sym, refl, ap, ◌∙◌, subst, ap₂, arith, length-append}
use mathlib.Core.Bool.{false≢true}
use Rattle.deduction.specs.Term.{Form, pair, sealed, digest, entry, Term, name, built, mate, opener, Key, Formed, among}
use Rattle.deduction.proofs.Compose.{composable_map}
use Rattle.terms.specs.declared.node.Form.{Form as NodeForm}
use Rattle.terms.specs.declared.node.Form.TheVariants.{Pair, Sealed}
use Rattle.terms.specs.declared.node.TermNode.{TermNode}
use Rattle.terms.specs.declared.node.TermNode.TheVariants.{Name, Built, Mate as A-MATE}
use Rattle.terms.specs.Node.{node_at}
use Rattle.terms.specs.Outcome.{Opens}
use Rattle.terms.specs.Tree.{tree, form_of, Orderly}
use Rattle.terms.proofs.Formed.{formed}
use Rattle.terms.proofs.Trees.{tree_at, parts_lower}
use Rattle.rules.specs.Script.{Op, LEFT, RIGHT, OPEN, SAME, Script as RuleScript, line, ◌then◌, held}
use Rattle.rules.specs.Compose.{Composed, composed_at, compose}
use Rattle.rules.specs.Walk.{compared, walked, unlocked, apart, walk}
use Rattle.rules.proofs.Compose.{composed_none, composes_decides}
use Rattle.rules.proofs.Find.{held_append}
use Rattle.rules.proofs.Walk.{held_none}
use Rattle.rules.proofs.Nth.{some_is}
use Rattle.rules.proofs.Begins.{begins_length, compose_begins, walk_begins}
use Rattle.scripts.specs.declared.instruction.Instruction.{Instruction}
use Rattle.scripts.specs.declared.instruction.Instruction.TheVariants.{Left, Right, Open, Same}
use Rattle.scripts.specs.declared.instruction.ScriptError.{ScriptError}
use Rattle.scripts.specs.declared.instruction.ScriptError.TheVariants.{Full, Missing}
use Rattle.scripts.specs.declared.script.Script.{Script}
use Rattle.scripts.specs.Composing.{view, AllNamed, IsTerm, OpNames, HoldsTerms, NamesTerms, Puts, Lacks}
use Rattle.scripts.specs.Lines.{op_of}
use Rattle.scripts.specs.View.{written, Pushed}
use Rattle.scripts.specs.Writing.{Writes, Unlocks}
use Rattle.scripts.proofs.View.{length_view, named_known}
use Rattle.scripts.proofs.Lacking.{composable_composed}
use Rattle.scripts.proofs.Composing.{grows_length}
use Rattle.scripts.proofs.Judging.{held_in}
use Rattle.scripts.proofs.Taking.{unopened}
use Rattle.scripts.proofs.Writing.{pushed_writes}

-- a line that holds nothing alters nothing about what can be composed
pub composed_then : (v : RuleScript) (op : Op) (t : Term) (c : Composed) → compose v t ≡ Some c → (d : Composed) × (compose (v then line op None) t ≡ Some d)
composed_then v op t c e =
    composable_composed (v then line op None) t
    (composable_map (among (held v)) (among (held (v then line op None))) (λ u h. held_append v (line op None ∷ []) u h) t ((composes_decides v t).0 (ap is_some e)))

pub uncomposed_then : (v : RuleScript) (op : Op) (t : Term) → compose v t ≡ None → compose (v then line op None) t ≡ None
uncomposed_then v op t e = go (compose (v then line op None) t) refl
  where
    go : (o : Option Composed) → compose (v then line op None) t ≡ o → o ≡ None
    go None q = refl
    go (Some c) q =
        absurd (composed_none v t e (composable_map (among (held (v then line op None))) (among (held v)) (λ u h. held_none v op u h) t ((composes_decides (v then line op None) t).0 (ap is_some q))))

-- comparing: the instruction, the term composed, SAME
module _ (ts : List TermNode) (s : Script) (op : Instruction) (t : ℕ) (c : Composed) (e : compose (view ts s then line (op_of (tree ts) op) None) (tree ts t) ≡ Some c) where
  long_compared : 512 < length c.script → 512 < length (compared (length (view ts s)) c)
  long_compared l = omega (arith, l, length-append c.script (line (SAME (length (view ts s)) c.slot) None ∷ []))

  pub first_stop : (x : ScriptError) (s1 : Script) → Writes {A = ℕ} ts (view ts s then line (op_of (tree ts) op) None) (Err x) s1 → Writes {A = Unit {0}} ts (compared (length (view ts s)) c) (Err x) s1
  first_stop Full s1 w =
      long_compared (let g = grows_length (view ts s then line (op_of (tree ts) op) None) (tree ts t) c e in omega (arith, w, g))
  first_stop (Missing m) s1 w = absurd w

  module _ (n : ℕ) (s1 : Script) (nth : n ≡ length (written s)) (one : view ts s1 ≡ (view ts s then line (op_of (tree ts) op) None)) where
    then_c : compose (view ts s1) (tree ts t) ≡ Some c
    then_c = ap (λ v. compose v (tree ts t)) one ∙ e

    pub second_stop : (x : ScriptError) (s2 : Script) → Puts ts s1 t (Err x) s2 → Writes {A = Unit {0}} ts (compared (length (view ts s)) c) (Err x) s2
    second_stop Full s2 p = long_compared (p c then_c)
    second_stop (Missing m) s2 p = let z : ◌≡◌ {A = ℕ} 0 1 = cc (then_c, p) in absurd (omega arith)

    module _ (m : ℕ) (s2 : Script) (two : Puts ts s1 t (Ok m) s2) (named : AllNamed (length ts) (written s2)) where
      last : compared (length (view ts s)) c ≡ (view ts s2 then line (SAME n m) None)
      last =
          let q : c ≡ composed_at m (view ts s2) = some_is (sym then_c ∙ two.0) in
          let k : length (view ts s) ≡ n = length_view (tree ts) (written s) ∙ sym nth in
          ap₂ (λ i d. compared i d) k q

      pub compared_all : (r : Result ℕ ScriptError) (s3 : Script) → Pushed s2 (record { op = Same n m; holds = None }) r s3 → Writes ts (compared (length (view ts s)) c) r s3
      compared_all r s3 p = subst (λ w. Writes ts w r s3) (sym last) (pushed_writes ts s2 s3 (record { op = Same n m; holds = None }) r p named (tt, tt))

-- the same outcome under another answer
pub writes_unit : (ts : List TermNode) (w : RuleScript) (x : ScriptError) (s : Script) → Writes {A = ℕ} ts w (Err x) s → Writes {A = Unit {0}} ts w (Err x) s
writes_unit ts w Full s p = p
writes_unit ts w (Missing m) s p = p

-- whether something is missing says whether the term can be composed
pub lacks_none : (ts : List TermNode) (s : Script) (t : ℕ) (r : Option ℕ) → is_some r ≡ false → Lacks ts s t r → (c : Composed) × (compose (view ts s) (tree ts t) ≡ Some c)
lacks_none ts s t None e l = l
lacks_none ts s t (Some m) e l = absurd (false≢true (sym e))

pub lacks_some : (ts : List TermNode) (s : Script) (t : ℕ) (r : Option ℕ) → is_some r ≡ true → Lacks ts s t r → compose (view ts s) (tree ts t) ≡ None
lacks_some ts s t None e l = absurd (false≢true e)
lacks_some ts s t (Some m) e l = l.2

-- the opener of a key
module _ (ts : List TermNode) (ok : Orderly ts) (s : Script) (key : ℕ) (lk : key < length ts) (is_key : Key (tree ts key)) (known : AllNamed (length ts) (written s)) where
  pub no_opener : Opens ts key None → Unlocks ts s key (Ok None) s
  no_opener none = (unopened ts ok (view ts s) (held_in ts s known) key lk is_key none, refl)

  module _ (o : ℕ) (opens : Opens ts key (Some o)) where
    pub opener_missing : (r : Option ℕ) → is_some r ≡ true → Lacks ts s o r → Unlocks ts s key (Ok None) s
    opener_missing r e l = (ap (compose (view ts s)) (sym opens.3) ∙ lacks_some ts s o r e l, refl)

    pub opener_put : (n : ℕ) (s1 : Script) → Puts ts s o (Ok n) s1 → AllNamed (length ts) (written s1) → Unlocks ts s key (Ok (Some n)) s1
    opener_put n s1 p k = (ap (compose (view ts s)) (sym opens.3) ∙ p.0, k)

    pub opener_stopped : (x : ScriptError) (s1 : Script) → ((c : Composed) × (compose (view ts s) (tree ts o) ≡ Some c)) → Puts ts s o (Err x) s1 → Unlocks ts s key (Err x) s1
    opener_stopped Full s1 l p = (l.0, ap (compose (view ts s)) (sym opens.3) ∙ l.1, p l.0 l.1)
    opener_stopped (Missing m) s1 l p = let z : ◌≡◌ {A = ℕ} 0 1 = cc (l.1, p) in absurd (omega arith)

-- an instruction that brings in a term which cannot be composed
pub record Unbuilt (ts : List TermNode) (s : Script) (op : Instruction) (t : ℕ) : Type 0 where
  pub ok : Orderly ts
  pub term : IsTerm ts t
  pub none : compose (view ts s) (tree ts t) ≡ None

pub unbuilt : {ts : List TermNode} (ok : Orderly ts) (s : Script) (op : Instruction) (t : ℕ) (r : Option ℕ) → is_some r ≡ true → (IsTerm ts t → HoldsTerms ts s → Lacks ts s t r)
    → IsTerm ts t → NamesTerms ts s → Unbuilt ts s op t
unbuilt {ts} ok s op t r e l lt k = record { ok = ok; term = lt; none = lacks_some ts s t r e (l lt (named_known _ _ k)) }

-- it is written, under the slot n
pub record Brought (ts : List TermNode) (s : Script) (op : Instruction) (t n : ℕ) (s1 : Script) : Type 0 where
  pub at : n ≡ length (written s)
  pub one : view ts s1 ≡ (view ts s then line (op_of (tree ts) op) (Some (tree ts t)))
  pub names : NamesTerms ts s1

pub brought_at : {ts : List TermNode} {s : Script} {op : Instruction} {t : ℕ} → Unbuilt ts s op t → (n : ℕ) (s1 : Script) → Pushed s (record { op = op; holds = Some t }) (Ok n) s1
    → NamesTerms ts s → OpNames ts op → Brought ts s op t n s1
brought_at {ts} {s} {op} {t} u n s1 p k b =
    let w = pushed_writes ts s s1 (record { op = op; holds = Some t }) (Ok n) p k (u.term, b) in
    record { at = p.0; one = w.0; names = w.1 }

module _ {ts : List TermNode} {s : Script} {op : Instruction} {t : ℕ} (u : Unbuilt ts s op t) where
  abbrev v1 : RuleScript
  v1 = view ts s then line (op_of (tree ts) op) (Some (tree ts t))

  abbrev goal : RuleScript
  goal = walk (view ts s) (op_of (tree ts) op) (tree ts t)

  then_none : compose (view ts s then line (op_of (tree ts) op) None) (tree ts t) ≡ None
  then_none = uncomposed_then (view ts s) (op_of (tree ts) op) (tree ts t) u.none

  walk_leaf_name : (u : Term) → tree ts t ≡ u → ((f : Form) (a b : Term) → u ≡ built f a b → ⊥) → goal ≡ v1
  walk_leaf_name (name k i) e nb =
      ap (walk (view ts s) (op_of (tree ts) op)) e
      ∙ ap (walked (view ts s) (op_of (tree ts) op) (name k i) (λ x. x)) (ap (compose (view ts s then line (op_of (tree ts) op) None)) (sym e) ∙ then_none)
      ∙ ap (λ u. view ts s then line (op_of (tree ts) op) (Some u)) (sym e)
  walk_leaf_name (built f a b) e nb = absurd (nb f a b refl)
  walk_leaf_name (mate k) e nb =
      ap (walk (view ts s) (op_of (tree ts) op)) e
      ∙ ap (walked (view ts s) (op_of (tree ts) op) (mate k) (λ x. x)) (ap (compose (view ts s then line (op_of (tree ts) op) None)) (sym e) ∙ then_none)
      ∙ ap (λ u. view ts s then line (op_of (tree ts) op) (Some u)) (sym e)

  not_built : ((g : NodeForm) (a b : ℕ) → node_at ts t ≡ Built g a b → ⊥) → (f : Form) (x y : Term) → tree ts t ≡ built f x y → ⊥
  not_built nb f x y e = go (node_at ts t) refl
    where
      go : (r : TermNode) → node_at ts t ≡ r → ⊥
      go (Name k i) q = let w = tree_at ts u.ok.lower t (Name k i) u.term q in let z : ◌≡◌ {A = ℕ} 0 1 = cc in omega arith
      go (Built g a b) q = nb g a b q
      go (A-MATE k) q = let w = tree_at ts u.ok.lower t (A-MATE k) u.term q in let z : ◌≡◌ {A = ℕ} 0 1 = cc in omega arith

  pub walk_leaf : ((g : NodeForm) (a b : ℕ) → node_at ts t ≡ Built g a b → ⊥) → goal ≡ v1
  walk_leaf nb = walk_leaf_name (tree ts t) refl (not_built nb)

  module _ {g : NodeForm} {a b : ℕ} (node : node_at ts t ≡ Built g a b) where
    is_built : tree ts t ≡ built (form_of g) (tree ts a) (tree ts b)
    is_built = tree_at ts u.ok.lower t (Built g a b) u.term node

    pub a_below : a < length ts
    a_below = let p = parts_lower ts u.ok.lower t g a b u.term node in omega (arith, p.0, p.1, u.term)

    pub b_below : b < length ts
    b_below = let p = parts_lower ts u.ok.lower t g a b u.term node in omega (arith, p.0, p.1, u.term)

    walk_built : goal ≡ apart (form_of g) (length (view ts s)) (tree ts b) (λ x o. walk x o (tree ts a)) (λ x o. walk x o (tree ts b)) v1
    walk_built =
        ap (walk (view ts s) (op_of (tree ts) op)) is_built
        ∙ ap (walked (view ts s) (op_of (tree ts) op) (built (form_of g) (tree ts a) (tree ts b)) (apart (form_of g) (length (view ts s)) (tree ts b) (λ x o. walk x o (tree ts a)) (λ x o. walk x o (tree ts b))))
        (ap (compose (view ts s then line (op_of (tree ts) op) None)) (sym is_built) ∙ then_none)
        ∙ ap (λ y. apart (form_of g) (length (view ts s)) (tree ts b) (λ x o. walk x o (tree ts a)) (λ x o. walk x o (tree ts b)) (view ts s then line (op_of (tree ts) op) (Some y))) (sym is_built)

  apart_long : (f : Form) (n : ℕ) (x y : Term) (v : RuleScript) → length v ≤ length (apart f n y (λ w o. walk w o x) (λ w o. walk w o y) v)
  apart_long pair n x y v =
      let p = begins_length v (walk v (LEFT n) x) (walk_begins v (LEFT n) x) in
      let q = begins_length (walk v (LEFT n) x) (walk (walk v (LEFT n) x) (RIGHT n) y) (walk_begins (walk v (LEFT n) x) (RIGHT n) y) in
      omega arith
  apart_long sealed n x y v = go (compose v (opener y)) refl
    where
      go : (o : Option Composed) → compose v (opener y) ≡ o → length v ≤ length (unlocked v o (λ w i. walk w (OPEN n i) x))
      go None e = omega arith
      go (Some c) e =
          let p = begins_length v c.script (compose_begins v (opener y) c e) in
          let q = begins_length c.script (walk c.script (OPEN n c.slot) x) (walk_begins c.script (OPEN n c.slot) x) in
          omega arith
  apart_long digest n x y v = omega arith
  apart_long entry n x y v = omega arith

  v1_long : length v1 ≤ length goal
  v1_long = go (node_at ts t) refl
    where
      go : (r : TermNode) → node_at ts t ≡ r → length v1 ≤ length goal
      go (Name k i) e = omega (arith, ap length (walk_leaf (λ g a b q. let z : ◌≡◌ {A = ℕ} 0 1 = cc in omega arith)))
      go (Built g a b) e =
          omega (arith, ap length (walk_built e), apart_long (form_of g) (length (view ts s)) (tree ts a) (tree ts b) v1)
      go (A-MATE k) e = omega (arith, ap length (walk_leaf (λ g a b q. let z : ◌≡◌ {A = ℕ} 0 1 = cc in omega arith)))

  -- the instruction itself finds no room
  pub brought_stop : (x : ScriptError) (s1 : Script) → Pushed s (record { op = op; holds = Some t }) (Err x) s1 → NamesTerms ts s → OpNames ts op → Writes {A = Unit {0}} ts goal (Err x) s1
  brought_stop x s1 p k b = by x (pushed_writes ts s s1 (record { op = op; holds = Some t }) (Err x) p k (u.term, b))
    where
      by : (x : ScriptError) → Writes {A = ℕ} ts v1 (Err x) s1 → Writes {A = Unit {0}} ts goal (Err x) s1
      by Full w = omega (arith, w, v1_long)
      by (Missing m) w = absurd w

  module _ {n : ℕ} {s1 : Script} (h : Brought ts s op t n s1) where
    slot_is : length (view ts s) ≡ n
    slot_is = length_view (tree ts) (written s) ∙ sym h.at

    -- nothing is taken apart
    pub walk_here : goal ≡ v1 → Writes {A = Unit {0}} ts goal (Ok tt) s1
    walk_here e = (h.one ∙ sym e, h.names)

    module _ {a b : ℕ} where
      pub walk_other : {g : NodeForm} → node_at ts t ≡ Built g a b → (apart (form_of g) (length (view ts s)) (tree ts b) (λ x o. walk x o (tree ts a)) (λ x o. walk x o (tree ts b)) v1 ≡ v1) → Writes {A = Unit {0}} ts goal (Ok tt) s1
      walk_other node e = walk_here (walk_built node ∙ e)

      -- the two halves of a pair
      module _ (node : node_at ts t ≡ Built Pair a b) where
        pair_walk : goal ≡ walk (walk (view ts s1) (op_of (tree ts) (Left n)) (tree ts a)) (op_of (tree ts) (Right n)) (tree ts b)
        pair_walk = walk_built node ∙ ap₂ (λ i v. walk (walk v (LEFT i) (tree ts a)) (RIGHT i) (tree ts b)) slot_is (sym h.one)

        pub left_stop : (x : ScriptError) (s2 : Script) → Writes {A = Unit {0}} ts (walk (view ts s1) (op_of (tree ts) (Left n)) (tree ts a)) (Err x) s2 → Writes {A = Unit {0}} ts goal (Err x) s2
        left_stop Full s2 w =
            let v2 : RuleScript = walk (view ts s1) (LEFT n) (tree ts a) in
            omega (arith, w, ap length pair_walk, begins_length v2 (walk v2 (RIGHT n) (tree ts b)) (walk_begins v2 (RIGHT n) (tree ts b)))
        left_stop (Missing m) s2 w = absurd w

        pub right_walk : (s2 : Script) → view ts s2 ≡ walk (view ts s1) (op_of (tree ts) (Left n)) (tree ts a) → (r : Result (Unit {0}) ScriptError) (s3 : Script)
            → Writes ts (walk (view ts s2) (op_of (tree ts) (Right n)) (tree ts b)) r s3 → Writes ts goal r s3
        right_walk s2 e r s3 w = subst (λ y. Writes ts y r s3) (ap (λ v. walk v (RIGHT n) (tree ts b)) e ∙ sym pair_walk) w

      -- the content of a sealed term
      module _ (node : node_at ts t ≡ Built Sealed a b) where
        pub key_is : Key (tree ts b)
        key_is = let f = subst Formed (tree_at ts u.ok.lower t (Built Sealed a b) u.term node) (formed ts u.ok t u.term) in f.2

        sealed_walk : goal ≡ unlocked (view ts s1) (compose (view ts s1) (opener (tree ts b))) (λ v o. walk v (OPEN n o) (tree ts a))
        sealed_walk = walk_built node ∙ ap₂ (λ i v. unlocked v (compose v (opener (tree ts b))) (λ w o. walk w (OPEN i o) (tree ts a))) slot_is (sym h.one)

        pub locked : (s2 : Script) → Unlocks ts s1 b (Ok None) s2 → Writes {A = Unit {0}} ts goal (Ok tt) s2
        locked s2 w =
            subst (λ z. Writes {A = Unit {0}} ts goal (Ok tt) z) (sym w.1)
            (sym (sealed_walk ∙ ap (λ o. unlocked (view ts s1) o (λ v o. walk v (OPEN n o) (tree ts a))) w.0), h.names)

        pub unlock_stop : (x : ScriptError) (s2 : Script) → Unlocks ts s1 b (Err x) s2 → Writes {A = Unit {0}} ts goal (Err x) s2
        unlock_stop Full s2 w =
            let e = sealed_walk ∙ ap (λ o. unlocked (view ts s1) o (λ v o. walk v (OPEN n o) (tree ts a))) w.1 in
            let c = w.0 in
            omega (arith, w.2, ap length e, begins_length c.script (walk c.script (OPEN n c.slot) (tree ts a)) (walk_begins c.script (OPEN n c.slot) (tree ts a)))
        unlock_stop (Missing m) s2 w = absurd w

        pub content_walk : (o : ℕ) (s2 : Script) → Unlocks ts s1 b (Ok (Some o)) s2 → (r : Result (Unit {0}) ScriptError) (s3 : Script)
            → Writes ts (walk (view ts s2) (op_of (tree ts) (Open n o)) (tree ts a)) r s3 → Writes ts goal r s3
        content_walk o s2 x r s3 w =
            subst (λ z. Writes ts z r s3) (sym (sealed_walk ∙ ap (λ p. unlocked (view ts s1) p (λ v i. walk v (OPEN n i) (tree ts a))) x.0)) w

-- the walk of a term that can be composed
pub walk_known : (v : RuleScript) (op : Op) (t : Term) (c : Composed) → compose (v then line op None) t ≡ Some c → compared (length v) c ≡ walk v op t
walk_known v op (name k i) c e = sym (ap (walked v op (name k i) (λ x. x)) e)
walk_known v op (built f a b) c e = sym (ap (walked v op (built f a b) (apart f (length v) b (λ x o. walk x o a) (λ x o. walk x o b))) e)
walk_known v op (mate k) c e = sym (ap (walked v op (mate k) (λ x. x)) e)

pub known_walk : (ts : List TermNode) (s : Script) (op : Instruction) (t : ℕ) (r : Result (Unit {0}) ScriptError) (s1 : Script) → ((c : Composed) × (compose (view ts s) (tree ts t) ≡ Some c))
    → ((c : Composed) → compose (view ts s then line (op_of (tree ts) op) None) (tree ts t) ≡ Some c → Writes ts (compared (length (view ts s)) c) r s1)
    → Writes ts (walk (view ts s) (op_of (tree ts) op) (tree ts t)) r s1
known_walk ts s op t r s1 m w =
    let d = composed_then (view ts s) (op_of (tree ts) op) (tree ts t) m.0 m.1 in
    subst (λ u. Writes ts u r s1) (walk_known (view ts s) (op_of (tree ts) op) (tree ts t) d.0 d.1) (w d.0 d.1)
