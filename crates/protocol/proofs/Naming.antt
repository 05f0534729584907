-- Naming, as the rules have it.
use Rattle.std.proofs.Common.{◌≡◌, ℕ, ◌+◌, ◌<◌, ◌≤◌, Bool, true, false, cond, ltb, List, [], ◌∷◌, ◌++◌, map, length, Some, Ok, Err, Result, sym, refl, ap, ◌∙◌, subst, ap₂, arith, length-append, ltb-false}
use mathlib.Core.Logic.{∥∥₁_elim}
use mathlib.Core.HLevel.{⊥_prop}
use lib.ListN.{length-map}
use Rattle.std.proofs.lemmas.List.{length_push, get_or_push, get_or_at, append-nil, append_assoc, map_push}
use Rattle.deduction.specs.Term.{party, public, Term, name, mate}
use Rattle.terms.specs.declared.node.Kind.{Kind}
use Rattle.terms.specs.declared.node.Kind.TheVariants.{Party, Number, Shared, Public, Table, Function}
use Rattle.terms.specs.declared.node.TermNode.{TermNode}
use Rattle.terms.specs.declared.node.TermNode.TheVariants.{Name, Mate}
use Rattle.terms.specs.declared.table.Terms.{Terms}
use Rattle.terms.specs.Node.{node_at, Lower}
use Rattle.terms.specs.Tree.{tree, kind_of as kindTree}
use Rattle.terms.specs.Listed.{listed}
use Rattle.terms.specs.Outcome.{Absent, Keeps}
use Rattle.terms.proofs.Trees.{tree_at}
use Rattle.std.specs.Prelude.{OnOk, OnErr}
use Rattle.bounded.specs.declared.list.BoundedVec.{BoundedVec}
use Rattle.bounded.specs.declared.list.Full.{Full as NoPlace}
use Rattle.bounded.specs.Items.{items}
use Rattle.scripts.specs.declared.script.Script.{Script}
use Rattle.scripts.specs.View.{written}
use Rattle.scripts.specs.declared.instruction.Line.{Line}
use Rattle.scripts.specs.Lines.{script_of}
use Rattle.rules.specs.Script.{Script as RuleScript}
use Rattle.rules.specs.State.{State, NAME, NoRoom, EighthParty, named, refuses, refused, kind_of, new_terms, new_scripts, names, perform}
use Rattle.rules.specs.History.{History, Came}
use Rattle.rules.proofs.Law.{came_stable}
use Rattle.protocol.specs.declared.step.Step.{Step}
use Rattle.protocol.specs.declared.protocol.Protocol.{Protocol}
use Rattle.protocol.specs.declared.refusal.Refusal.{Refusal}
use Rattle.protocol.specs.declared.refusal.Refusal.TheVariants.{NoRoom as FULL, EighthParty as EIGHTH}
use Rattle.protocol.specs.declared.call.Reply.TheVariants.{Number as NUMBER}
use Rattle.protocol.specs.States.{are_all_known, trees, state_by, scripts_known, steps_known}
use Rattle.protocol.specs.View.{view_of, lines_of, steps_of}
use Rattle.protocol.specs.Outcome.{Performed, number}
use Rattle.protocol.specs.Adding.{places, opens, admitted, new_nodes, party_lines}
use Rattle.protocol.proofs.Trees.{length_trees, nth_trees}
use Rattle.protocol.proofs.Growing.{both, below_lines, scripts_later, steps_later, scripts_known_more, scripts_same, steps_same, trees_more, keeps_append}
use Rattle.protocol.proofs.Performing.{performed_by}
use Rattle.protocol.specs.Reached.{Reached}
use Rattle.protocol.proofs.Known.{all_scripts, all_steps}
use Rattle.protocol.proofs.Reaching.{reached_next}

-- no name has the next number yet, since a name's identity is its number
pub name_new : (c : Protocol) → (k : Kind) → Absent (listed c.terms) (Name k (length (listed c.terms)))
name_new c k i l e = ∥∥₁_elim c.came ⊥_prop (λ w. go w.0 w.1)
  where
    go : (past : History) → Came past (view_of c) → ⊥
    go past came =
        let is = tree_at (listed c.terms) c.terms.lower i (Name k (length (listed c.terms))) l e in
        let o = (came_stable past (view_of c) came).numbers.own i (kindTree k) (length (listed c.terms))
        (nth_trees (listed c.terms) i l ∙ ap Some is) in
        omega arith

-- how much a name adds, as the rules have it
terms_added : (k : Kind) (n : ℕ) → length (new_terms (kindTree k) n) ≡ places k
terms_added Party n = refl
terms_added Number n = refl
terms_added Shared n = refl
terms_added Public n = refl
terms_added Table n = refl
terms_added Function n = refl

nodes_added : (k : Kind) (n : ℕ) → length (new_nodes k n) ≡ places k
nodes_added Party n = refl
nodes_added Number n = refl
nodes_added Shared n = refl
nodes_added Public n = refl
nodes_added Table n = refl
nodes_added Function n = refl

scripts_added : (k : Kind) (n : ℕ) → length (new_scripts (kindTree k) n) ≡ opens k
scripts_added Party n = refl
scripts_added Number n = refl
scripts_added Shared n = refl
scripts_added Public n = refl
scripts_added Table n = refl
scripts_added Function n = refl

-- the scripts that a name adds
abbrev pub new_lines : Kind → ℕ → List (List Line)
new_lines Party n = party_lines n ∷ []
new_lines Number n = []
new_lines Shared n = []
new_lines Public n = []
new_lines Table n = []
new_lines Function n = []

-- only a party opens an agent
pub opens_none : (k : Kind) (n : ℕ) → (k ≡ Party → ⊥) → (new_lines k n ≡ []) × (opens k ≡ 0)
opens_none Party n f = absurd (f refl)
opens_none Number n f = (refl, refl)
opens_none Shared n f = (refl, refl)
opens_none Public n f = (refl, refl)
opens_none Table n f = (refl, refl)
opens_none Function n f = (refl, refl)

-- the tests
module _ (ts : List TermNode) (ps : List (List Line)) (ss : List Step) (code : ℕ) (k : Kind) (is : kind_of code ≡ Some (kindTree k)) where
  abbrev st : State
  st = state_by ts ps ss

  tests : perform st (NAME code)
      ≡ cond (ltb 512 (length ts + places k)) (refuses st (NAME code) NoRoom)
      (cond (ltb 8 (length ps + opens k)) (refuses st (NAME code) EighthParty) (names st (kindTree k)))
  tests = rw is
      (ap₂ (λ (x y : Bool). cond x (refuses st (NAME code) NoRoom) (cond y (refuses st (NAME code) EighthParty) (names st (kindTree k))))
      (ap₂ (λ (x y : ℕ). ltb 512 (x + y)) (length_trees ts) (terms_added k (length (trees ts))))
      (ap₂ (λ (x y : ℕ). ltb 8 (x + y)) (length-map ps (script_of (tree ts))) (scripts_added k (length (trees ts)))))

  pub name_refused : (e : Refusal) → admitted (length ts) (length ps) k ≡ Err e → Performed st (NAME code) (Err e) st
  name_refused e q = go (ltb 512 (length ts + places k)) (ltb 8 (length ps + opens k)) tests q
    where
      go : (x y : Bool)
          → perform st (NAME code) ≡ cond x (refuses st (NAME code) NoRoom) (cond y (refuses st (NAME code) EighthParty) (names st (kindTree k)))
          → ◌≡◌ {A = Result (Unit {0}) Refusal} (cond x (Err FULL) (cond y (Err EIGHTH) (Ok tt))) (Err e) → Performed st (NAME code) (Err e) st
      go true y p q = let f : e ≡ FULL = cc in performed_by st (NAME code) (refused (NAME code) NoRoom) st st (Err e) p (ap Err f) refl
      go false true p q =
          let f : e ≡ EIGHTH = cc in performed_by st (NAME code) (refused (NAME code) EighthParty) st st (Err e) p (ap Err f) refl
      go false false p q = let z : ◌≡◌ {A = ℕ} 0 1 = cc in absurd (omega arith)

  pub name_room : admitted (length ts) (length ps) k ≡ Ok tt
      → (length ts + places k ≤ 512) × (length ps + opens k ≤ 8) × (perform st (NAME code) ≡ names st (kindTree k))
  name_room q = go (ltb 512 (length ts + places k)) refl (ltb 8 (length ps + opens k)) refl tests q
    where
      go : (x : Bool) → ltb 512 (length ts + places k) ≡ x → (y : Bool) → ltb 8 (length ps + opens k) ≡ y
          → perform st (NAME code) ≡ cond x (refuses st (NAME code) NoRoom) (cond y (refuses st (NAME code) EighthParty) (names st (kindTree k)))
          → ◌≡◌ {A = Result (Unit {0}) Refusal} (cond x (Err FULL) (cond y (Err EIGHTH) (Ok tt))) (Ok tt)
          → (length ts + places k ≤ 512) × (length ps + opens k ≤ 8) × (perform st (NAME code) ≡ names st (kindTree k))
      go true ex y ey p q = let z : ◌≡◌ {A = ℕ} 0 1 = cc in absurd (omega arith)
      go false ex true ey p q = let z : ◌≡◌ {A = ℕ} 0 1 = cc in absurd (omega arith)
      go false ex false ey p q = (ltb-false 512 (length ts + places k) ex, ltb-false 8 (length ps + opens k) ey, p)

-- the state after it
module _ (ts us : List TermNode) (low : Lower ts) (lower : Lower us) where
  first : (k : Kind) (more : List TermNode) → us ≡ ts ++ (Name k (length ts) ∷ more) → tree us (length ts) ≡ name (kindTree k) (length ts)
  first k more e =
      let l : length ts < length us = omega (arith, ap length e, length-append ts (Name k (length ts) ∷ more)) in
      tree_at us lower (length ts) (Name k (length ts)) l
      (ap (λ vs. node_at vs (length ts)) e ∙ get_or_at ts (Name k (length ts)) more (Name Party 0) (length ts) refl)

  keeping : (more : List TermNode) → us ≡ ts ++ more → Keeps ts us
  keeping more e = subst (Keeps ts) (sym e) (keeps_append ts more low)

  one_more : (k : Kind) → us ≡ ts ++ (Name k (length ts) ∷ []) → trees us ≡ trees ts ++ (name (kindTree k) (length ts) ∷ [])
  one_more k e =
      trees_more ts us (keeping (Name k (length ts) ∷ []) e) 1 (ap length e ∙ length_push ts (Name k (length ts)))
      ∙ ap (λ x. trees ts ++ (x ∷ [])) (first k [] e)

  two_more : us ≡ ts ++ (Name Public (length ts) ∷ Mate (length ts) ∷ [])
      → trees us ≡ trees ts ++ (name public (length ts) ∷ mate (name public (length ts)) ∷ [])
  two_more e =
      let n : ℕ = length ts in
      let rs : List TermNode = ts ++ (Name Public n ∷ []) in
      let e' : us ≡ rs ++ (Mate n ∷ []) = e ∙ sym (append_assoc ts (Name Public n ∷ []) (Mate n ∷ [])) in
      let lr : length rs ≡ n + 1 = length_push ts (Name Public n) in
      let lu : length us ≡ n + 2 = omega (arith, ap length e, length-append ts (Name Public n ∷ Mate n ∷ [])) in
      let q : node_at us (n + 1) ≡ Mate n = ap (λ vs. node_at vs (n + 1)) e' ∙ get_or_push rs (Mate n) (Name Party 0) (n + 1) lr in
      let m : tree us (n + 1) ≡ mate (tree us n) = tree_at us lower (n + 1) (Mate n) (omega arith) q in
      let f : tree us n ≡ name public n = first Public (Mate n ∷ []) e in
      trees_more ts us (keeping (Name Public n ∷ Mate n ∷ []) e) 2 lu
      ∙ ap₂ (λ (x y : Term). trees ts ++ (x ∷ y ∷ [])) f (m ∙ ap mate f)

  terms_named : (k : Kind) → us ≡ ts ++ new_nodes k (length ts) → trees us ≡ trees ts ++ new_terms (kindTree k) (length ts)
  terms_named Party e = one_more Party e
  terms_named Number e = one_more Number e
  terms_named Shared e = one_more Shared e
  terms_named Public e = two_more e
  terms_named Table e = one_more Table e
  terms_named Function e = one_more Function e

  party_named : (ps : List (List Line)) → us ≡ ts ++ new_nodes Party (length ts) → scripts_known (length ts) ps ≡ true
      → map (script_of (tree us)) (ps ++ (party_lines (length ts) ∷ [])) ≡ map (script_of (tree ts)) ps ++ new_scripts party (length ts)
  party_named ps e kp =
      map_push (script_of (tree us)) ps (party_lines (length ts))
      ∙ ap₂ (λ (x : List RuleScript) (t : Term). x ++ (script_of (λ n. t) (party_lines (length ts)) ∷ []))
      (scripts_same ts us (keeping (new_nodes Party (length ts)) e) ps kp) (first Party [] e)

  none_named : (ps : List (List Line)) → Keeps ts us → scripts_known (length ts) ps ≡ true
      → map (script_of (tree us)) (ps ++ []) ≡ map (script_of (tree ts)) ps ++ []
  none_named ps keeps kp =
      ap (map (script_of (tree us))) (append-nil ps) ∙ (scripts_same ts us keeps ps kp ∙ sym (append-nil (map (script_of (tree ts)) ps)))

  scripts_named : (k : Kind) (ps : List (List Line)) → us ≡ ts ++ new_nodes k (length ts) → scripts_known (length ts) ps ≡ true
      → map (script_of (tree us)) (ps ++ new_lines k (length ts)) ≡ map (script_of (tree ts)) ps ++ new_scripts (kindTree k) (length ts)
  scripts_named Party ps e kp = party_named ps e kp
  scripts_named Number ps e kp = none_named ps (keeping (new_nodes Number (length ts)) e) kp
  scripts_named Shared ps e kp = none_named ps (keeping (new_nodes Shared (length ts)) e) kp
  scripts_named Public ps e kp = none_named ps (keeping (new_nodes Public (length ts)) e) kp
  scripts_named Table ps e kp = none_named ps (keeping (new_nodes Table (length ts)) e) kp
  scripts_named Function ps e kp = none_named ps (keeping (new_nodes Function (length ts)) e) kp

  state_named : (k : Kind) (ps : List (List Line)) (ss : List Step) → us ≡ ts ++ new_nodes k (length ts)
      → scripts_known (length ts) ps ≡ true → steps_known (length ts) ss ≡ true
      → state_by us (ps ++ new_lines k (length ts)) ss ≡ (names (state_by ts ps ss) (kindTree k)).state
  state_named k ps ss e kp ks =
      let n = length_trees ts in
      let a = terms_named k e in
      let b = scripts_named k ps e kp in
      let c = steps_same ts us (keeping (new_nodes k (length ts)) e) ss ks in
      cc

-- the new scripts name the new name alone
lines_named : (n m : ℕ) (k : Kind) (ps : List (List Line)) → n < m → scripts_known m ps ≡ true → scripts_known m (ps ++ new_lines k n) ≡ true
lines_named n m Party ps l e = scripts_known_more m ps (party_lines n) e (below_lines m (party_lines n) ((l, l), tt))
lines_named n m Number ps l e = ap (scripts_known m) (append-nil ps) ∙ e
lines_named n m Shared ps l e = ap (scripts_known m) (append-nil ps) ∙ e
lines_named n m Public ps l e = ap (scripts_known m) (append-nil ps) ∙ e
lines_named n m Table ps l e = ap (scripts_known m) (append-nil ps) ∙ e
lines_named n m Function ps l e = ap (scripts_known m) (append-nil ps) ∙ e

some_place : (k : Kind) → 1 ≤ places k
some_place Party = omega arith
some_place Number = omega arith
some_place Shared = omega arith
some_place Public = omega arith
some_place Table = omega arith
some_place Function = omega arith

module _ (c : Protocol) (code : ℕ) (k : Kind) (is : Some (kindTree k) ≡ kind_of code) where
  abbrev ts : List TermNode
  ts = listed c.terms

  pub refused_name : (r : Result ℕ Refusal) (y e : Refusal) → r ≡ Err y → y ≡ e → Err e ≡ admitted (length ts) (length (lines_of c)) k
      → Performed (view_of c) (NAME code) (number r) (view_of c)
  refused_name r y e p same q =
      subst (λ o. Performed (view_of c) (NAME code) (number o) (view_of c)) (sym (p ∙ ap Err same))
      (name_refused ts (lines_of c) (steps_of c) code k (sym is) e (sym q))

  pub room_for : Ok tt ≡ admitted (length ts) (length (lines_of c)) k
      → (length ts + places k ≤ 512) × (length (lines_of c) + opens k ≤ 8) × (perform (view_of c) (NAME code) ≡ names (view_of c) (kindTree k))
  room_for q = name_room ts (lines_of c) (steps_of c) code k (sym is) (sym q)

  -- the name is added, and its new lines
  module _ (n : ℕ) (u : Terms 512) (ps : List (List Line)) (room : Ok tt ≡ admitted (length ts) (length (lines_of c)) k)
      (next : n ≡ length ts) (nodes : listed u ≡ ts ++ new_nodes k n) (lines : ps ≡ lines_of c ++ new_lines k n) where
    abbrev st' : State
    st' = state_by (listed u) ps (steps_of c)

    nodes_are : listed u ≡ ts ++ new_nodes k (length ts)
    nodes_are = nodes ∙ ap (λ m. ts ++ new_nodes k m) next

    lines_are : ps ≡ lines_of c ++ new_lines k (length ts)
    lines_are = lines ∙ ap (λ m. lines_of c ++ new_lines k m) next

    state_is : st' ≡ (names (view_of c) (kindTree k)).state
    state_is =
        ap (λ qs. state_by (listed u) qs (steps_of c)) lines_are
        ∙ state_named ts (listed u) c.terms.lower u.lower k (lines_of c) (steps_of c) nodes_are (all_scripts c) (all_steps c)

    pub named_performed : Performed (view_of c) (NAME code) (Ok (NUMBER n)) st'
    named_performed =
        performed_by (view_of c) (NAME code) (named (kindTree k) (length (trees ts))) (names (view_of c) (kindTree k)).state st' (Ok (NUMBER n))
        (room_for room).2 (ap (λ m. Ok (NUMBER m)) (next ∙ sym (length_trees ts))) state_is

    longer : length (listed u) ≡ length ts + places k
    longer = ap length nodes_are ∙ (length-append ts (new_nodes k (length ts)) ∙ ap (λ m. length ts + m) (nodes_added k (length ts)))

    pub named_known : are_all_known (listed u) ps (steps_of c) ≡ true
    named_known =
        let m : ℕ = length (listed u) in
        let l = longer in
        let p = some_place k in
        both (scripts_known m ps) (steps_known m (steps_of c))
        (ap (scripts_known m) lines_are
        ∙ lines_named (length ts) m k (lines_of c) (omega arith) (scripts_later (length ts) m (omega arith) (lines_of c) (all_scripts c)))
        (steps_later (length ts) m (omega arith) (steps_of c) (all_steps c))

    pub named_came : Reached st'
    named_came = reached_next (view_of c) st' (NAME code) c.came named_performed.after

-- no agent comes with another kind
pub no_lines : (k : Kind) (n : ℕ) (ps : List (List Line)) → (k ≡ Party → ⊥) → ps ≡ ps ++ new_lines k n
no_lines k n ps other = sym (append-nil ps) ∙ ap (λ ls. ps ++ ls) (sym (opens_none k n other).0)

-- the next agent with a party: its script is put behind the others, for which there is a place
pushed : (xs xs' : List Script) (r : Result ℕ NoPlace) (x : Script) → OnOk r (xs' ≡ xs ++ (x ∷ [])) → OnErr r (length xs ≡ 8) → length xs < 8 → xs' ≡ xs ++ (x ∷ [])
pushed xs xs' (Ok n) x ok full few = ok
pushed xs xs' (Err e) x ok full few = absurd (omega (arith, full))

pub agent_lines : (c : Protocol) (code : ℕ) (k : Kind) (is : Some (kindTree k) ≡ kind_of code) (n : ℕ) → Ok tt ≡ admitted (length (listed c.terms)) (length (lines_of c)) k → k ≡ Party
    → (x : Script) → written x ≡ party_lines n → (r : Result ℕ NoPlace) (v : BoundedVec Script 8) → OnOk r (items v ≡ items c.scripts ++ (x ∷ [])) → OnErr r (length (items c.scripts) ≡ 8)
    → map written (items v) ≡ lines_of c ++ new_lines k n
agent_lines c code k is n room same x lines r v ok full =
    let o : opens k ≡ 1 = ap opens same in
    let few : length (items c.scripts) < 8 = omega (arith, (room_for c code k is room).1, o, length-map (items c.scripts) written) in
    ap (map written) (pushed (items c.scripts) (items v) r x ok full few)
    ∙ map_push written (items c.scripts) x
    ∙ ap (λ xs. lines_of c ++ (xs ∷ [])) lines
    ∙ ap (λ j. lines_of c ++ new_lines j n) (sym same)
