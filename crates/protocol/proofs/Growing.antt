-- A table that grows: the state of the rules keeps its scripts and steps, and its terms go on.
use Rattle.std.proofs.Common.{◌≡◌, ℕ, zero, suc, ◌+◌, ◌<◌, ◌≤◌, Bool, true, false, ◌&&◌, ltb, List, [], ◌∷◌, ◌++◌, map, length, Some, None, Option, refl, ap, ◌∙◌, ap₂, arith, length-append, ltb-true, lt-ltb}
use Rattle.deduction.specs.Term.{Term}
use Rattle.terms.specs.declared.node.TermNode.{TermNode}
use Rattle.terms.specs.Tree.{tree}
use Rattle.terms.specs.Node.{Lower}
use Rattle.terms.specs.Outcome.{Keeps}
use Rattle.terms.proofs.Grow.{tree_append}
use Rattle.scripts.specs.declared.instruction.Instruction.{Instruction}
use Rattle.scripts.specs.declared.instruction.Instruction.TheVariants.{Given, Fresh, From, To, Recv, Mate, Left, Right, Join, Seal, Digest, Entry, Open, Same, Send}
use Rattle.scripts.specs.declared.instruction.Line.{Line}
use Rattle.scripts.specs.Composing.{Below, OpBelow, AllNamed}
use Rattle.scripts.specs.Lines.{op_of, held_of, script_of}
use Rattle.rules.specs.State.{Step as RuleStep}
use Rattle.rules.specs.Script.{Script as RuleScript}
use Rattle.protocol.specs.declared.step.Step.{Step}
use Rattle.protocol.specs.States.{trees_from, trees, step_of, state_by, holds_known, op_known, lines_known, scripts_known, steps_known}

-- tests joined by and
pub both : (x y : Bool) → x ≡ true → y ≡ true → (x && y) ≡ true
both true y p q = q
both false y p q = p

pub left_of : (x y : Bool) → (x && y) ≡ true → x ≡ true
left_of true y p = refl
left_of false y p = p

pub right_of : (x y : Bool) → (x && y) ≡ true → y ≡ true
right_of true y p = p
right_of false y p = cc

-- what is known as a test and as a fact

pub holds_below : (n : ℕ) (h : Option ℕ) → holds_known n h ≡ true → Below n h
holds_below n None e = tt
holds_below n (Some t) e = ltb-true t n e

pub below_holds : (n : ℕ) (h : Option ℕ) → Below n h → holds_known n h ≡ true
below_holds n None b = refl
below_holds n (Some t) b = lt-ltb t n b

pub op_below : (n : ℕ) (i : Instruction) → op_known n i ≡ true → OpBelow n i
op_below n (Given t) e = ltb-true t n e
op_below n (Fresh t) e = ltb-true t n e
op_below n (From t) e = ltb-true t n e
op_below n (To t) e = ltb-true t n e
op_below n (Recv t) e = ltb-true t n e
op_below n (Mate i) e = tt
op_below n (Left i) e = tt
op_below n (Right i) e = tt
op_below n (Join i j) e = tt
op_below n (Seal i j) e = tt
op_below n (Digest i j) e = tt
op_below n (Entry i j) e = tt
op_below n (Open i j) e = tt
op_below n (Same i j) e = tt
op_below n (Send i j) e = tt

pub below_op : (n : ℕ) (i : Instruction) → OpBelow n i → op_known n i ≡ true
below_op n (Given t) b = lt-ltb t n b
below_op n (Fresh t) b = lt-ltb t n b
below_op n (From t) b = lt-ltb t n b
below_op n (To t) b = lt-ltb t n b
below_op n (Recv t) b = lt-ltb t n b
below_op n (Mate i) b = refl
below_op n (Left i) b = refl
below_op n (Right i) b = refl
below_op n (Join i j) b = refl
below_op n (Seal i j) b = refl
below_op n (Digest i j) b = refl
below_op n (Entry i j) b = refl
below_op n (Open i j) b = refl
below_op n (Same i j) b = refl
below_op n (Send i j) b = refl

pub lines_below : (n : ℕ) (ls : List Line) → lines_known n ls ≡ true → AllNamed n ls
lines_below n [] e = tt
lines_below n (l ∷ ls) e =
    let here = left_of (holds_known n l.holds && op_known n l.op) (lines_known n ls) e in (
      (
        holds_below n l.holds (left_of (holds_known n l.holds) (op_known n l.op) here),
        op_below n l.op (right_of (holds_known n l.holds) (op_known n l.op) here),
      ),
      lines_below n ls (right_of (holds_known n l.holds && op_known n l.op) (lines_known n ls) e),
    )

pub below_lines : (n : ℕ) (ls : List Line) → AllNamed n ls → lines_known n ls ≡ true
below_lines n [] k = refl
below_lines n (l ∷ ls) k =
    both (holds_known n l.holds && op_known n l.op) (lines_known n ls)
    (both (holds_known n l.holds) (op_known n l.op) (below_holds n l.holds k.0.0) (below_op n l.op k.0.1))
    (below_lines n ls k.1)

-- what is known stays known

below_later : (m n : ℕ) → m ≤ n → (h : Option ℕ) → Below m h → Below n h
below_later m n l None b = tt
below_later m n l (Some t) b = omega arith

op_later : (m n : ℕ) → m ≤ n → (i : Instruction) → OpBelow m i → OpBelow n i
op_later m n l (Given t) b = omega arith
op_later m n l (Fresh t) b = omega arith
op_later m n l (From t) b = omega arith
op_later m n l (To t) b = omega arith
op_later m n l (Recv t) b = omega arith
op_later m n l (Mate i) b = tt
op_later m n l (Left i) b = tt
op_later m n l (Right i) b = tt
op_later m n l (Join i j) b = tt
op_later m n l (Seal i j) b = tt
op_later m n l (Digest i j) b = tt
op_later m n l (Entry i j) b = tt
op_later m n l (Open i j) b = tt
op_later m n l (Same i j) b = tt
op_later m n l (Send i j) b = tt

pub known_later : (m n : ℕ) → m ≤ n → (ls : List Line) → AllNamed m ls → AllNamed n ls
known_later m n l [] k = tt
known_later m n l (x ∷ ls) k = ((below_later m n l x.holds k.0.0, op_later m n l x.op k.0.1), known_later m n l ls k.1)

pub lines_later : (m n : ℕ) → m ≤ n → (ls : List Line) → lines_known m ls ≡ true → lines_known n ls ≡ true
lines_later m n l ls e = below_lines n ls (known_later m n l ls (lines_below m ls e))

pub scripts_later : (m n : ℕ) → m ≤ n → (ps : List (List Line)) → scripts_known m ps ≡ true → scripts_known n ps ≡ true
scripts_later m n l [] e = refl
scripts_later m n l (ls ∷ ps) e =
    both (lines_known n ls) (scripts_known n ps)
    (lines_later m n l ls (left_of (lines_known m ls) (scripts_known m ps) e))
    (scripts_later m n l ps (right_of (lines_known m ls) (scripts_known m ps) e))

pub steps_later : (m n : ℕ) → m ≤ n → (ss : List Step) → steps_known m ss ≡ true → steps_known n ss ≡ true
steps_later m n l [] e = refl
steps_later m n l (s ∷ ss) e =
    let h = ltb-true s.message m (left_of (ltb s.message m) (steps_known m ss) e) in
    both (ltb s.message n) (steps_known n ss) (lt-ltb s.message n (omega arith))
    (steps_later m n l ss (right_of (ltb s.message m) (steps_known m ss) e))

-- one script more that is known
pub scripts_known_more : (n : ℕ) (ps : List (List Line)) (ls : List Line) → scripts_known n ps ≡ true → lines_known n ls ≡ true
    → scripts_known n (ps ++ (ls ∷ [])) ≡ true
scripts_known_more n [] ls e k = both (lines_known n ls) true k refl
scripts_known_more n (ms ∷ ps) ls e k =
    both (lines_known n ms) (scripts_known n (ps ++ (ls ∷ []))) (left_of (lines_known n ms) (scripts_known n ps) e)
    (scripts_known_more n ps ls (right_of (lines_known n ms) (scripts_known n ps) e) k)

-- numbers that are known stand for the same trees in the longer table
module _ (ts us : List TermNode) (keeps : Keeps ts us) where
  held_same : (h : Option ℕ) → Below (length ts) h → held_of (tree us) h ≡ held_of (tree ts) h
  held_same None b = refl
  held_same (Some t) b = ap Some (keeps t b).1

  op_same : (i : Instruction) → OpBelow (length ts) i → op_of (tree us) i ≡ op_of (tree ts) i
  op_same (Given t) b = ap (λ x. op_of (λ n. x) (Given t)) (keeps t b).1
  op_same (Fresh t) b = ap (λ x. op_of (λ n. x) (Fresh t)) (keeps t b).1
  op_same (From t) b = ap (λ x. op_of (λ n. x) (From t)) (keeps t b).1
  op_same (To t) b = ap (λ x. op_of (λ n. x) (To t)) (keeps t b).1
  op_same (Recv t) b = ap (λ x. op_of (λ n. x) (Recv t)) (keeps t b).1
  op_same (Mate i) b = refl
  op_same (Left i) b = refl
  op_same (Right i) b = refl
  op_same (Join i j) b = refl
  op_same (Seal i j) b = refl
  op_same (Digest i j) b = refl
  op_same (Entry i j) b = refl
  op_same (Open i j) b = refl
  op_same (Same i j) b = refl
  op_same (Send i j) b = refl

  pub script_same : (ls : List Line) → AllNamed (length ts) ls → script_of (tree us) ls ≡ script_of (tree ts) ls
  script_same [] k = refl
  script_same (l ∷ ls) k =
      let a = op_same l.op k.0.1 in
      let b = held_same l.holds k.0.0 in
      let c = script_same ls k.1 in
      cc

  pub scripts_same : (ps : List (List Line)) → scripts_known (length ts) ps ≡ true → map (script_of (tree us)) ps ≡ map (script_of (tree ts)) ps
  scripts_same [] e = refl
  scripts_same (ls ∷ ps) e =
      ap₂ (λ (x : RuleScript) (xs : List RuleScript). x ∷ xs)
      (script_same ls (lines_below (length ts) ls (left_of (lines_known (length ts) ls) (scripts_known (length ts) ps) e)))
      (scripts_same ps (right_of (lines_known (length ts) ls) (scripts_known (length ts) ps) e))

  step_same : (s : Step) → s.message < length ts → step_of (tree us) s ≡ step_of (tree ts) s
  step_same s l = ap (λ x. step_of (λ n. x) s) (keeps s.message l).1

  pub steps_same : (ss : List Step) → steps_known (length ts) ss ≡ true → map (step_of (tree us)) ss ≡ map (step_of (tree ts)) ss
  steps_same [] e = refl
  steps_same (s ∷ ss) e =
      ap₂ (λ (x : RuleStep) (xs : List RuleStep). x ∷ xs)
      (step_same s (ltb-true s.message (length ts) (left_of (ltb s.message (length ts)) (steps_known (length ts) ss) e)))
      (steps_same ss (right_of (ltb s.message (length ts)) (steps_known (length ts) ss) e))

  -- the trees from n on, k of the old numbers and j more
  from_more : (n k j : ℕ) → n + k ≤ length ts → trees_from us n (k + j) ≡ trees_from ts n k ++ trees_from us (n + k) j
  from_more n zero j l = ap₂ (trees_from us) (omega arith) (omega arith)
  from_more n (suc k) j l =
      let e : suc k + j ≡ suc (k + j) = omega arith in
      let q : (n + 1) + k ≡ n + suc k = omega arith in
      ap (trees_from us n) e
      ∙ ap₂ (λ (x : Term) (xs : List Term). x ∷ xs) (keeps n (omega arith)).1
      (from_more (n + 1) k j (omega arith) ∙ ap (λ m. trees_from ts (n + 1) k ++ trees_from us m j) q)

  -- the terms go on: j more from the old length on
  pub trees_more : (j : ℕ) → length us ≡ length ts + j → trees us ≡ trees ts ++ trees_from us (length ts) j
  unfolding trees
  trees_more j e =
      ap (trees_from us 0) e ∙ (from_more 0 (length ts) j (omega arith) ∙ ap (λ m. trees_from ts 0 (length ts) ++ trees_from us m j) (omega arith))

-- more records at the end keep the trees
pub keeps_append : (ts more : List TermNode) → Lower ts → Keeps ts (ts ++ more)
keeps_append ts more low i l = (omega (arith, length-append ts more), tree_append ts more low i l)

-- the state over the longer table, with the terms that come after
pub state_more : (ts us : List TermNode) (ps : List (List Line)) (ss : List Step) (new : List Term) → Keeps ts us → trees us ≡ trees ts ++ new
    → scripts_known (length ts) ps ≡ true → steps_known (length ts) ss ≡ true
    → state_by us ps ss ≡ record { terms = trees ts ++ new; scripts = map (script_of (tree ts)) ps; steps = map (step_of (tree ts)) ss }
state_more ts us ps ss new keeps e kp ks =
    let a = scripts_same ts us keeps ps kp in
    let b = steps_same ts us keeps ss ks in
    cc

-- one term more
pub trees_push : (ts us : List TermNode) (t : Term) → Keeps ts us → length us ≡ length ts + 1 → tree us (length ts) ≡ t → trees us ≡ trees ts ++ (t ∷ [])
trees_push ts us t keeps l e = trees_more ts us keeps 1 l ∙ ap (λ x. trees ts ++ (x ∷ [])) e
