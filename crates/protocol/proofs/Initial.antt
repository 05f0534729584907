-- Where an agent's part of a step begins, told from its script and the steps before.
use Rattle.std.proofs.Common.{◌≡◌, length-append, min, get_or-take, ℕ, zero, suc, ◌+◌, ◌<◌, ◌≤◌, List, [], ◌∷◌, ◌++◌, map, length, get_or, take, Some, None, sym, refl, ap, ◌∙◌, arith}
use Rattle.std.proofs.lemmas.List.{append-nil, append_assoc, length-take, take_min}
use Rattle.bounded.specs.Items.{items}
use Rattle.deduction.specs.Term.{party, Term, name}
use Rattle.terms.specs.Listed.{listed}
use Rattle.terms.specs.Tree.{tree}
use Rattle.scripts.specs.declared.instruction.Instruction.{Instruction}
use Rattle.scripts.specs.declared.instruction.Instruction.TheVariants.{Given, Fresh, From, To, Recv, Mate, Left, Right, Join, Seal, Digest, Entry, Open, Same, Send}
use Rattle.scripts.specs.declared.instruction.Line.{Line}
use Rattle.scripts.specs.declared.script.Script.{Script}
use Rattle.scripts.specs.Composing.{view}
use Rattle.scripts.specs.Lines.{op_of, script_of}
use Rattle.scripts.specs.View.{written}
use Rattle.scripts.proofs.Judging.{get_d_past}
use Rattle.parts.specs.Opening.{opens, opening}
use Rattle.parts.specs.Parts.{initial, reached, begin}
use Rattle.parts.proofs.Opening.{opens_within}
use Rattle.parts.proofs.Reached.{reached_push}
use Rattle.rules.specs.State.{nth}
use Rattle.rules.proofs.Find.{some_none}
use Rattle.rules.proofs.Nth.{nth_at, some_is}
use Rattle.protocol.specs.declared.protocol.Protocol.{Protocol}
use Rattle.protocol.specs.declared.step.Step.{Step}
use Rattle.protocol.specs.Reading.{opens_by, opening_of, end_of}
use Rattle.protocol.specs.States.{step_of}
use Rattle.protocol.specs.View.{lines_of, steps_of, view_of}
use Rattle.protocol.proofs.Asking.{state_script}
use Rattle.protocol.proofs.Reading.{agents_are, nth_is, nth_map, steps_are}

-- an instruction opens as its tree does
opens_view : (T : ℕ → Term) (o : Instruction) (n : ℕ) → opens (op_of T o) n ≡ opens_by o n
opens_view T (Given t) n = refl
opens_view T (Fresh t) n = refl
opens_view T (From t) n = refl
opens_view T (To t) n = refl
opens_view T (Recv t) n = refl
opens_view T (Mate i) n = refl
opens_view T (Left i) n = refl
opens_view T (Right i) n = refl
opens_view T (Join i j) n = refl
opens_view T (Seal i j) n = refl
opens_view T (Digest i j) n = refl
opens_view T (Entry i j) n = refl
opens_view T (Open i j) n = refl
opens_view T (Same i j) n = refl
opens_view T (Send i j) n = refl

opening_view : (T : ℕ → Term) (ls : List Line) → opening (script_of T ls) ≡ opening_of ls
opening_view T [] = refl
opening_view T (l ∷ ls) = ap (opens (op_of T l.op)) (opening_view T ls) ∙ opens_view T l.op (opening_of ls)

opens_few : (o : Instruction) (n m : ℕ) → n ≤ m → opens_by o n ≤ suc m
opens_few o n m h =
    let T : ℕ → Term = (λ i. name party i) in
    let e = opens_view T o n in
    let w = opens_within (op_of T o) n m h in
    omega arith

-- what is known of the opening when the lines of the rest are still to be looked at
pub record Behind (ls rest : List Line) (opening : ℕ) : Type 0 where
  pub seen : List Line
  pub all : ls ≡ rest ++ seen
  pub is : opening ≡ opening_of seen
  pub few : opening ≤ length seen

pub none_behind : (ls rest : List Line) → rest ≡ ls → Behind ls rest 0
none_behind ls rest e = record { seen = []; all = sym (append-nil rest ∙ e); is = refl; few = omega arith }

-- one line more
pub one_behind : (ls rest rest' : List Line) (o : ℕ) (l : Line) → Behind ls rest o → rest ≡ rest' ++ (l ∷ []) → Behind ls rest' (opens_by l.op o)
one_behind ls rest rest' o l b e = record {
  seen = l ∷ b.seen;
  all = b.all ∙ ap (λ xs. xs ++ b.seen) e ∙ append_assoc rest' (l ∷ []) b.seen;
  is = ap (opens_by l.op) b.is;
  few = opens_few l.op o (length b.seen) b.few;
}

-- all lines
pub all_behind : (ls rest : List Line) (o : ℕ) → Behind ls rest o → length rest ≡ 0 → o ≡ opening_of ls
all_behind ls [] o b e = b.is ∙ sym (ap opening_of b.all)
all_behind ls (x ∷ rest) o b e = absurd (omega (arith, e))

-- there is room for one more while a line is left
pub few_behind : (ls rest rest' : List Line) (o : ℕ) (l : Line) → length ls ≤ 512 → Behind ls rest o → rest ≡ rest' ++ (l ∷ []) → o < 512
few_behind ls rest rest' o l few b e =
    omega (arith, few, b.few, ap length b.all, length-append rest b.seen, ap length e, length-append rest' (l ∷ []))

-- the first elements of a list
take_next : {A : Type 0} (xs : List A) (k : ℕ) (x : A) → nth xs k ≡ Some x → take (suc k) xs ≡ take k xs ++ (x ∷ [])
take_next [] k x e = absurd (some_none None e refl)
take_next (y ∷ xs) zero x e = ap (λ z. z ∷ []) (some_is e)
take_next (y ∷ xs) (suc k) x e = ap (λ zs. y ∷ zs) (take_next xs k x e)

module _ (c : Protocol) (p : ℕ) where
  -- the opening of the agent's script
  pub agent_initial : (x : Script) → nth (lines_of c) p ≡ Some (written x) → opening_of (written x) ≡ initial (view_of c) p
  agent_initial x at =
      sym (ap opening (nth_is (view_of c).scripts p (view (listed c.terms) x) [] (state_script c p x at)) ∙ opening_view (tree (listed c.terms)) (written x))

  pub none_initial : length (lines_of c) ≤ p → 0 ≡ initial (view_of c) p
  none_initial lp = sym (ap opening (get_d_past (view_of c).scripts p [] (omega (arith, lp, agents_are c))))

  -- one step more
  pub one_earlier : (k n : ℕ) (x : Step) → nth (steps_of c) k ≡ Some x → n ≡ begin (view_of c) k p → end_of x p n ≡ begin (view_of c) (k + 1) p
  one_earlier k n x at e =
      let f = step_of (tree (listed c.terms)) in
      let q : suc k ≡ k + 1 = omega arith in
      ap (end_of x p) e
      ∙ (sym (ap (λ xs. reached xs (initial (view_of c) p) p) (take_next (map f (steps_of c)) k (f x) (nth_map f (steps_of c) k x at))
      ∙ reached_push (take k (view_of c).steps) (f x) (initial (view_of c) p) p)
      ∙ ap (λ m. begin (view_of c) m p) q)

  -- the steps before the l-th, read one after the other
  module _ (xs : List Step) (is : xs ≡ items c.steps) (m l : ℕ) (few : m ≡ min l (length xs)) where
    pub one_earlier_read : (k n : ℕ) (d : Step) → k < length (take m xs) → n ≡ begin (view_of c) k p → end_of (get_or (take m xs) k d) p n ≡ begin (view_of c) (k + 1) p
    one_earlier_read k n d h e =
        one_earlier k n (get_or (take m xs) k d)
        (ap (λ ys. nth ys k) (sym is) ∙ nth_at xs k d (omega (arith, h, length-take m xs)) ∙ ap Some (sym (get_or-take m xs k d (omega (arith, h, length-take m xs))))) e

    pub all_earlier : (k : ℕ) → length (take m xs) ≤ k → k ≤ length (take m xs) → begin (view_of c) k p ≡ begin (view_of c) l p
    all_earlier k h g =
        let q : k ≡ min l (length (view_of c).steps) = omega (arith, h, g, few, length-take m xs, ap length is, steps_are c) in
        ap (λ ys. reached ys (initial (view_of c) p) p) (ap (λ j. take j (view_of c).steps) q ∙ take_min l (view_of c).steps)
