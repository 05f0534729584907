-- The comparisons of all tasks are those of all parties' scripts.
use Rattle.std.proofs.Common.{◌≡◌, ℕ, zero, suc, ◌+◌, ◌-◌, ◌<◌, ◌≤◌, List, [], ◌∷◌, ◌++◌, map, length, get_or, take, sym, refl, ap, ◌∙◌, arith}
use Rattle.std.proofs.lemmas.List.{take-take, take-append-drop, take_all}
use Rattle.deduction.specs.Term.{Term}
use Rattle.terms.specs.declared.node.TermNode.{TermNode}
use Rattle.terms.specs.Tree.{tree}
use Rattle.scripts.specs.declared.instruction.Instruction.{Instruction}
use Rattle.scripts.specs.declared.instruction.Instruction.TheVariants.{Given, Fresh, From, To, Recv, Mate, Left, Right, Join, Seal, Digest, Entry, Open, Same, Send}
use Rattle.scripts.specs.declared.instruction.Line.{Line}
use Rattle.scripts.specs.Lines.{op_of, script_of}
use Rattle.parts.specs.Sames.{is_same, sames, sames_in as samesOfScripts, sames_of}
use Rattle.acting.specs.Carrying.{tally, between}
use Rattle.acting.specs.Standing.{comparisons}
use Rattle.protocol.specs.declared.step.Step.{Step}
use Rattle.protocol.specs.States.{state_by}
use Rattle.runs.specs.declared.task.Task.{Task}
use Rattle.runs.specs.Memory.{lines_at}
use Rattle.runs.proofs.Standing.{after, after_all, after_own, after_other, AllFit, sames_in}

tally_same : (T : ℕ → Term) (op : Instruction) → tally op ≡ is_same (op_of T op)
tally_same T (Given t) = refl
tally_same T (Fresh t) = refl
tally_same T (From t) = refl
tally_same T (To t) = refl
tally_same T (Recv t) = refl
tally_same T (Mate i) = refl
tally_same T (Left i) = refl
tally_same T (Right i) = refl
tally_same T (Join i j) = refl
tally_same T (Seal i j) = refl
tally_same T (Digest i j) = refl
tally_same T (Entry i j) = refl
tally_same T (Open i j) = refl
tally_same T (Same i j) = refl
tally_same T (Send i j) = refl

comparisons_same : (T : ℕ → Term) (ls : List Line) → comparisons ls ≡ sames (script_of T ls)
comparisons_same T [] = refl
comparisons_same T (l ∷ ls) = let a = tally_same T l.op in let b = comparisons_same T ls in omega arith

comparisons_append : (xs ys : List Line) → comparisons (xs ++ ys) ≡ comparisons xs + comparisons ys
comparisons_append [] ys = omega arith
comparisons_append (x ∷ xs) ys = let h = comparisons_append xs ys in omega arith

-- up to a place, and from there on
comparisons_split : (ls : List Line) (start end : ℕ) → start ≤ end → comparisons (take start ls) + comparisons (between start end ls) ≡ comparisons (take end ls)
comparisons_split ls start end h =
    sym (comparisons_append (take start ls) (between start end ls))
    ∙ ap comparisons (ap (λ z. z ++ between start end ls) (sym (take-take start end ls h)) ∙ take-append-drop start (take end ls))

-- the comparisons done in scripts, the first of which is that of agent i
abbrev done_from : (ℕ → ℕ) → ℕ → List (List Line) → ℕ
done_from E i [] = 0
done_from E i (ls ∷ qs) = comparisons (take (E i) ls) + done_from E (i + 1) qs

done_same : (E E' : ℕ → ℕ) (i : ℕ) (qs : List (List Line)) → ((j : ℕ) → i ≤ j → E j ≡ E' j) → done_from E i qs ≡ done_from E' i qs
done_same E E' i [] h = refl
done_same E E' i (ls ∷ qs) h =
    let a : comparisons (take (E i) ls) ≡ comparisons (take (E' i) ls) = ap (λ n. comparisons (take n ls)) (h i (omega arith)) in
    let b = done_same E E' (i + 1) qs (λ j l. h j (omega arith)) in
    omega arith

-- a task adds its own
done_more : (E : ℕ → ℕ) (t : Task) (i d : ℕ) (qs : List (List Line)) → t.party ≡ i + d → d < length qs → E t.party ≡ t.start → t.start ≤ t.end
    → done_from (after E t) i qs ≡ done_from E i qs + comparisons (between t.start t.end (get_or qs d []))
done_more E t i d [] e l r o = absurd (omega arith)
done_more E t i zero (ls ∷ qs) e l r o =
    let p : t.party ≡ i = omega arith in
    let a : comparisons (take (after E t i) ls) ≡ comparisons (take t.end ls) = ap (λ n. comparisons (take n ls)) (after_own E t i p) in
    let b : comparisons (take (E i) ls) ≡ comparisons (take t.start ls) = ap (λ n. comparisons (take n ls)) (sym (ap E p) ∙ r) in
    let s = comparisons_split ls t.start t.end o in
    let c = done_same (after E t) E (i + 1) qs (λ j h. let n : t.party ≡ j → ⊥ = (λ q. omega arith) in after_other E t j n) in
    omega arith
done_more E t i (suc d) (ls ∷ qs) e l r o =
    let n : t.party ≡ i → ⊥ = (λ q. omega arith) in
    let a : comparisons (take (after E t i) ls) ≡ comparisons (take (E i) ls) = ap (λ k. comparisons (take k ls)) (after_other E t i n) in
    let c = done_more E t (i + 1) d qs (omega arith) (omega arith) r o in
    omega arith

done_none : (i : ℕ) (qs : List (List Line)) → done_from (λ p. 0) i qs ≡ 0
done_none i [] = refl
done_none i (ls ∷ qs) = let h = done_none (i + 1) qs in omega arith

done_all : (T : ℕ → Term) (E : ℕ → ℕ) (i : ℕ) (qs : List (List Line)) → ((d : ℕ) → d < length qs → E (i + d) ≡ length (get_or qs d [])) → done_from E i qs ≡ samesOfScripts (map (script_of T) qs)
done_all T E i [] h = refl
done_all T E i (ls ∷ qs) h =
    let z : i + 0 ≡ i = omega arith in
    let e : E i ≡ length ls = rw z at (h 0 (omega arith)) in
    let a : comparisons (take (E i) ls) ≡ sames (script_of T ls) = ap comparisons (take_all (E i) ls (omega arith)) ∙ comparisons_same T ls in
    let b = done_all T E (i + 1) qs (λ d l. let q : i + suc d ≡ (i + 1) + d = omega arith in rw q at (h (suc d) (omega arith))) in
    omega arith

module _ (ts : List TermNode) (ls : List Line) (qs : List (List Line)) where
  abbrev ps : List (List Line)
  ps = ls ∷ qs

  party_at : (p : ℕ) → 1 ≤ p → lines_at ps p ≡ get_or qs (p - 1) []
  party_at zero l = absurd (omega arith)
  party_at (suc p) l = let q : suc p - 1 ≡ p = omega arith in rw q refl

  tasks_done : (us : List Task) (E : ℕ → ℕ) → AllFit ts ps E us → done_from (after_all E us) 1 qs ≡ done_from E 1 qs + sames_in ts ps us
  tasks_done [] E fit = omega arith
  tasks_done (t ∷ us) E fit =
      let w = fit.0 in
      let a = done_more E t 1 (t.party - 1) qs (omega (arith, w.from)) (omega (arith, w.from, w.below)) w.ready w.order in
      let b : comparisons (between t.start t.end (lines_at ps t.party)) ≡ comparisons (between t.start t.end (get_or qs (t.party - 1) [])) = ap (λ x. comparisons (between t.start t.end x)) (party_at t.party w.from) in
      let c = tasks_done us (after E t) fit.1 in
      omega arith

  -- tasks that fit and do all have all comparisons
  pub count_all : (ss : List Step) (us : List Task) → AllFit ts ps (λ p. 0) us → ((p : ℕ) → 1 ≤ p → p < length ps → after_all (λ q. 0) us p ≡ length (lines_at ps p)) → sames_in ts ps us ≡ sames_of (state_by ts ps ss)
  count_all ss us fit all =
      let a = tasks_done us (λ p. 0) fit in
      let b = done_none 1 qs in
      let c = done_all (tree ts) (after_all (λ p. 0) us) 1 qs (λ d l. let e : 1 + d ≡ suc d = omega arith in rw e (all (suc d) (omega arith) (omega arith))) in
      omega arith
