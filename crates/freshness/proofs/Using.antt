-- What marks of given terms say of used names.
use Rattle.std.proofs.Common.{◌≡◌, ℕ, ◌+◌, ◌<◌, ◌≤◌, Bool, true, false, ◌||◌, eqb, ◌⊎◌, List, [], ◌∷◌, ◌++◌, length, get_or, take, Decides, sym, refl, ap, ◌∙◌, subst, inl, inr, ⊎_elim, arith}
use Rattle.std.proofs.lemmas.List.{take_more}
use Rattle.std.proofs.lemmas.Bool.{cases_Bool, eqb-true, eq-eqb, or_cases, or_left, or_right, false≢true}
use Rattle.std.proofs.lemmas.Bool.Decides.{same_from_decides, Decides-like, Decides-or}
use Rattle.deduction.specs.Term.{Kind, Term, Occurs}
use Rattle.rules.specs.State.{occurs, occurs_given, used_in}
use Rattle.rules.proofs.Used.{occurs_decides, or_false, or_assoc}
use Rattle.terms.specs.declared.node.TermNode.{TermNode}
use Rattle.terms.specs.Tree.{tree}
use Rattle.terms.specs.Held.{held_terms}
use Rattle.scripts.specs.declared.instruction.Instruction.{Instruction}
use Rattle.scripts.specs.declared.instruction.Instruction.TheVariants.{Given, Fresh, From, To, Recv, Mate, Left, Right, Join, Seal, Digest, Entry, Open, Same, Send}
use Rattle.scripts.specs.declared.instruction.Line.{Line}
use Rattle.scripts.specs.Holding.{no_line}
use Rattle.scripts.specs.Composing.{OpBelow, AllNamed}
use Rattle.scripts.specs.Lines.{op_of, script_of}
use Rattle.freshness.specs.Given.{gives, given_in}
use Rattle.freshness.specs.Marks.{Marked}
use Rattle.freshness.specs.Fresh.{occurs_in}
use Rattle.freshness.proofs.Naming.{OccursMarked, marked_decides}

-- marks upon marks
pub marked_then : (f g h : ℕ → Bool) (a b c : List Bool) → ((t : ℕ) → h t ≡ (f t || g t)) → Marked f a b → Marked g b c → Marked h a c
marked_then f g h a b c both first second = record {
  marks = λ t l.
      second.marks t l
      ∙ (ap (λ x. x || g t) (first.marks t l) ∙ (or_assoc (get_or a t false) (f t) (g t) ∙ ap (λ x. get_or a t false || x) (sym (both t))));
  size = second.size ∙ first.size;
}

-- one line more
pub given_more : (t : ℕ) (ls : List Line) (i : ℕ) → i < length ls → given_in t (take (i + 1) ls) ≡ (given_in t (take i ls) || gives t (get_or ls i no_line).op)
given_more t ls i l = ap (given_in t) (take_more ls i no_line l) ∙ last (take i ls) (get_or ls i no_line)
  where
    last : (ls : List Line) (l : Line) → given_in t (ls ++ (l ∷ [])) ≡ (given_in t ls || gives t l.op)
    last [] l = or_false (gives t l.op)
    last (x ∷ ls) l = ap (λ y. gives t x.op || y) (last ls l) ∙ sym (or_assoc (gives t x.op) (given_in t ls) (gives t l.op))

-- a given term is one of the first n
gives_below : (n t : ℕ) (op : Instruction) → OpBelow n op → gives t op ≡ true → t < n
gives_below n t (Given u) b e = subst (λ v. v < n) (eqb-true u t e) b
gives_below n t (Fresh u) b e = absurd (false≢true e)
gives_below n t (From u) b e = absurd (false≢true e)
gives_below n t (To u) b e = absurd (false≢true e)
gives_below n t (Recv u) b e = absurd (false≢true e)
gives_below n t (Mate i) b e = absurd (false≢true e)
gives_below n t (Left i) b e = absurd (false≢true e)
gives_below n t (Right i) b e = absurd (false≢true e)
gives_below n t (Join i j) b e = absurd (false≢true e)
gives_below n t (Seal i j) b e = absurd (false≢true e)
gives_below n t (Digest i j) b e = absurd (false≢true e)
gives_below n t (Entry i j) b e = absurd (false≢true e)
gives_below n t (Open i j) b e = absurd (false≢true e)
gives_below n t (Same i j) b e = absurd (false≢true e)
gives_below n t (Send i j) b e = absurd (false≢true e)

pub given_below : (n t : ℕ) (ls : List Line) → AllNamed n ls → given_in t ls ≡ true → t < n
given_below n t [] known e = absurd (false≢true e)
given_below n t (l ∷ ls) known e =
    ⊎_elim (gives_below n t l.op known.0.1) (given_below n t ls known.1) (or_cases (gives t l.op) (given_in t ls) e)

module _ (T : ℕ → Term) (k : Kind) (i : ℕ) where
  -- the name occurs in the term of a number that passes the test
  abbrev pub OccursBy : (ℕ → Bool) → Type 0
  OccursBy test = (t : ℕ) × (test t ≡ true) × Occurs k i (T t)

  never : Decides false (OccursBy (λ t. false))
  never = (λ e. absurd (false≢true e), λ w. absurd (false≢true w.1))

  one_decides : (u : ℕ) → Decides (occurs k i (T u)) (OccursBy (λ t. eqb u t))
  one_decides u = Decides-like (occurs k i (T u)) (λ o. (u, eq-eqb u u refl, o)) from (occurs_decides k i (T u))
    where
      from : OccursBy (λ t. eqb u t) → Occurs k i (T u)
      from (t, e, o) = subst (λ v. Occurs k i (T v)) (sym (eqb-true u t e)) o

  op_decides : (op : Instruction) → Decides (occurs_given k i (op_of T op)) (OccursBy (λ t. gives t op))
  op_decides (Given u) = one_decides u
  op_decides (Fresh u) = never
  op_decides (From u) = never
  op_decides (To u) = never
  op_decides (Recv u) = never
  op_decides (Mate a) = never
  op_decides (Left a) = never
  op_decides (Right a) = never
  op_decides (Join a b) = never
  op_decides (Seal a b) = never
  op_decides (Digest a b) = never
  op_decides (Entry a b) = never
  op_decides (Open a b) = never
  op_decides (Same a b) = never
  op_decides (Send a b) = never

  -- a name is used in a script exactly if it occurs in the term of a given number
  pub used_decides : (ls : List Line) → Decides (used_in k i (script_of T ls)) (OccursBy (λ t. given_in t ls))
  used_decides [] = never
  used_decides (l ∷ ls) =
      Decides-like (used_in k i (script_of T (l ∷ ls))) to from
      (Decides-or (occurs_given k i (op_of T l.op)) (used_in k i (script_of T ls)) (op_decides l.op) (used_decides ls))
    where
      to : OccursBy (λ t. gives t l.op) ⊎ OccursBy (λ t. given_in t ls) → OccursBy (λ t. given_in t (l ∷ ls))
      to (inl (t, e, o)) = (t, or_left (gives t l.op) (given_in t ls) e, o)
      to (inr (t, e, o)) = (t, or_right (gives t l.op) (given_in t ls) e, o)

      from : OccursBy (λ t. given_in t (l ∷ ls)) → OccursBy (λ t. gives t l.op) ⊎ OccursBy (λ t. given_in t ls)
      from (t, e, o) = go (or_cases (gives t l.op) (given_in t ls) e)
        where
          go : (gives t l.op ≡ true) ⊎ (given_in t ls ≡ true) → OccursBy (λ t. gives t l.op) ⊎ OccursBy (λ t. given_in t ls)
          go (inl q) = inl (t, q, o)
          go (inr q) = inr (t, q, o)

-- no marks: no name occurs
pub unmarked_unused : (ts : List TermNode) (marks : List Bool) → ((t : ℕ) → t < length ts → get_or marks t false ≡ false)
    → (k : Kind) (i : ℕ) → occurs_in k i (held_terms ts marks) ≡ false
unmarked_unused ts marks none k i = go (cases_Bool (occurs_in k i (held_terms ts marks)))
  where
    go : (occurs_in k i (held_terms ts marks) ≡ true) ⊎ (occurs_in k i (held_terms ts marks) ≡ false) → occurs_in k i (held_terms ts marks) ≡ false
    go (inl e) = let w = (marked_decides ts marks k i).0 e in absurd (false≢true (sym (none w.0 w.1) ∙ w.2))
    go (inr e) = e

module _ (ts : List TermNode) (few : length ts ≤ 512) (marks marks' : List Bool) where
  -- the names that occur in marked terms, after more marks
  pub marked_more : (test : ℕ → Bool) → ((t : ℕ) → test t ≡ true → t < length ts) → Marked test marks marks'
      → (k : Kind) (i : ℕ) (b : Bool) → Decides b (OccursBy (tree ts) k i test)
      → occurs_in k i (held_terms ts marks') ≡ (occurs_in k i (held_terms ts marks) || b)
  marked_more test below marked k i b d =
      same_from_decides (occurs_in k i (held_terms ts marks')) (occurs_in k i (held_terms ts marks) || b) (marked_decides ts marks' k i)
      (Decides-like (occurs_in k i (held_terms ts marks) || b) to from
      (Decides-or (occurs_in k i (held_terms ts marks)) b (marked_decides ts marks k i) d))
    where
      to : OccursMarked ts marks k i ⊎ OccursBy (tree ts) k i test → OccursMarked ts marks' k i
      to (inl (t, l, e, o)) = (t, l, marked.marks t (omega arith) ∙ or_left (get_or marks t false) (test t) e, o)
      to (inr (t, e, o)) = let l = below t e in (t, l, marked.marks t (omega arith) ∙ or_right (get_or marks t false) (test t) e, o)

      from : OccursMarked ts marks' k i → OccursMarked ts marks k i ⊎ OccursBy (tree ts) k i test
      from (t, l, e, o) = go (or_cases (get_or marks t false) (test t) (sym (marked.marks t (omega arith)) ∙ e))
        where
          go : (get_or marks t false ≡ true) ⊎ (test t ≡ true) → OccursMarked ts marks k i ⊎ OccursBy (tree ts) k i test
          go (inl q) = inl (t, l, q, o)
          go (inr q) = inr (t, q, o)

  -- marking what a script gives adds the names that are used in it
  pub marked_script : (ls : List Line) → AllNamed (length ts) ls → Marked (λ t. given_in t ls) marks marks'
      → (k : Kind) (i : ℕ) → occurs_in k i (held_terms ts marks') ≡ (occurs_in k i (held_terms ts marks) || used_in k i (script_of (tree ts) ls))
  marked_script ls known marked k i =
      marked_more (λ t. given_in t ls) (λ t e. given_below (length ts) t ls known e) marked k i (used_in k i (script_of (tree ts) ls)) (used_decides (tree ts) k i ls)

  -- marking a term adds the names that occur in it
  pub marked_term : (u : ℕ) → u < length ts → Marked (λ t. eqb u t) marks marks'
      → (k : Kind) (i : ℕ) → occurs_in k i (held_terms ts marks') ≡ (occurs_in k i (held_terms ts marks) || occurs k i (tree ts u))
  marked_term u l marked k i =
      marked_more (λ t. eqb u t) (λ t e. subst (λ v. v < length ts) (eqb-true u t e) l) marked k i (occurs k i (tree ts u)) (one_decides (tree ts) k i u)
