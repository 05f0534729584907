-- Which names are used, by marks.
use Rattle.std.proofs.Common.{◌≡◌, Some, ℕ, ◌+◌, ◌≤◌, Bool, false, ◌||◌, eqb, List, [], ◌∷◌, ◌++◌, map, length, get_or, take, sym, refl, ap, ◌∙◌, take_all}
use Rattle.std.proofs.lemmas.List.{take_more}
use Rattle.deduction.specs.Term.{Kind}
use Rattle.terms.specs.Held.{held_terms}
use Rattle.terms.specs.Listed.{listed}
use Rattle.terms.specs.Tree.{tree}
use Rattle.terms.proofs.Listed.{listed_few}
use Rattle.scripts.specs.declared.script.Script.{Script}
use Rattle.scripts.specs.Lines.{script_of}
use Rattle.scripts.specs.View.{written}
use Rattle.freshness.specs.Fresh.{occurs_in}
use Rattle.freshness.specs.Given.{given_in}
use Rattle.freshness.specs.Marks.{Marked}
use Rattle.freshness.proofs.Using.{marked_script, marked_term, unmarked_unused}
use Rattle.rules.specs.State.{occurs, used_in, used_in_some, used_in_steps}
use Rattle.rules.specs.State.{nth}
use Rattle.rules.proofs.Nth.{nth_below}
use Rattle.rules.proofs.Used.{or_assoc, or_false, used_more, used_steps_more}
use Rattle.protocol.specs.declared.protocol.Protocol.{Protocol}
use Rattle.protocol.specs.declared.step.Step.{Step}
use Rattle.protocol.specs.States.{step_of}
use Rattle.protocol.specs.View.{lines_of, steps_of, view_of}
use Rattle.protocol.proofs.Asking.{agent_known}
use Rattle.protocol.proofs.Known.{all_steps, message_known}
use Rattle.protocol.proofs.Reading.{nth_is}

map_more : {A B : Type 0} (f : A → B) (xs : List A) (x : A) → map f (xs ++ (x ∷ [])) ≡ map f xs ++ (f x ∷ [])
map_more f [] x = refl
map_more f (y ∷ xs) x = ap (λ r. f y ∷ r) (map_more f xs x)

-- after p agents
pub record GivenUpTo (c : Protocol) (p : ℕ) (marks : List Bool) : Type 0 where
  pub size : length marks ≡ 512
  pub given : (k : Kind) (i : ℕ) → occurs_in k i (held_terms (listed c.terms) marks) ≡ used_in_some k i (map (script_of (tree (listed c.terms))) (take p (lines_of c)))

pub given_none : (c : Protocol) (marks : List Bool) → length marks ≡ 512 → ((t : ℕ) → get_or marks t false ≡ false) → GivenUpTo c 0 marks
given_none c marks size none = record { size = size; given = unmarked_unused (listed c.terms) marks (λ t l. none t) }

module _ (c : Protocol) (p : ℕ) (x : Script) (at : nth (lines_of c) p ≡ Some (written x)) (marks marks' : List Bool) where
  more_lines : take (p + 1) (lines_of c) ≡ take p (lines_of c) ++ (written x ∷ [])
  more_lines = take_more (lines_of c) p [] (nth_below (lines_of c) p (written x) at) ∙ ap (λ y. take p (lines_of c) ++ (y ∷ [])) (nth_is (lines_of c) p (written x) [] at)

  pub given_more : GivenUpTo c p marks → Marked (λ t. given_in t (written x)) marks marks' → GivenUpTo c (p + 1) marks'
  given_more g m = record {
    size = m.size ∙ g.size;
    given = λ k i.
        marked_script (listed c.terms) (listed_few c.terms) marks marks' (written x) (agent_known c p x at) m k i
        ∙ ap (λ b. b || used_in k i (script_of (tree (listed c.terms)) (written x))) (g.given k i)
        ∙ sym (ap (used_in_some k i) (ap (map (script_of (tree (listed c.terms)))) more_lines ∙ map_more (script_of (tree (listed c.terms))) (take p (lines_of c)) (written x))
        ∙ used_more k i (map (script_of (tree (listed c.terms))) (take p (lines_of c))) (script_of (tree (listed c.terms)) (written x)));
  }

pub given_all : (c : Protocol) (p : ℕ) (marks : List Bool) → length (lines_of c) ≤ p → GivenUpTo c p marks
    → (k : Kind) (i : ℕ) → occurs_in k i (held_terms (listed c.terms) marks) ≡ used_in_some k i (view_of c).scripts
given_all c p marks l g k i = g.given k i ∙ ap (λ ps. used_in_some k i (map (script_of (tree (listed c.terms))) ps)) (take_all p (lines_of c) l)

-- and after n steps
pub record ShownUpTo (c : Protocol) (n : ℕ) (marks : List Bool) : Type 0 where
  pub size : length marks ≡ 512
  pub uses : (k : Kind) (i : ℕ) → occurs_in k i (held_terms (listed c.terms) marks) ≡ (used_in_some k i (view_of c).scripts || used_in_steps k i (map (step_of (tree (listed c.terms))) (take n (steps_of c))))

pub shown_given : (c : Protocol) (marks : List Bool) → length marks ≡ 512 → ((k : Kind) (i : ℕ) → occurs_in k i (held_terms (listed c.terms) marks) ≡ used_in_some k i (view_of c).scripts) → ShownUpTo c 0 marks
shown_given c marks size given = record { size = size; uses = λ k i. given k i ∙ sym (or_false (used_in_some k i (view_of c).scripts)) }

module _ (c : Protocol) (n : ℕ) (x : Step) (at : nth (steps_of c) n ≡ Some x) (marks marks' : List Bool) where
  more_steps : take (n + 1) (steps_of c) ≡ take n (steps_of c) ++ (x ∷ [])
  more_steps = take_more (steps_of c) n x (nth_below (steps_of c) n x at) ∙ ap (λ y. take n (steps_of c) ++ (y ∷ [])) (nth_is (steps_of c) n x x at)

  pub shown_more : ShownUpTo c n marks → Marked (λ t. eqb x.message t) marks marks' → ShownUpTo c (n + 1) marks'
  shown_more g m = record {
    size = m.size ∙ g.size;
    uses = λ k i.
        let w = used_in_some k i (view_of c).scripts in
        let y = used_in_steps k i (map (step_of (tree (listed c.terms))) (take n (steps_of c))) in
        let z = occurs k i (tree (listed c.terms) x.message) in
        marked_term (listed c.terms) (listed_few c.terms) marks marks' x.message (message_known (length (listed c.terms)) (steps_of c) n x (all_steps c) at) m k i
        ∙ ap (λ b. b || z) (g.uses k i)
        ∙ or_assoc w y z
        ∙ ap (λ b. w || b)
        (sym (ap (used_in_steps k i) (ap (map (step_of (tree (listed c.terms)))) more_steps ∙ map_more (step_of (tree (listed c.terms))) (take n (steps_of c)) x)
        ∙ used_steps_more k i (map (step_of (tree (listed c.terms))) (take n (steps_of c))) (step_of (tree (listed c.terms)) x)));
  }

pub shown_all : (c : Protocol) (n : ℕ) (marks : List Bool) → length (steps_of c) ≤ n → ShownUpTo c n marks
    → (k : Kind) (i : ℕ) → occurs_in k i (held_terms (listed c.terms) marks) ≡ (used_in_some k i (view_of c).scripts || used_in_steps k i (view_of c).steps)
shown_all c n marks l g k i = g.uses k i ∙ ap (λ ss. used_in_some k i (view_of c).scripts || used_in_steps k i (map (step_of (tree (listed c.terms))) ss)) (take_all n (steps_of c) l)
