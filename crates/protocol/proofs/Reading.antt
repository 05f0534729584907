-- Reading what a protocol holds.
use Rattle.std.proofs.Common.{◌≡◌, ℕ, zero, suc, ◌<◌, ◌≤◌, List, [], ◌∷◌, map, length, get_or, Some, None, sym, refl, ap, ◌∙◌, arith}
use Rattle.std.specs.Prelude.{slice_get, slice_index_or}
use Rattle.std.proofs.lemmas.Option.{slice_get_read}
use Rattle.std.proofs.lemmas.List.{length-map, length-take}
use Rattle.bounded.specs.Items.{items}
use Rattle.terms.specs.Listed.{listed}
use Rattle.terms.specs.Tree.{tree}
use Rattle.scripts.specs.declared.script.Script.{Script}
use Rattle.scripts.specs.Lines.{script_of}
use Rattle.scripts.specs.View.{written}
use Rattle.rules.specs.State.{nth}
use Rattle.rules.proofs.Find.{some_none}
use Rattle.rules.proofs.Nth.{nth_at, some_is}
use Rattle.protocol.specs.declared.step.Step.{Step}
use Rattle.protocol.specs.declared.protocol.Protocol.{Protocol}
use Rattle.protocol.specs.States.{step_of}
use Rattle.protocol.specs.View.{lines_of, steps_of, view_of}

pub nth_get : {A : Type 0} (xs : List A) (n : ℕ) → nth xs n ≡ slice_get xs n
nth_get [] n = refl
nth_get (x ∷ xs) zero = refl
nth_get (x ∷ xs) (suc n) = nth_get xs n

pub nth_map : {A B : Type 0} (f : A → B) (xs : List A) (n : ℕ) (x : A) → nth xs n ≡ Some x → nth (map f xs) n ≡ Some (f x)
nth_map f [] n x e = absurd (some_none None e refl)
nth_map f (y ∷ xs) zero x e = ap (λ z. Some (f z)) (some_is e)
nth_map f (y ∷ xs) (suc n) x e = nth_map f xs n x e

pub nth_map_none : {A B : Type 0} (f : A → B) (xs : List A) (n : ℕ) → nth xs n ≡ None → nth (map f xs) n ≡ None
nth_map_none f [] n e = refl
nth_map_none f (y ∷ xs) zero e = absurd (some_none (Some y) refl e)
nth_map_none f (y ∷ xs) (suc n) e = nth_map_none f xs n e

-- what is at a place
pub nth_is : {A : Type 0} (xs : List A) (n : ℕ) (x d : A) → nth xs n ≡ Some x → get_or xs n d ≡ x
nth_is [] n x d e = absurd (some_none None e refl)
nth_is (y ∷ xs) zero x d e = some_is e
nth_is (y ∷ xs) (suc n) x d e = nth_is xs n x d e

-- an element that is read is at its place
pub nth_read : {A : Type 0} (xs : List A) (n : ℕ) (x : A) → n < length xs → x ≡ slice_index_or xs n x → nth xs n ≡ Some x
nth_read xs n x l e = nth_get xs n ∙ slice_get_read xs (length xs) n x refl l e

pub agents_are : (c : Protocol) → length (view_of c).scripts ≡ length (lines_of c)
agents_are c = length-map (lines_of c) (script_of (tree (listed c.terms)))

pub steps_are : (c : Protocol) → length (view_of c).steps ≡ length (steps_of c)
steps_are c = length-map (steps_of c) (step_of (tree (listed c.terms)))

-- the scripts as they are read, one after the other
module _ (c : Protocol) (xs : List Script) (is : xs ≡ items c.scripts) where
  pub script_read : (n : ℕ) (x : Script) → n < length xs → x ≡ slice_index_or xs n x → nth (lines_of c) n ≡ Some (written x)
  script_read n x l e = nth_map written (items c.scripts) n x (ap (λ ys. nth ys n) (sym is) ∙ nth_read xs n x l e)

  pub script_there : (n : ℕ) (x : Script) → n < length (lines_of c) → x ≡ slice_index_or xs n x → nth (lines_of c) n ≡ Some (written x)
  script_there n x l e = script_read n x (omega (arith, l, ap length is, length-map (items c.scripts) written)) e

  pub scripts_read : (n : ℕ) → length xs ≤ n → length (lines_of c) ≤ n
  scripts_read n l = omega (arith, l, ap length is, length-map (items c.scripts) written)

-- and the steps
module _ (c : Protocol) (xs : List Step) (is : xs ≡ items c.steps) where
  pub step_read : (n : ℕ) (d : Step) → n < length xs → nth (steps_of c) n ≡ Some (get_or xs n d)
  step_read n d l = ap (λ ys. nth ys n) (sym is) ∙ nth_at xs n d l

  pub steps_read : (n : ℕ) → length xs ≤ n → length (steps_of c) ≤ n
  steps_read n l = omega (arith, l, ap length is)

-- how many agents and steps there are at the most
pub agents_few : (c : Protocol) → length (lines_of c) ≤ 8
agents_few c = omega (arith, length-map (items c.scripts) written, length-take c.scripts.len c.scripts.cells, c.scripts.few)

pub steps_few : (c : Protocol) → length (steps_of c) ≤ 64
steps_few c = omega (arith, length-take c.steps.len c.steps.cells, c.steps.few)
