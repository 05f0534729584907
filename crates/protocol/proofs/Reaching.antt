-- States that came about by calls, and what holds of them.
use Rattle.std.proofs.Common.{◌≡◌, true, List, [], ◌∷◌, sym, refl}
use mathlib.Core.Logic.{∥∥₁_elim, ∥∥₁_prop}
use Rattle.terms.specs.declared.node.TermNode.{TermNode}
use Rattle.scripts.specs.declared.instruction.Line.{Line}
use Rattle.protocol.specs.declared.step.Step.{Step}
use Rattle.rules.specs.State.{State, Call, blank, perform}
use Rattle.protocol.specs.States.{are_all_known, trees, state_by}
use Rattle.protocol.specs.Reached.{Reached}

pub blank_state : state_by [] ([] ∷ []) [] ≡ blank
unfolding trees
blank_state = refl

pub blank_reached : (st : State) → st ≡ blank → Reached st
blank_reached st e = ∣ ([], e) ∣₁

-- one call more
pub reached_next : (st st' : State) (c : Call) → Reached st → st' ≡ (perform st c).state → Reached st'
reached_next st st' c r e = ∥∥₁_elim r ∥∥₁_prop (λ w. ∣ ((perform st c).told ∷ w.0, (st, w.1, (c, refl, sym e))) ∣₁)

module _ (ts : List TermNode) (ps : List (List Line)) (ss : List Step) (no_terms : ts ≡ []) (listener : ps ≡ [] ∷ []) (no_steps : ss ≡ []) where
  pub blank_parts : state_by ts ps ss ≡ blank
  blank_parts = simp (no_terms, listener, no_steps) blank_state

  pub blank_known : are_all_known ts ps ss ≡ true
  blank_known = simp (no_terms, listener, no_steps) refl
