-- What a run of a blank protocol answers, from the law on runs.
use Rattle.std.proofs.Common.{◌≡◌, ℕ, List, [], length, Some, Ok, Err, Result, sym, ap, ◌∙◌, inl, inr, arith}
use Rattle.std.proofs.lemmas.List.{length-map}
use Rattle.provider.specs.Algebra.{Algebra}
use Rattle.provider.specs.Meaning.{Meaning}
use Rattle.rules.specs.State.{State, blank, nth}
use Rattle.parts.specs.Sames.{sames_of}
use Rattle.scripts.specs.declared.instruction.Line.{Line}
use Rattle.terms.specs.declared.node.TermNode.{TermNode}
use Rattle.protocol.specs.declared.step.Step.{Step}
use Rattle.protocol.specs.States.{state_by}
use Rattle.protocol.proofs.Trees.{length_trees}
use Rattle.rules.proofs.Nth.{nth_below}
use Rattle.runs.specs.declared.fault.Played.{Played}
use Rattle.runs.specs.declared.fault.RunFault.{RunFault}
use Rattle.runs.specs.Memory.{Enough}
use Rattle.runs.specs.Law.{RanRight, Unfitting}

module _ (ts : List TermNode) (ps : List (List Line)) (ss : List Step) (is : state_by ts ps ss ≡ blank) where
  no_terms : length ts ≡ 0
  no_terms = sym (length_trees ts) ∙ ap (λ (st : State). length st.terms) is

  one_script : length ps ≡ 1
  one_script = sym (length-map ps _) ∙ ap (λ (st : State). length st.scripts) is

  -- no memory is enough
  pub nothing_needed : Enough ts ps [] []
  nothing_needed = (omega (arith, no_terms), rw one_script (omega arith))

  -- nothing is played, and nothing stops it: no term is loaded, and there is no party
  pub blank_played : {S X : Type 0} (f : Algebra X) (m : S → Meaning X) (r : Result Played RunFault) (s : S) (readings slots : List ℕ)
      → RanRight f m [] ts ps ss r s readings slots → r ≡ Ok (record { steps = 0; sames = 0 })
  blank_played f m (Ok p) s readings slots (n, c, _) = ap (λ k. Ok (record { steps = k; sames = p.sames })) n ∙ ap (λ k. Ok (record { steps = 0; sames = k })) (c ∙ ap sames_of is)
  blank_played f m (Err e) s readings slots (h, _) = absurd (go h.unfitting)
    where
      none : (n : ℕ) (x : TermNode) → nth ts n ≡ Some x → ⊥
      none n x q = let l = nth_below ts n x q in omega (arith, no_terms, l)

      go : Unfitting m ts ps ss s readings slots e h.place → ⊥
      go (inl (_, _, w)) = none h.place w.item w.named
      go (inr (a, b, _, _)) = omega (arith, a, b, one_script)
