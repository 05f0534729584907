-- A call performed as the rules say, and what holds of the protocol after it.
use Rattle.std.proofs.Common.{◌≡◌, ℕ, true, length, Result, sym, ap, ◌∙◌}
use Rattle.terms.specs.declared.table.Terms.{Terms}
use Rattle.terms.specs.Listed.{listed}
use Rattle.rules.specs.State.{State, Call as RuleCall, Told, Outcome, outcome, perform}
use Rattle.protocol.specs.declared.call.Reply.{Reply}
use Rattle.protocol.specs.declared.protocol.Protocol.{Protocol}
use Rattle.protocol.specs.declared.refusal.Refusal.{Refusal}
use Rattle.protocol.specs.Reached.{Reached}
use Rattle.protocol.specs.States.{are_all_known, state_by, scripts_known, steps_known}
use Rattle.protocol.specs.View.{lines_of, steps_of, view_of}
use Rattle.protocol.specs.Outcome.{answer_of, Performed, number}
use Rattle.protocol.specs.Adding.{Adds}
use Rattle.protocol.proofs.Growing.{both, scripts_later, steps_later}
use Rattle.protocol.proofs.Known.{all_scripts, all_steps}
use Rattle.protocol.proofs.Reaching.{reached_next}

pub performed_by : (st : State) (c : RuleCall) (d : Told) (end st' : State) (a : Result Reply Refusal) → perform st c ≡ outcome d end → a ≡ answer_of d → st' ≡ end
    → Performed st c a st'
performed_by st c d end st' a e p q = record {
  answer = p ∙ ap (λ (o : Outcome). answer_of o.told) (sym e);
  after = q ∙ ap (λ (o : Outcome). o.state) (sym e);
}

-- other terms beside the same scripts and steps
module _ (c : Protocol) (call : RuleCall) (o : Result ℕ Refusal) (u : Terms 512) (adds : Adds c.terms call o u) where
  pub adds_performed : Performed (view_of c) call (number o) (state_by (listed u) (lines_of c) (steps_of c))
  adds_performed = adds.performed (lines_of c) (steps_of c) (all_scripts c) (all_steps c)

  pub adds_known : are_all_known (listed u) (lines_of c) (steps_of c) ≡ true
  adds_known =
      let m : ℕ = length (listed c.terms) in
      let n : ℕ = length (listed u) in
      both (scripts_known n (lines_of c)) (steps_known n (steps_of c)) (scripts_later m n adds.longer (lines_of c) (all_scripts c)) (steps_later m n adds.longer (steps_of c) (all_steps c))

  pub adds_came : Reached (state_by (listed u) (lines_of c) (steps_of c))
  adds_came = reached_next (view_of c) (state_by (listed u) (lines_of c) (steps_of c)) call c.came adds_performed.after
