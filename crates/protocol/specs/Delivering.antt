-- What a step writes into the three scripts.
use Rattle.std.specs.Prelude.{◌≡◌, ℕ, [], ◌∷◌, ◌++◌, length, Ok, Err, Result, slice_set}
use Rattle.terms.specs.Listed.{listed}
use Rattle.terms.specs.Tree.{tree}
use Rattle.scripts.specs.declared.instruction.ScriptError.{ScriptError}
use Rattle.scripts.specs.declared.instruction.ScriptError.TheVariants.{Full, Missing}
use Rattle.scripts.specs.Composing.{view, AllNamed}
use Rattle.scripts.specs.View.{written}
use Rattle.rules.specs.Script.{Script as RuleScript}
use Rattle.rules.specs.State.{State, STEP, stepped, outcome, perform}
use Rattle.protocol.specs.declared.protocol.Protocol.{Protocol}
use Rattle.protocol.specs.declared.protocol.delivering.Delivered.{Delivered}
use Rattle.protocol.specs.declared.refusal.Refusal.{Refusal}
use Rattle.protocol.specs.declared.refusal.Refusal.TheVariants.{Unmakeable, ScriptFull}
use Rattle.protocol.specs.declared.step.Step.{Step}
use Rattle.protocol.specs.Outcome.{Performed}
use Rattle.protocol.specs.View.{view_of}

-- why a sender's script is not written
abbrev pub refused_send : ScriptError → ℕ → Refusal
refused_send (Missing t) p = Unmakeable t
refused_send Full p = ScriptFull p

-- the state after a step that wrote the three scripts
abbrev pub after_step : Protocol → ℕ → ℕ → ℕ → RuleScript → RuleScript → RuleScript → State
after_step c a b n sa sb sl = record {
  terms = (view_of c).terms;
  scripts = slice_set (slice_set (slice_set (view_of c).scripts a sa) b sb) 0 sl;
  steps = (view_of c).steps ++ (record {
    sender = a;
    receiver = b;
    message = tree (listed c.terms) n;
    sent = length sa;
    received = length sb;
    heard = length sl;
  } ∷ []);
}

-- the step is granted with these scripts
pub record Grants (c : Protocol) (a b n : ℕ) (d : Delivered) : Type 0 where
  pub performs :
      perform (view_of c) (STEP a b n)
      ≡ outcome (stepped a b n (length (view_of c).steps)) (after_step c a b n (view (listed c.terms) d.sent) (view (listed c.terms) d.received) (view (listed c.terms) d.heard))
  pub sent_known : AllNamed (length (listed c.terms)) (written d.sent)
  pub received_known : AllNamed (length (listed c.terms)) (written d.received)
  pub heard_known : AllNamed (length (listed c.terms)) (written d.heard)

-- the step is granted with the scripts, or refused
abbrev pub Delivers : Protocol → ℕ → ℕ → ℕ → Result Delivered Refusal → Type 0
Delivers c a b n (Ok d) = Grants c a b n d
Delivers c a b n (Err e) = Performed (view_of c) (STEP a b n) (Err e) (view_of c)

-- the record of a step with these scripts after it
abbrev pub step_with : ℕ → ℕ → ℕ → Delivered → Step
step_with a b n d = record {
  sender = a;
  receiver = b;
  message = n;
  sent = length (written d.sent);
  received = length (written d.received);
  heard = length (written d.heard);
}
