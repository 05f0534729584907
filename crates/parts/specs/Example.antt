-- The parts of the small example, in which one party sends another its own name with a fresh number.
use Rattle.std.specs.Prelude.{◌≡◌, length}
use Rattle.rules.specs.State.{State, blank}
use Rattle.rules.specs.Theorems.{after, example_calls}
use Rattle.parts.specs.Parts.{initial, reached}
use Rattle.parts.specs.Sames.{sames_of}

-- the state after the example's calls
abbrev pub example : State
example = after blank example_calls

-- the sender starts with its own name and the other's, the receiver with its own; both do the rest in the one step, and the receiver
-- compares once
pub record ExampleParts : Type 0 where
  pub sender_starts : initial example 1 ≡ 2
  pub receiver_starts : initial example 2 ≡ 1
  pub sender_ends : reached example.steps 2 1 ≡ 5
  pub receiver_ends : reached example.steps 1 2 ≡ 6
  pub one_step : length example.steps ≡ 1
  pub one_comparison : sames_of example ≡ 1
