-- The parts of the small example, by computing.
use Rattle.std.proofs.Common.{refl}
use native.Mathlib.Decide.{ℕ_discrete}
use Rattle.rules.specs.Script.{find}
use Rattle.rules.specs.Saturate.{saturate}
use Rattle.rules.specs.State.{place_of}
use Rattle.parts.specs.Example.{ExampleParts}

pub example_parts : ExampleParts
unfolding find saturate place_of ℕ_discrete
example_parts =
    record { sender_starts = refl; receiver_starts = refl; sender_ends = refl; receiver_ends = refl; one_step = refl; one_comparison = refl }
