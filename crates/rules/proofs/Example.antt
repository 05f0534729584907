-- The small example, by computing.
use Rattle.std.proofs.Common.{refl}
use native.Mathlib.Decide.{ℕ_discrete}
use Rattle.rules.specs.Script.{find}
use Rattle.rules.specs.Saturate.{saturate}
use Rattle.rules.specs.State.{place_of}
use Rattle.rules.specs.Theorems.{SmallExample}

pub small_example_lem : SmallExample
unfolding find saturate place_of ℕ_discrete
small_example_lem = refl
