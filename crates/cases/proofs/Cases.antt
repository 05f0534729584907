-- The cases on calls, by computing.
use Rattle.std.proofs.Common.{refl}
use native.Mathlib.Decide.{ℕ_discrete}
use Rattle.rules.specs.Script.{find}
use Rattle.rules.specs.Saturate.{saturate}
use Rattle.rules.specs.State.{place_of}
use Rattle.cases.specs.Cases.{LateKey, StillFresh}

pub late_key : LateKey
unfolding find saturate place_of ℕ_discrete
late_key = refl

pub still_fresh : StillFresh
unfolding find saturate place_of ℕ_discrete
still_fresh = record { answered = refl; sender = refl }
