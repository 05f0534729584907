-- A store below the end of what is taken.
use Rattle.std.proofs.Common.{◌≡◌, ◌<◌, ℕ, List, take}
use Rattle.std.specs.Prelude.{slice_set}
use Rattle.std.proofs.Math.Seq.{take-set-lt}

pub take_slice_set : {X : Type 0} → (n : ℕ) (l : List X) (i : ℕ) (a : X) → i < n → take n (slice_set l i a) ≡ slice_set (take n l) i a
take_slice_set n l i a h = take-set-lt n l i a h
