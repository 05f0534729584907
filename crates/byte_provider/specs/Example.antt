-- A worked example of sealing.
use Rattle.std.specs.Prelude.{◌≡◌, [], ◌∷◌, Some}
use Rattle.byte_provider.specs.Values.{seal_of, open_of}

abbrev pub SealedExample : Type 0
SealedExample =
    (seal_of (250 ∷ 255 ∷ []) (2 ∷ 0 ∷ 7 ∷ []) ≡ Some (250 ∷ 6 ∷ []))
    × (open_of (250 ∷ 6 ∷ []) (2 ∷ 0 ∷ 7 ∷ []) ≡ Some (250 ∷ 255 ∷ []))
