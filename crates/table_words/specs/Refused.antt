-- The line that tells programs of a refusal.
use Rattle.std.specs.Prelude.{ℕ, List, [], ◌∷◌, ◌++◌, codes, decimal}
use Rattle.protocol.specs.Refusals.{number_of as refusal_number}
use Rattle.table_text.specs.declared.fault.TextFault.{TextFault}
use Rattle.table_text.specs.declared.fault.TextFault.TheVariants.{TooLong, Token, Protocol}
use Rattle.table_text.specs.Tables.{number_of, place_of}

-- a space and the number of the protocol's refusal, where there is one
abbrev pub refusal_text : TextFault → List ℕ
refusal_text TooLong = []
refusal_text (Token e) = []
refusal_text (Protocol r p) = 32 ∷ decimal (refusal_number r)

-- the word, the number, the place
abbrev pub refused_text : TextFault → List ℕ
refused_text f = codes "refused " ++ decimal (number_of f) ++ 32 ∷ decimal (place_of f) ++ refusal_text f
