-- What a plan writes.
use Rattle.std.specs.Prelude.{ℕ, ◌/◌, ◌%◌, ◌<◌, List, [], ◌∷◌, ◌++◌}
use Rattle.byte_provider.specs.declared.plan.Head.{Head}
use Rattle.byte_provider.specs.declared.plan.Head.TheVariants.{One, Two, Three}
use Rattle.byte_provider.specs.declared.plan.Plan.{Plan}
use Rattle.byte_provider.specs.declared.plan.Plan.TheVariants.{Copied, Shifted, Part}
use Rattle.byte_provider.specs.Held.{part, Inside}
use Rattle.byte_provider.specs.Values.{shifted}

abbrev pub head_bytes : Head → List ℕ
head_bytes (One a) = a ∷ []
head_bytes (Two a b) = a ∷ b ∷ []
head_bytes (Three a b c) = a ∷ b ∷ c ∷ []

-- they are bytes
abbrev pub HeadFits : Head → Type 0
HeadFits (One a) = a < 256
HeadFits (Two a b) = (a < 256) × (b < 256)
HeadFits (Three a b c) = (a < 256) × (b < 256) × (c < 256)

-- a length in two bytes, high first
abbrev pub length_bytes : ℕ → List ℕ
length_bytes n = (n / 256) ∷ (n % 256) ∷ []

-- the value that a plan makes of the bytes in use
abbrev pub written : List ℕ → Plan → List ℕ
written xs (Copied h a b) = head_bytes h ++ (part xs a ++ part xs b)
written xs (Shifted w c k) = shifted w (part xs k) 0 (part xs c)
written xs (Part p) = part xs p

-- the bytes that it adds to them
abbrev pub added : List ℕ → Plan → List ℕ
added xs (Copied h a b) = written xs (Copied h a b)
added xs (Shifted w c k) = written xs (Shifted w c k)
added xs (Part p) = []

-- its spans lie in the bytes in use, and a body is not empty
abbrev pub Sound : List ℕ → Plan → Type 0
Sound xs (Copied h a b) = Inside xs a × Inside xs b × HeadFits h
Sound xs (Shifted w c k) = Inside xs c × Inside xs k × (0 < k.len)
Sound xs (Part p) = Inside xs p
