-- What a listing says of its script.
use Rattle.std.specs.Prelude.{◌≡◌, ℕ, ◌<◌, ◌^◌, List, map, length, IfSome}
use Rattle.std.specs.List.{AllByRecursion}
use Rattle.scripts.specs.declared.instruction.Line.{Line}
use Rattle.listing.specs.Listing.{operands_of, listing_of}

-- an instruction whose operands fit into memory
pub record Fits (l : Line) : Type 0 where
  pub first : (operands_of l.op).0 < 2 ^ 64
  pub second : IfSome (operands_of l.op).1 (λ n. n < 2 ^ 64)

-- the same instructions, and of one agent if there are any
pub record AreAlike (p q : ℕ) (ls ms : List Line) : Type 0 where
  pub instructions : map (λ l. l.op) ls ≡ map (λ l. l.op) ms
  pub agent : 0 < length ls → p ≡ q

-- scripts with the same listing are alike: nothing of the instructions is lost in the text
abbrev pub ListingsTellScriptsApart : Type 0
ListingsTellScriptsApart = (p q : ℕ) (ls ms : List Line) → p < 2 ^ 64 → q < 2 ^ 64 → AllByRecursion Fits ls → AllByRecursion Fits ms →
    listing_of p ls ≡ listing_of q ms → AreAlike p q ls ms
