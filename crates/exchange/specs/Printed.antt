-- What is printed of a table.
use Rattle.std.specs.Prelude.{ℕ, zero, suc, List, [], ◌∷◌, ◌++◌, length, slice_index_or, Option, Ok, Err, Result}
use Rattle.std.specs.Io.KnownBytes.{Appends}
use Rattle.rules.specs.State.{State}
use Rattle.scripts.specs.declared.instruction.Line.{Line}
use Rattle.table_text.specs.declared.fault.TextFault.{TextFault}
use Rattle.protocol.specs.declared.protocol.Protocol.{Protocol}
use Rattle.protocol.specs.View.{lines_of, view_of}
use Rattle.table_text.specs.Calls.{Known}
use Rattle.table_text.specs.Law.{TextLaw}
use Rattle.table_text.specs.Tables.{Reads}
use Rattle.listing.specs.Listing.{listing_of}
use Rattle.table_words.specs.Refused.{refused_text}

-- the listing of one agent
abbrev pub listing_at : List (List Line) → ℕ → List ℕ
listing_at ps p = listing_of p (slice_index_or ps p [])

-- the listings of the first n agents, one after another
abbrev pub listings : List (List Line) → ℕ → List ℕ
listings ps zero = []
listings ps (suc n) = listings ps n ++ listing_at ps n

-- those of all agents
abbrev pub all_listings : List (List Line) → List ℕ
all_listings ps = listings ps (length ps)

-- the listings of a text that is granted, or one line that says why it is refused
abbrev pub printed : {T : Type 0} → Result T TextFault → List (List Line) → List ℕ
printed (Ok read) ps = all_listings ps
printed (Err fault) ps = refused_text fault ++ 10 ∷ []

-- the answer for a text, with the number of its steps
abbrev pub counted : Result (Unit {0}) TextFault → State → Result ℕ TextFault
counted (Ok read) st = Ok (length st.steps)
counted (Err fault) st = Err fault

-- A text was read: whole, and with the law on refusals. What is printed of the answer, and of the protocol that the granted calls made, was
-- put behind what was written before.
pub record Compiled (text : List ℕ) (before after : Option (List ℕ)) : Type 0 where
  pub answer : Result (Unit {0}) TextFault
  pub declared : Known
  pub protocol : Protocol
  pub read : Reads text answer declared (view_of protocol)
  pub refusals : TextLaw text (counted answer (view_of protocol))
  pub written : Appends before after (printed answer (lines_of protocol))
