-- What reading a text answers.
use Rattle.std.specs.Prelude.{◌≡◌, ℕ, ◌<◌, ◌≤◌, List, [], ◌∷◌, length, Ok, Err, Result}
use Rattle.rules.specs.State.{State, blank as blank_state}
use Rattle.syntax.specs.Grammar.{Line, line_tokens}
use Rattle.syntax.specs.Levels.{Shallow}
use Rattle.syntax.specs.Check.{Come}
use Rattle.line_check.specs.declared.fault.LineError.{LineError}
use Rattle.line_check.specs.Faults.{Faultless, fault_number}
use Rattle.line_check.specs.Check.{Refuses}
use Rattle.protocol.specs.declared.refusal.Refusal.{Refusal}
use Rattle.table_text.specs.declared.fault.TextFault.{TextFault}
use Rattle.table_text.specs.declared.fault.TextFault.TheVariants.{TooLong, Token, Protocol}
use Rattle.table_text.specs.Calls.{Known, LineMade}

-- the number of a fault, and its place
abbrev pub number_of : TextFault → ℕ
number_of TooLong = 15
number_of (Token e) = fault_number e.fault
number_of (Protocol f p) = 20

abbrev pub place_of : TextFault → ℕ
place_of TooLong = 32768
place_of (Token e) = e.place
place_of (Protocol f p) = p

-- the bytes from p to q are the line l: its tokens, never with more than 64 brackets open, and no name in it is wrong
pub record IsLineAt (ds : Known) (text : List ℕ) (p : ℕ) (l : Line) (q : ℕ) : Type 0 where
  pub come : Come text p (line_tokens l) q
  pub shallow : Shallow 0 (line_tokens l)
  pub faultless : Faultless ds [] (line_tokens l)

-- the lines ls stand one after another from p to q, and all their calls are granted
abbrev pub Granted : List ℕ → List Line → ℕ → Known → State → ℕ → Known → State → Type 0
Granted text [] p ds st q ds' st' = (q ≡ p) × (ds' ≡ ds) × (st' ≡ st)
Granted text (l ∷ ls) p ds st q ds' st' =
    (m : ℕ) × (es : Known) × (mid : State) × (p < length text) × IsLineAt ds text p l m × LineMade l ds st (Ok tt) es mid × Granted text ls m es mid q ds' st'

-- the lines ls of the text are granted, up to the place p
abbrev pub Begun : List ℕ → List Line → ℕ → Known → State → Type 0
Begun text ls p ds st = Granted text ls 0 [] blank_state p ds st

-- The whole text is lines that are granted; or it is too long; or the first lines are, and in the next one a token is wrong, or a call is
-- refused. The names ds and the state st are what the granted calls left.
pub data Reads (text : List ℕ) : Result (Unit {0}) TextFault → Known → State → Type 0 where
  whole : (ls : List Line) (ds : Known) (st : State) → length text ≤ 32768 → Begun text ls (length text) ds st → Reads text (Ok tt) ds st
  too_long : 32768 < length text → Reads text (Err TooLong) [] blank_state
  wrong_token : (ls : List Line) (p : ℕ) (ds : Known) (st : State) (e : LineError) (q : ℕ) → length text ≤ 32768 → Begun text ls p ds st → p < length text
      → Refuses ds text p e q → Reads text (Err (Token e)) ds st
  refused_call : (ls : List Line) (p : ℕ) (ds es : Known) (st st' : State) (l : Line) (q : ℕ) (f : Refusal) → length text ≤ 32768 → Begun text ls p ds st → p < length text
      → IsLineAt ds text p l q → LineMade l ds st (Err f) es st' → Reads text (Err (Protocol f p)) es st'

-- the text is read into a blank protocol, and its steps are counted; a refusal leaves the protocol blank
abbrev pub ReadsTable : List ℕ → Result ℕ TextFault → State → Type 0
ReadsTable text (Ok n) st = (ds : Known) × Reads text (Ok tt) ds st × (n ≡ length st.steps)
ReadsTable text (Err e) st = (ds : Known) × (mid : State) × Reads text (Err e) ds mid × (st ≡ blank_state)

-- there is one answer
abbrev pub ReadsDetermined : Type 0
ReadsDetermined =
    (text : List ℕ) (r s : Result (Unit {0}) TextFault) (ds es : Known) (st st' : State) → Reads text r ds st → Reads text s es st' → (r ≡ s) × (ds ≡ es) × (st ≡ st')
