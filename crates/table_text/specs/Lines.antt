-- What reading one line answers.
use Rattle.std.specs.Prelude.{◌≡◌, ℕ, ◌≤◌, List, length, Some, None, Option, Ok, Err, Result}
use Rattle.std.specs.Borrow.{Bor}
use Rattle.rules.specs.State.{State}
use Rattle.syntax.specs.declared.sign.Keyword.{Keyword}
use Rattle.syntax.specs.declared.sign.Sign.{Sign}
use Rattle.syntax.specs.declared.sign.Sign.TheVariants as signs
use Rattle.syntax.specs.Grammar.{Tok, name, Line}
use Rattle.syntax.specs.Words.{of_word}
use Rattle.line_check.specs.Check.{Refuses}
use Rattle.protocol.specs.declared.refusal.Refusal.{Refusal}
use Rattle.table_text.specs.declared.fault.TextFault.{TextFault}
use Rattle.table_text.specs.declared.fault.TextFault.TheVariants as texts
use Rattle.table_text.specs.declared.fault.TextLineFault.{TextLineFault}
use Rattle.table_text.specs.declared.fault.TextLineFault.TheVariants.{Token, Protocol}
use Rattle.table_text.specs.Calls.{Known, LineMade}
use Rattle.table_text.specs.Tables.{IsLineAt}

-- a refused token has its own place, a refused call that of its line
abbrev pub placed : TextLineFault → ℕ → TextFault
placed (Token e) p = texts.Token e
placed (Protocol f) p = texts.Protocol f p

-- the line from p to q, with the answer of its calls
pub record LineRead (ds : Known) (text : List ℕ) (p : ℕ) (st : State) (r : Result (Unit {0}) Refusal) (q : ℕ) (ds' : Known) (st' : State) : Type 0 where
  pub line : Line
  pub is : IsLineAt ds text p line q
  pub made : LineMade line ds st r ds' st'

-- the line from p on: a token is wrong and nothing is done, or its calls are made
abbrev pub ReadsLine : Known → List ℕ → ℕ → State → Result (Unit {0}) TextLineFault → ℕ → Known → State → Type 0
ReadsLine ds text p st (Ok x) q ds' st' = LineRead ds text p st (Ok tt) q ds' st'
ReadsLine ds text p st (Err (Token e)) q ds' st' = Refuses ds text p e q × (ds' ≡ ds) × (st' ≡ st)
ReadsLine ds text p st (Err (Protocol f)) q ds' st' = LineRead ds text p st (Err f) q ds' st'

-- the same with the place of what is wrong
abbrev pub placed_at : Result (Unit {0}) TextLineFault → ℕ → Result (Unit {0}) TextFault
placed_at (Ok x) p = Ok x
placed_at (Err e) p = Err (placed e p)

pub record ReadsNext (ds : Known) (text : List ℕ) (p : ℕ) (st : State) (r : Result (Unit {0}) TextFault) (q : ℕ) (ds' : Known) (st' : State) : Type 0 where
  pub answer : Result (Unit {0}) TextLineFault
  pub placed : r ≡ placed_at answer p
  pub reads : ReadsLine ds text p st answer q ds' st'

-- the token is of the word that was found; where none was found, it is no name
abbrev pub IsWordOf : Tok → Option (Bor (List ℕ)) → Type 0
IsWordOf t None = (w : List ℕ) → t ≡ name w → ⊥
IsWordOf t (Some w) = t ≡ of_word w.now

-- the keyword that a sort of token is
abbrev pub keyword_in : Sign → Option Keyword
keyword_in signs.Name = None
keyword_in (signs.Keyword k) = Some k
keyword_in (signs.Opens s) = None
keyword_in (signs.Closes s) = None
keyword_in signs.Tick = None
keyword_in signs.End = None
keyword_in signs.Stray = None

-- there are no more declared names than terms, so that there is room for one more with every new term
abbrev pub Declarable : Known → State → Type 0
Declarable ds st = length ds ≤ length st.terms
