-- What the check of one line answers, with the names ds declared before.
use Rattle.std.specs.Prelude.{◌≡◌, ℕ, List, [], Some, Ok, Err, Result}
use Rattle.names.specs.declared.names.Named.{Named}
use Rattle.syntax.specs.declared.machine.TokenFault.TheVariants as tokens
use Rattle.syntax.specs.Grammar.{Tok, GoesOn, IsLine}
use Rattle.syntax.specs.Levels.{Shallow}
use Rattle.syntax.specs.States.{Judged}
use Rattle.syntax.specs.Check.{Comes, Come}
use Rattle.line_check.specs.declared.fault.LineFault.{LineFault}
use Rattle.line_check.specs.declared.fault.LineFault.TheVariants.{Outside, Undeclared, DeclaredTwice, TooDeep}
use Rattle.line_check.specs.declared.fault.LineError.{LineError}
use Rattle.line_check.specs.Faults.{fault_after, Faultless}

-- the tokens from p to q are a line of the grammar, which never has more than 64 brackets open, and no name in it is wrong
pub record Grants (ds : List (List ℕ × Named)) (text : List ℕ) (p q : ℕ) : Type 0 where
  pub tokens : List Tok
  pub come : Come text p tokens q
  pub line : IsLine tokens
  pub shallow : Shallow 0 tokens
  pub faultless : Faultless ds [] tokens

-- the token t after the tokens ts: no line can have it there, or it opens a 65th bracket; or it may stand there, and is a wrong name
abbrev pub IsWrong : List (List ℕ × Named) → List Tok → Tok → LineFault → Type 0
IsWrong ds ts t Outside = Judged ts t (Err tokens.Outside)
IsWrong ds ts t Undeclared = Judged ts t (Ok tt) × (fault_after ds ts t ≡ Some Undeclared)
IsWrong ds ts t DeclaredTwice = Judged ts t (Ok tt) × (fault_after ds ts t ≡ Some DeclaredTwice)
IsWrong ds ts t TooDeep = Judged ts t (Err tokens.TooDeep)

-- nothing is wrong with the tokens before the one at the error's place, which is wrong
pub record Refuses (ds : List (List ℕ × Named)) (text : List ℕ) (p : ℕ) (e : LineError) (q : ℕ) : Type 0 where
  pub tokens : List Tok
  pub end : ℕ
  pub come : Come text p tokens end
  pub goes_on : GoesOn tokens
  pub shallow : Shallow 0 tokens
  pub faultless : Faultless ds [] tokens
  pub token : Tok
  pub comes : Comes text end token e.place q
  pub wrong : IsWrong ds tokens token e.fault

-- the answer for the line from p on; reading goes on at q
abbrev pub Checks : List (List ℕ × Named) → List ℕ → ℕ → Result (Unit {0}) LineError → ℕ → Type 0
Checks ds text p (Ok x) q = Grants ds text p q
Checks ds text p (Err e) q = Refuses ds text p e q

-- there is one answer
abbrev pub ChecksDetermined : Type 0
ChecksDetermined =
    (ds : List (List ℕ × Named)) (text : List ℕ) (p : ℕ) (r s : Result (Unit {0}) LineError) (q n : ℕ)
    → Checks ds text p r q → Checks ds text p s n → (r ≡ s) × (q ≡ n)
