-- What the check of one line answers.
use Rattle.std.specs.Prelude.{◌≡◌, ℕ, List, [], ◌∷◌, Ok, Err, Result}
use Rattle.scan.specs.Tokens.{Lexeme, Next}
use Rattle.syntax.specs.declared.sign.Sign.{Sign}
use Rattle.syntax.specs.declared.check.SyntaxError.{SyntaxError}
use Rattle.syntax.specs.Grammar.{Tok, sign, GoesOn, IsLine}
use Rattle.syntax.specs.Levels.{Shallow}
use Rattle.syntax.specs.States.{Judged}
use Rattle.syntax.specs.Words.{tok}

-- the token t comes next in the text from p on, at the place a, and reading goes on at q
pub record Comes (text : List ℕ) (p : ℕ) (t : Tok) (a q : ℕ) : Type 0 where
  pub lexeme : Lexeme
  pub next : Next text p lexeme a q
  pub is : t ≡ tok lexeme

-- its sign and its place were answered
pub record Signs (text : List ℕ) (p : ℕ) (s : Sign) (a q : ℕ) : Type 0 where
  pub token : Tok
  pub comes : Comes text p token a q
  pub is : s ≡ sign token

-- the tokens ts come one after another from p to q
abbrev pub Come : List ℕ → ℕ → List Tok → ℕ → Type 0
Come text p [] q = p ≡ q
Come text p (t ∷ ts) q = (a m : ℕ) × Comes text p t a m × Come text m ts q

-- the tokens from p to q are a line of the grammar, which never has more than 64 brackets open
pub record Grants (text : List ℕ) (p q : ℕ) : Type 0 where
  pub tokens : List Tok
  pub come : Come text p tokens q
  pub line : IsLine tokens
  pub shallow : Shallow 0 tokens

-- some line has all tokens before the one at the error's place, which no line can have there, or which opens a 65th bracket
pub record Refuses (text : List ℕ) (p : ℕ) (e : SyntaxError) (q : ℕ) : Type 0 where
  pub tokens : List Tok
  pub end : ℕ
  pub come : Come text p tokens end
  pub goes_on : GoesOn tokens
  pub shallow : Shallow 0 tokens
  pub token : Tok
  pub comes : Comes text end token e.place q
  pub judged : Judged tokens token (Err e.fault)

-- the answer for the line from p on; reading goes on at q
abbrev pub Checks : List ℕ → ℕ → Result (Unit {0}) SyntaxError → ℕ → Type 0
Checks text p (Ok x) q = Grants text p q
Checks text p (Err e) q = Refuses text p e q

-- there is one answer
abbrev pub ChecksDetermined : Type 0
ChecksDetermined =
    (text : List ℕ) (p : ℕ) (r s : Result (Unit {0}) SyntaxError) (q n : ℕ) → Checks text p r q → Checks text p s n → (r ≡ s) × (q ≡ n)
