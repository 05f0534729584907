-- The tokens of a text.
use Rattle.std.specs.Prelude.{◌≡◌, ℕ, ◌+◌, ◌<◌, ◌≤◌, ◌⊎◌, List, length, Some, None, Option, Ok, Err, Result, ◌≢◌, slice_index, slice_range}
use Rattle.scan.specs.declared.byte.Bracket.{Bracket}
use Rattle.scan.specs.declared.byte.ByteClass.{ByteClass}
use Rattle.scan.specs.declared.byte.ByteClass.TheVariants as classes
use Rattle.scan.specs.declared.scanner.Token.{Token}
use Rattle.scan.specs.declared.scanner.Token.TheVariants as tokens
use Rattle.scan.specs.declared.scanner.Scanner.{Scanner}
use Rattle.scan.specs.declared.scanner.StrayByte.{StrayByte}
use Rattle.scan.specs.Bytes.{class, AllOf}

-- the text that is read
abbrev pub text_of : Scanner → List ℕ
text_of s = s.text.now

-- the place where reading goes on
abbrev pub pos_of : Scanner → ℕ
pos_of s = s.pos

-- what a token is, wherever its bytes lie; stray is a byte that begins none
pub data Lexeme : Type 0 where
  word : List ℕ → Lexeme
  bracket : Bracket → Lexeme
  tick : Lexeme
  line_end : Lexeme
  stray : Lexeme

-- a token as a lexeme
abbrev pub lexeme : Option Token → Lexeme
lexeme (Some (tokens.Word w)) = word w.now
lexeme (Some (tokens.Bracket b)) = bracket b
lexeme (Some tokens.Tick) = tick
lexeme (Some tokens.LineEnd) = line_end
lexeme None = stray

-- what an answer found, and where
abbrev pub lexeme_of : Result (Token × ℕ) StrayByte → Lexeme
lexeme_of (Ok (t, a)) = lexeme (Some t)
lexeme_of (Err e) = stray

abbrev pub place_of : Result (Token × ℕ) StrayByte → ℕ
place_of (Ok (t, a)) = a
place_of (Err e) = e.0

-- no space stands at a
abbrev pub IsNoSpace : List ℕ → ℕ → Type 0
IsNoSpace text a = a < length text → class (slice_index text a) ≢ classes.Space

-- from p on there are only spaces before the place a, which has none
pub record Skips (text : List ℕ) (p a : ℕ) : Type 0 where
  pub low : p ≤ a
  pub within : a ≤ length text
  pub spaces : AllOf classes.Space text p a
  pub stops : IsNoSpace text a

-- the bytes from a to before q are a longest run of letters and digits
pub record IsWord (text : List ℕ) (a q : ℕ) (w : List ℕ) : Type 0 where
  pub some : a < q
  pub within : q ≤ length text
  pub bytes : w ≡ slice_range text a q
  pub all : AllOf classes.Word text a q
  pub longest : q < length text → class (slice_index text q) ≢ classes.Word

-- one byte of a class stands at a, and q is the place after it
pub record IsByte (text : List ℕ) (a q : ℕ) (k : ByteClass) : Type 0 where
  pub within : a < length text
  pub of_class : class (slice_index text a) ≡ k
  pub next : q ≡ a + 1

-- what stands at the place a, with the place q after it; a line ends with its byte or with the text
abbrev pub Stands : List ℕ → Lexeme → ℕ → ℕ → Type 0
Stands text (word w) a q = IsWord text a q w
Stands text (bracket b) a q = IsByte text a q (classes.Bracket b)
Stands text tick a q = IsByte text a q classes.Tick
Stands text line_end a q = IsByte text a q classes.LineEnd ⊎ ((a ≡ length text) × (q ≡ a))
Stands text stray a q = IsByte text a q classes.Stray

-- the next lexeme from p on, its place a, and the place q where reading goes on
pub record Next (text : List ℕ) (p : ℕ) (x : Lexeme) (a q : ℕ) : Type 0 where
  pub skips : Skips text p a
  pub stands : Stands text x a q
