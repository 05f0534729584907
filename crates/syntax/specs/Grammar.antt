-- The grammar of one line of a table: its trees, and how each is written.
use Rattle.std.specs.Prelude.{◌≡◌, ℕ, List, [], ◌∷◌, ◌++◌}
use Rattle.scan.specs.declared.byte.Shape.{Shape}
use Rattle.scan.specs.declared.byte.Shape.TheVariants.{Round, Curly, Square, Angle}
use Rattle.terms.specs.declared.node.Kind.{Kind}
use Rattle.syntax.specs.declared.sign.Keyword.{Keyword}
use Rattle.syntax.specs.declared.sign.Keyword.TheVariants as words
use Rattle.syntax.specs.declared.sign.Sign.{Sign}
use Rattle.syntax.specs.declared.sign.Sign.TheVariants as signs

-- what a token is to the grammar; stray is a byte or a word that stands for nothing
pub data Tok : Type 0 where
  name : List ℕ → Tok
  keyword : Keyword → Tok
  opens : Shape → Tok
  closes : Shape → Tok
  tick : Tok
  end : Tok
  stray : Tok

abbrev pub sign : Tok → Sign
sign (name w) = signs.Name
sign (keyword k) = signs.Keyword k
sign (opens s) = signs.Opens s
sign (closes s) = signs.Closes s
sign tick = signs.Tick
sign end = signs.End
sign stray = signs.Stray

-- what can seal
pub data Key : Type 0 where
  named : List ℕ → Key
  entry : List ℕ → List ℕ → Key
  mate : Key → Key

-- terms, and the parts of a tuple after its first
mutual
  pub data Term : Type 0 where
    key : Key → Term
    tuple : Term → Parts → Term
    sealed : Term → Key → Term
    digest : List ℕ → Term → Term

  pub data Parts : Type 0 where
    final : Term → Parts
    more : Term → Parts → Parts

pub data Line : Type 0 where
  blank : Line
  declares : Kind → List ℕ → List (List ℕ) → Line
  owns : List ℕ → Term → Line
  sends : List ℕ → List ℕ → Term → Line

-- Each is written as follows, before the tokens r that come after it.

-- N, T[A], k'
abbrev pub key_tokens : Key → List Tok → List Tok
key_tokens (named n) r = name n ∷ r
key_tokens (entry t a) r = name t ∷ opens Square ∷ name a ∷ closes Square ∷ r
key_tokens (mate k) r = key_tokens k (tick ∷ r)

-- k, (a b c), {a}k, F<a>
abbrev mutual
  pub term_tokens : Term → List Tok → List Tok
  term_tokens (key k) r = key_tokens k r
  term_tokens (tuple t ps) r = opens Round ∷ term_tokens t (part_tokens ps r)
  term_tokens (sealed t k) r = opens Curly ∷ term_tokens t (closes Curly ∷ key_tokens k r)
  term_tokens (digest f t) r = name f ∷ opens Angle ∷ term_tokens t (closes Angle ∷ r)

  pub part_tokens : Parts → List Tok → List Tok
  part_tokens (final t) r = term_tokens t (closes Round ∷ r)
  part_tokens (more t ps) r = term_tokens t (part_tokens ps r)

abbrev pub name_tokens : List (List ℕ) → List Tok → List Tok
name_tokens [] r = r
name_tokens (n ∷ ns) r = name n ∷ name_tokens ns r

abbrev pub line_tokens : Line → List Tok
line_tokens blank = end ∷ []
line_tokens (declares k n ns) = keyword (words.Kind k) ∷ name n ∷ name_tokens ns (end ∷ [])
line_tokens (owns p t) = keyword words.Own ∷ name p ∷ term_tokens t (end ∷ [])
line_tokens (sends p q t) = keyword words.Line ∷ name p ∷ name q ∷ term_tokens t (end ∷ [])

-- these tokens are a line of the grammar
abbrev pub IsLine : List Tok → Type 0
IsLine ts = (l : Line) × (line_tokens l ≡ ts)

-- some line of the grammar begins with these tokens
abbrev pub Begins : List Tok → Type 0
Begins ts = (l : Line) × (r : List Tok) × (line_tokens l ≡ ts ++ r)

-- some line of the grammar has these tokens, and then more
abbrev pub GoesOn : List Tok → Type 0
GoesOn ts = (l : Line) × (t : Tok) × (r : List Tok) × (line_tokens l ≡ ts ++ t ∷ r)
