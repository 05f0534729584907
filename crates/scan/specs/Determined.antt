-- The text determines its tokens.
use Rattle.std.specs.Prelude.{◌≡◌, ℕ, List}
use Rattle.scan.specs.Tokens.{Lexeme, Next}

-- from each place on there is one next lexeme, at one place, and reading goes on at one place
abbrev pub TokensDetermined : Type 0
TokensDetermined =
    (text : List ℕ) (p : ℕ) (x y : Lexeme) (a b q n : ℕ) → Next text p x a q → Next text p y b n → (x ≡ y) × (a ≡ b) × (q ≡ n)
