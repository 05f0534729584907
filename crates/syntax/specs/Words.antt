-- What the scanner's tokens are to the grammar.
use Rattle.std.specs.Prelude.{ℕ, Bool, ◌&&◌, if◌then◌else◌, List, length, codes, nat_le, slice_index}
use Rattle.std.specs.Char.{is_ascii_alphabetic}
use Rattle.std.specs.Str.{bytes_eq}
use Rattle.scan.specs.declared.byte.Bracket.{Bracket}
use Rattle.scan.specs.declared.byte.Bracket.TheVariants.{Opens, Closes}
use Rattle.scan.specs.Tokens.{Lexeme}
use Rattle.scan.specs.Tokens as lexemes
use Rattle.terms.specs.declared.node.Kind.TheVariants.{Party, Number, Shared, Public, Table, Function}
use Rattle.syntax.specs.declared.sign.Keyword.TheVariants.{Kind, Own, Line}
use Rattle.syntax.specs.Grammar.{Tok, name, keyword, opens, closes, tick, end, stray}

-- 1 to 16 letters and digits, a letter first; a word has no other bytes
abbrev pub may_be_name : List ℕ → Bool
may_be_name w = nat_le (length w) 16 && is_ascii_alphabetic (slice_index w 0)

-- a keyword, a name, or a word that stands for nothing
abbrev pub of_word : List ℕ → Tok
of_word w =
    if bytes_eq w (codes "party") then keyword (Kind Party)
    else if bytes_eq w (codes "number") then keyword (Kind Number)
    else if bytes_eq w (codes "shared") then keyword (Kind Shared)
    else if bytes_eq w (codes "public") then keyword (Kind Public)
    else if bytes_eq w (codes "table") then keyword (Kind Table)
    else if bytes_eq w (codes "function") then keyword (Kind Function)
    else if bytes_eq w (codes "own") then keyword Own
    else if bytes_eq w (codes "line") then keyword Line
    else if may_be_name w then name w
    else stray

abbrev pub of_bracket : Bracket → Tok
of_bracket (Opens s) = opens s
of_bracket (Closes s) = closes s

abbrev pub tok : Lexeme → Tok
tok (lexemes.word w) = of_word w
tok (lexemes.bracket b) = of_bracket b
tok lexemes.tick = tick
tok lexemes.line_end = end
tok lexemes.stray = stray
