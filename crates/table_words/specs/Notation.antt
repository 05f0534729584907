-- Terms as a table writes them.
use Rattle.std.specs.Prelude.{ℕ, Bool, true, false, nat_lt, if◌then◌else◌, List, [], ◌++◌, length, Some, None, Option, codes, encode_utf8_all}
use Rattle.deduction.specs.Term.{Form, pair, sealed, digest, entry, Term, name, built, mate}
use Rattle.names.specs.declared.names.Named.{Named}
use Rattle.terms.specs.Listed.{listed}
use Rattle.terms.specs.Tree.{tree}
use Rattle.names.specs.Names.{known, word_of}
use Rattle.table_words.specs.declared.notation.TermText.{TermText}

-- a word, or a question mark for none
abbrev pub word_or : Option (List ℕ) → List ℕ
word_or None = codes "?"
word_or (Some w) = w

-- the word that was declared first for a number
abbrev pub name_text : List (List ℕ × Named) → ℕ → List ℕ
name_text ds t = encode_utf8_all (word_or (word_of ds t))

-- what stands before, between and behind the parts of a term; a pair that is the rest of a tuple has no brackets of its own
abbrev pub before : Form → Bool → List ℕ
before pair true = []
before pair false = codes "("
before sealed rest = codes "{"
before digest rest = []
before entry rest = []

abbrev pub between : Form → List ℕ
between pair = codes " "
between sealed = codes "}"
between digest = codes "<"
between entry = codes "["

abbrev pub behind : Form → Bool → List ℕ
behind pair true = []
behind pair false = codes ")"
behind sealed rest = []
behind digest rest = codes ">"
behind entry rest = codes "]"

-- whether the second part is the rest of a tuple
abbrev pub has_rest : Form → Bool
has_rest pair = true
has_rest sealed = false
has_rest digest = false
has_rest entry = false

-- A term in the notation of tables, which is the rest of a tuple or stands alone. A name is written as the number that is its identity
-- was declared.
abbrev pub notation : List (List ℕ × Named) → Bool → Term → List ℕ
notation ds rest (name k id) = name_text ds id
notation ds rest (mate k) = notation ds false k ++ codes "'"
notation ds rest (built f a b) = before f rest ++ notation ds false a ++ between f ++ notation ds (has_rest f) b ++ behind f rest

-- what is printed of a term: its notation where the number is that of a term, and where it is not, nothing is promised
abbrev pub printed : TermText → Option (List ℕ)
printed t = if nat_lt t.term (length (listed t.terms.now)) then Some (notation (known t.names.now) false (tree (listed t.terms.now) t.term)) else None
