-- The tokens that are taken one by one.
use Rattle.std.proofs.Common.{◌≡◌, ℕ, true, List, ◌∷◌, sym, refl, ap, ◌∙◌, subst}
use Rattle.scan.specs.Tokens.{Lexeme, Next}
use Rattle.syntax.specs.Grammar.{Tok, sign, name}
use Rattle.syntax.specs.Machine.{is_name}
use Rattle.syntax.specs.Words.{of_word, tok}
use Rattle.syntax.proofs.Determined.{comes_once}
use Rattle.line_check.proofs.Naming.{word_is_name}
use Rattle.table_text.specs.Ahead.{Ahead}

-- what the scanner finds is the first of the tokens that come next
pub taken : (text : List ℕ) (p : ℕ) (x : Lexeme) (a q : ℕ) → Next text p x a q → (t : Tok) (ts : List Tok) → Ahead text p (t ∷ ts)
    → (t ≡ tok x) × Ahead text q ts
taken text p x a q next t ts (b, m, h, rest) =
    let one = comes_once text p t (tok x) b a m q h (record { lexeme = x; next = next; is = refl }) in
    (one.0, subst (λ z. Ahead text z ts) one.2 rest)

-- a word that is this name has its letters
pub word_of_name : (w v : List ℕ) → name w ≡ of_word v → w ≡ v
word_of_name w v e =
    let is : is_name (sign (of_word v)) ≡ true = sym (ap (λ z. is_name (sign z)) e) in
    let f : name w ≡ name v = e ∙ word_is_name v is in
    cc
