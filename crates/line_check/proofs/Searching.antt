-- The search for a name earlier in its line.
use Rattle.std.proofs.Common.{◌≡◌, ℕ, ◌<◌, ◌≤◌, ◌⊎◌, true, false, ◌||◌, List, [], ◌∷◌, length, refl, ap, ◌∙◌, subst, inl, inr, arith}
use Rattle.scan.specs.Tokens.{Lexeme, word, bracket, tick as a_tick, line_end, stray as a_stray, Next, Stands}
use Rattle.syntax.specs.Grammar.{Tok}
use Rattle.syntax.specs.Words.{tok}
use Rattle.syntax.specs.Check.{Come}
use Rattle.syntax.proofs.Determined.{comes_once}
use Rattle.line_check.specs.Faults.{is_name_of, is_earlier}

-- a token takes a byte, or is the line end at the end of the text
moves : (text : List ℕ) (p : ℕ) (x : Lexeme) (a q : ℕ) → Next text p x a q → ((p < q) × (q ≤ length text)) ⊎ ((x ≡ line_end) × (p ≤ q) × (q ≡ length text))
moves text p (word w) a q h = inl (omega (arith, h.skips.low, h.stands.some), h.stands.within)
moves text p (bracket b) a q h = inl (omega (arith, h.skips.low, h.stands.next), omega (arith, h.stands.next, h.stands.within))
moves text p a_tick a q h = inl (omega (arith, h.skips.low, h.stands.next), omega (arith, h.stands.next, h.stands.within))
moves text p line_end a q h = go h.stands
  where
    go : Stands text line_end a q → ((p < q) × (q ≤ length text)) ⊎ ((◌≡◌ {A = Lexeme} line_end line_end) × (p ≤ q) × (q ≡ length text))
    go (inl i) = inl (omega (arith, h.skips.low, i.next), omega (arith, i.next, i.within))
    go (inr (i, j)) = inr (refl, omega (arith, h.skips.low, i, j), omega (arith, i, j))
moves text p a_stray a q h = inl (omega (arith, h.skips.low, h.stands.next), omega (arith, h.stands.next, h.stands.within))

pub forward : (text : List ℕ) (p : ℕ) (x : Lexeme) (a q : ℕ) → Next text p x a q → (p ≤ q) × (q ≤ length text)
forward text p x a q h = go (moves text p x a q h)
  where
    go : ((p < q) × (q ≤ length text)) ⊎ ((x ≡ line_end) × (p ≤ q) × (q ≡ length text)) → (p ≤ q) × (q ≤ length text)
    go (inl i) = (omega (arith, i.0), i.1)
    go (inr i) = (i.1, omega (arith, i.2))

pub moved : (text : List ℕ) (p : ℕ) (x : Lexeme) (a q : ℕ) → Next text p x a q → p < length text → p < q
moved text p x a q h lt = go (moves text p x a q h)
  where
    go : ((p < q) × (q ≤ length text)) ⊎ ((x ≡ line_end) × (p ≤ q) × (q ≡ length text)) → p < q
    go (inl i) = i.0
    go (inr i) = omega (arith, i.2)

come_forward : (text : List ℕ) (p : ℕ) (ts : List Tok) (q : ℕ) → Come text p ts q → p ≤ q
come_forward text p [] q e = omega (arith, e)
come_forward text p (t ∷ ts) q (a, m, h, k) =
    let f = forward text p h.lexeme a m h.next in
    let g = come_forward text m ts q k in
    omega (arith, f.0)

-- tokens that take no bytes are no names
pub none_left : (text : List ℕ) (p : ℕ) (ts : List Tok) (q : ℕ) (w : List ℕ) → Come text p ts q → q ≤ p → is_earlier ts w ≡ false
none_left text p [] q w e le = refl
none_left text p (t ∷ ts) q w (a, m, h, k) le =
    let f = forward text p h.lexeme a m h.next in
    let g = come_forward text m ts q k in
    let rest = none_left text m ts q w k (omega (arith, f.0)) in
    no_name (moves text p h.lexeme a m h.next) g rest
  where
    no_name : ((p < m) × (m ≤ length text)) ⊎ ((h.lexeme ≡ line_end) × (p ≤ m) × (m ≡ length text)) → m ≤ q → is_earlier ts w ≡ false → is_earlier (t ∷ ts) w ≡ false
    no_name (inl i) g rest = absurd (omega (arith, i.0))
    no_name (inr i) g rest =
        let e : is_name_of t w ≡ false = ap (λ z. is_name_of z w) (h.is ∙ ap tok i.0) in
        ap (λ b. b || is_earlier ts w) e ∙ rest

-- what is left of the tokens, which has the name exactly if all of them have it
pub record Left (text : List ℕ) (p : ℕ) (w : List ℕ) (ts : List Tok) (end : ℕ) : Type 0 where
  pub rest : List Tok
  pub come : Come text p rest end
  pub same : is_earlier ts w ≡ is_earlier rest w

module _ (text : List ℕ) (p : ℕ) (w : List ℕ) (ts : List Tok) (end : ℕ) (left : Left text p w ts end) where
  pub left_none : end ≤ p → is_earlier ts w ≡ false
  left_none le = left.same ∙ none_left text p left.rest end w left.come le

  module _ (x : Lexeme) (a q : ℕ) (h : Next text p x a q) (lt : p < end) where
    -- the token that comes next is the first of what is left
    next_left : (r : List Tok) → Come text p r end → (s : List Tok) × Come text q s end × (is_earlier r w ≡ (is_name_of (tok x) w || is_earlier s w))
    next_left [] e = absurd (omega (arith, e))
    next_left (t ∷ r) (b, m, k, come) =
        let one = comes_once text p t (tok x) b a m q k (record { lexeme = x; next = h; is = refl }) in
        (r, subst (λ z. Come text z r end) one.2 come, ap (λ z. is_name_of z w || is_earlier r w) one.0)

    pub left_true : is_name_of (tok x) w ≡ true → is_earlier ts w ≡ true
    left_true e = let n = next_left left.rest left.come in left.same ∙ n.2 ∙ ap (λ b. b || is_earlier n.0 w) e

    pub left_more : is_name_of (tok x) w ≡ false → Left text q w ts end
    left_more e =
        let n = next_left left.rest left.come in
        record { rest = n.0; come = n.1; same = left.same ∙ n.2 ∙ ap (λ b. b || is_earlier n.0 w) e }
