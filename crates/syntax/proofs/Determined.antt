-- There is one answer for each line.
use Rattle.std.proofs.Common.{◌≡◌, ℕ, ◌≤◌, List, [], ◌∷◌, ◌++◌, length, Ok, Err, Result, sym, refl, ap, ◌∙◌, subst, append_assoc, append-nil, length-append, arith}
use Rattle.scan.proofs.Once.{next_once}
use Rattle.syntax.specs.declared.machine.TokenFault.{TokenFault}
use Rattle.syntax.specs.declared.machine.TokenFault.TheVariants.{Outside, TooDeep}
use Rattle.syntax.specs.declared.check.SyntaxError.{SyntaxError}
use Rattle.syntax.specs.Grammar.{Tok, Begins, GoesOn, IsLine}
use Rattle.syntax.specs.Levels.{level, opened, Shallow}
use Rattle.syntax.specs.States.{Judged}
use Rattle.syntax.specs.Words.{tok}
use Rattle.syntax.specs.Check.{Comes, Come, Grants, Refuses, Checks}
use Rattle.syntax.proofs.Lines.{come_more}
use Rattle.syntax.proofs.Tied.{line_over}

pub comes_once : (text : List ℕ) (p : ℕ) (t u : Tok) (a b q n : ℕ) → Comes text p t a q → Comes text p u b n → (t ≡ u) × (a ≡ b) × (q ≡ n)
comes_once text p t u a b q n h k =
    let one = next_once text p h.lexeme k.lexeme a b q n h.next k.next in
    (h.is ∙ ap tok one.0 ∙ sym k.is, one.1, one.2)

-- one of two lists of tokens from one place goes on from the other
pub data Order (ts us : List Tok) (q n : ℕ) : Type 0 where
  same : ts ≡ us → q ≡ n → Order ts us q n
  first_shorter : (t : Tok) (r : List Tok) → us ≡ ts ++ t ∷ r → Order ts us q n
  second_shorter : (t : Tok) (r : List Tok) → ts ≡ us ++ t ∷ r → Order ts us q n

one_longer : (t u : Tok) (ts us : List Tok) (q n : ℕ) → t ≡ u → Order ts us q n → Order (t ∷ ts) (u ∷ us) q n
one_longer t u ts us q n c (same e f) = same (cc) f
one_longer t u ts us q n c (first_shorter v r e) = first_shorter v r (cc)
one_longer t u ts us q n c (second_shorter v r e) = second_shorter v r (cc)

pub order : (text : List ℕ) (p : ℕ) (ts us : List Tok) (q n : ℕ) → Come text p ts q → Come text p us n → Order ts us q n
order text p [] [] q n e f = same refl (sym e ∙ f)
order text p [] (u ∷ us) q n e f = first_shorter u us refl
order text p (t ∷ ts) [] q n e f = second_shorter t ts refl
order text p (t ∷ ts) (u ∷ us) q n (a, m, h, k) (b, l, i, j) =
    let one = comes_once text p t u a b m l h i in
    one_longer t u ts us q n one.0 (order text m ts us q n k (subst (λ z. Come text z us n) (sym one.2) j))

-- a front of shallow tokens has at most 64 brackets open
shallow_front : (n : ℕ) (ts : List Tok) (t : Tok) (r : List Tok) → Shallow n (ts ++ t ∷ r) → opened n (ts ++ t ∷ []) ≤ 64
shallow_front n [] t r h = h.0
shallow_front n (u ∷ ts) t r h = shallow_front (level n u) ts t r h.1

-- what is refused stands in no shallow beginning of a line
pub refused_nowhere : (ts : List Tok) (t : Tok) (e : TokenFault) (r : List Tok) → Judged ts t (Err e) → Begins (ts ++ t ∷ r) → Shallow 0 (ts ++ t ∷ r) → ⊥
refused_nowhere ts t Outside r j (l, s, e) h = j (l, r ++ s, e ∙ simp append_assoc)
refused_nowhere ts t TooDeep r j b h = let k = shallow_front 0 ts t r h in omega (arith, j.1)

-- so tokens that go on from those before a refused one cannot be such a beginning
module _ (text : List ℕ) (p : ℕ) (e : SyntaxError) (q : ℕ) (h : Refuses text p e q) (us : List Tok) (n : ℕ) (come : Come text p us n) (begins : Begins us) (shallow : Shallow 0 us) where
  not_past : (v : Tok) (r : List Tok) → us ≡ h.tokens ++ v ∷ r → ⊥
  not_past v r f = go (order text p (h.tokens ++ h.token ∷ []) us q n (come_more text p h.tokens h.end h.token e.place q h.come h.comes) come)
    where
      go : Order (h.tokens ++ h.token ∷ []) us q n → ⊥
      go (same g i) = refused_nowhere h.tokens h.token e.fault [] h.judged (subst Begins (sym g) begins) (subst (Shallow 0) (sym g) shallow)
      go (first_shorter w s g) =
          let k : us ≡ h.tokens ++ h.token ∷ w ∷ s = g ∙ append_assoc h.tokens (h.token ∷ []) (w ∷ s) in
          refused_nowhere h.tokens h.token e.fault (w ∷ s) h.judged (subst Begins k begins) (subst (Shallow 0) k shallow)
      go (second_shorter w s g) =
          let a = ap length g in
          let b = ap length f in
          omega (arith, length-append h.tokens (h.token ∷ []), length-append us (w ∷ s), length-append h.tokens (v ∷ r))

pub begins_on : (ts : List Tok) → GoesOn ts → Begins ts
begins_on ts (l, t, r, e) = (l, t ∷ r, e)

pub begins_line : (ts : List Tok) → IsLine ts → Begins ts
begins_line ts (l, e) = (l, [], e ∙ sym (append-nil ts))

pub on_in_line : (ts us : List Tok) (t : Tok) (r : List Tok) → us ≡ ts ++ t ∷ r → IsLine us → GoesOn ts
on_in_line ts us t r e (l, f) = (l, t, r, f ∙ e)

pub on_in_on : (ts us : List Tok) (t : Tok) (r : List Tok) → us ≡ ts ++ t ∷ r → GoesOn us → GoesOn ts
on_in_on ts us t r e (l, v, s, f) = (l, t, r ++ v ∷ s, f ∙ ap (λ z. z ++ v ∷ s) e ∙ append_assoc ts (t ∷ r) (v ∷ s))

pub same_fault : (ts : List Tok) (t : Tok) (e f : TokenFault) → Judged ts t (Err e) → Judged ts t (Err f) → e ≡ f
same_fault ts t Outside Outside h k = refl
same_fault ts t Outside TooDeep h k = absurd (h k.0)
same_fault ts t TooDeep Outside h k = absurd (k h.0)
same_fault ts t TooDeep TooDeep h k = refl

two_grants : (text : List ℕ) (p q n : ℕ) → Grants text p q → Grants text p n → q ≡ n
two_grants text p q n h k = go (order text p h.tokens k.tokens q n h.come k.come)
  where
    go : Order h.tokens k.tokens q n → q ≡ n
    go (same e f) = f
    go (first_shorter t r e) = absurd (line_over h.tokens h.line (on_in_line h.tokens k.tokens t r e k.line))
    go (second_shorter t r e) = absurd (line_over k.tokens k.line (on_in_line k.tokens h.tokens t r e h.line))

no_both : (text : List ℕ) (p q n : ℕ) (e : SyntaxError) → Grants text p q → Refuses text p e n → ⊥
no_both text p q n e h k = go (order text p k.tokens h.tokens k.end q k.come h.come)
  where
    go : Order k.tokens h.tokens k.end q → ⊥
    go (same f g) = line_over h.tokens h.line (subst GoesOn f k.goes_on)
    go (first_shorter v r f) = not_past text p e n k h.tokens q h.come (begins_line h.tokens h.line) h.shallow v r f
    go (second_shorter v r f) = line_over h.tokens h.line (on_in_on h.tokens k.tokens v r f k.goes_on)

two_parts : {e f : SyntaxError} → e.fault ≡ f.fault → e.place ≡ f.place → e ≡ f
two_parts {e} {f} g h = ap (λ (z : TokenFault). let x : SyntaxError = record { fault = z; place = e.place } in x) g ∙ ap (λ (a : ℕ). let x : SyntaxError = record { fault = f.fault; place = a } in x) h

two_refusals : (text : List ℕ) (p q n : ℕ) (e f : SyntaxError) → Refuses text p e q → Refuses text p f n → (e ≡ f) × (q ≡ n)
two_refusals text p q n e f h k = go (order text p h.tokens k.tokens h.end k.end h.come k.come)
  where
    go : Order h.tokens k.tokens h.end k.end → (e ≡ f) × (q ≡ n)
    go (same g i) =
        let c = subst (λ z. Comes text z k.token f.place n) (sym i) k.comes in
        let one = comes_once text h.end h.token k.token e.place f.place q n h.comes c in
        let j : Judged h.tokens h.token (Err f.fault) = subst (λ z. Judged z h.token (Err f.fault)) (sym g) (subst (λ z. Judged k.tokens z (Err f.fault)) (sym one.0) k.judged) in
        let fault = same_fault h.tokens h.token e.fault f.fault h.judged j in
        (two_parts fault one.1, one.2)
    go (first_shorter v r g) = absurd (not_past text p e q h k.tokens k.end k.come (begins_on k.tokens k.goes_on) k.shallow v r g)
    go (second_shorter v r g) = absurd (not_past text p f n k h.tokens h.end h.come (begins_on h.tokens h.goes_on) h.shallow v r g)

pub checks_once : (text : List ℕ) (p : ℕ) (r s : Result (Unit {0}) SyntaxError) (q n : ℕ) → Checks text p r q → Checks text p s n → (r ≡ s) × (q ≡ n)
checks_once text p (Ok x) (Ok y) q n h k = (refl, two_grants text p q n h k)
checks_once text p (Ok x) (Err f) q n h k = absurd (no_both text p q n f h k)
checks_once text p (Err e) (Ok y) q n h k = absurd (no_both text p n q e k h)
checks_once text p (Err e) (Err f) q n h k = let two = two_refusals text p q n e f h k in (ap Err two.0, two.1)
