-- There is one answer for each line, with the same names declared before.
use Rattle.std.proofs.Common.{◌≡◌, ℕ, List, [], ◌∷◌, ◌++◌, length, None, Ok, Err, Result, sym, refl, ap, ◌∙◌, subst, append_assoc, append-nil, length-append, arith}
use Rattle.names.specs.declared.names.Named.{Named}
use Rattle.syntax.specs.declared.machine.TokenFault.TheVariants as tokens
use Rattle.syntax.specs.Grammar.{Tok, Begins, GoesOn}
use Rattle.syntax.specs.Levels.{Shallow}
use Rattle.syntax.specs.Check.{Comes, Come}
use Rattle.syntax.proofs.Lines.{come_more}
use Rattle.syntax.proofs.Tied.{line_over}
use Rattle.syntax.proofs.Determined.{Order, same, first_shorter, second_shorter, order, comes_once, begins_on, begins_line, on_in_line, on_in_on, refused_nowhere}
use Rattle.line_check.specs.declared.fault.LineFault.{LineFault}
use Rattle.line_check.specs.declared.fault.LineFault.TheVariants.{Outside, Undeclared, DeclaredTwice, TooDeep}
use Rattle.line_check.specs.declared.fault.LineError.{LineError}
use Rattle.line_check.specs.Faults.{fault_after, Faultless}
use Rattle.line_check.specs.Check.{Grants, IsWrong, Refuses, Checks}

pub faultless_more : (ds : List (List ℕ × Named)) (before ts : List Tok) (t : Tok) → Faultless ds before ts → fault_after ds (before ++ ts) t ≡ None → Faultless ds before (ts ++ t ∷ [])
faultless_more ds before [] t h e = (subst (λ z. fault_after ds z t ≡ None) (append-nil before) e, tt)
faultless_more ds before (u ∷ ts) t h e =
    (h.0, faultless_more ds (before ++ u ∷ []) ts t h.1 (subst (λ z. fault_after ds z t ≡ None) (sym (append_assoc before (u ∷ []) ts)) e))

faultless_front : (ds : List (List ℕ × Named)) (before ts : List Tok) (t : Tok) (r : List Tok) → Faultless ds before (ts ++ t ∷ r) → fault_after ds (before ++ ts) t ≡ None
faultless_front ds before [] t r h = subst (λ z. fault_after ds z t ≡ None) (sym (append-nil before)) h.0
faultless_front ds before (u ∷ ts) t r h =
    subst (λ z. fault_after ds z t ≡ None) (append_assoc before (u ∷ []) ts) (faultless_front ds (before ++ u ∷ []) ts t r h.1)

-- a wrong token stands in no shallow and faultless beginning of a line
wrong_nowhere : (ds : List (List ℕ × Named)) (ts : List Tok) (t : Tok) (e : LineFault) (r : List Tok) → IsWrong ds ts t e → Begins (ts ++ t ∷ r) → Shallow 0 (ts ++ t ∷ r) → Faultless ds [] (ts ++ t ∷ r) → ⊥
wrong_nowhere ds ts t Outside r w b s f = refused_nowhere ts t tokens.Outside r w b s
wrong_nowhere ds ts t TooDeep r w b s f = refused_nowhere ts t tokens.TooDeep r w b s
wrong_nowhere ds ts t Undeclared r w b s f = let e = sym (faultless_front ds [] ts t r f) ∙ w.1 in cc
wrong_nowhere ds ts t DeclaredTwice r w b s f = let e = sym (faultless_front ds [] ts t r f) ∙ w.1 in cc

module _ (ds : List (List ℕ × Named)) (text : List ℕ) (p : ℕ) where
  module _ (e : LineError) (q : ℕ) (h : Refuses ds text p e q) (us : List Tok) (n : ℕ) (come : Come text p us n) (begins : Begins us) (shallow : Shallow 0 us) (faultless : Faultless ds [] us) where
    not_past : (v : Tok) (r : List Tok) → us ≡ h.tokens ++ v ∷ r → ⊥
    not_past v r f = go (order text p (h.tokens ++ h.token ∷ []) us q n (come_more text p h.tokens h.end h.token e.place q h.come h.comes) come)
      where
        nowhere : (s : List Tok) → us ≡ h.tokens ++ h.token ∷ s → ⊥
        nowhere s k = wrong_nowhere ds h.tokens h.token e.fault s h.wrong (subst Begins k begins) (subst (Shallow 0) k shallow) (subst (Faultless ds []) k faultless)

        go : Order (h.tokens ++ h.token ∷ []) us q n → ⊥
        go (same g i) = nowhere [] (sym g)
        go (first_shorter w s g) = nowhere (w ∷ s) (g ∙ append_assoc h.tokens (h.token ∷ []) (w ∷ s))
        go (second_shorter w s g) =
            let a = ap length g in
            let b = ap length f in
            omega (arith, length-append h.tokens (h.token ∷ []), length-append us (w ∷ s), length-append h.tokens (v ∷ r))

  two_grants : (q n : ℕ) → Grants ds text p q → Grants ds text p n → q ≡ n
  two_grants q n h k = go (order text p h.tokens k.tokens q n h.come k.come)
    where
      go : Order h.tokens k.tokens q n → q ≡ n
      go (same e f) = f
      go (first_shorter t r e) = absurd (line_over h.tokens h.line (on_in_line h.tokens k.tokens t r e k.line))
      go (second_shorter t r e) = absurd (line_over k.tokens k.line (on_in_line k.tokens h.tokens t r e h.line))

  no_both : (q n : ℕ) (e : LineError) → Grants ds text p q → Refuses ds text p e n → ⊥
  no_both q n e h k = go (order text p k.tokens h.tokens k.end q k.come h.come)
    where
      go : Order k.tokens h.tokens k.end q → ⊥
      go (same f g) = line_over h.tokens h.line (subst GoesOn f k.goes_on)
      go (first_shorter v r f) = not_past e n k h.tokens q h.come (begins_line h.tokens h.line) h.shallow h.faultless v r f
      go (second_shorter v r f) = line_over h.tokens h.line (on_in_on h.tokens k.tokens v r f k.goes_on)

  same_fault : (ts : List Tok) (t : Tok) (e f : LineFault) → IsWrong ds ts t e → IsWrong ds ts t f → e ≡ f
  same_fault ts t Outside Outside h k = refl
  same_fault ts t Outside Undeclared h k = absurd (h k.0.0)
  same_fault ts t Outside DeclaredTwice h k = absurd (h k.0.0)
  same_fault ts t Outside TooDeep h k = absurd (h k.0)
  same_fault ts t Undeclared Outside h k = absurd (k h.0.0)
  same_fault ts t Undeclared Undeclared h k = refl
  same_fault ts t Undeclared DeclaredTwice h k = let e = sym h.1 ∙ k.1 in cc
  same_fault ts t Undeclared TooDeep h k = absurd (refused_nowhere ts t tokens.TooDeep [] k h.0.0 h.0.1)
  same_fault ts t DeclaredTwice Outside h k = absurd (k h.0.0)
  same_fault ts t DeclaredTwice Undeclared h k = let e = sym h.1 ∙ k.1 in cc
  same_fault ts t DeclaredTwice DeclaredTwice h k = refl
  same_fault ts t DeclaredTwice TooDeep h k = absurd (refused_nowhere ts t tokens.TooDeep [] k h.0.0 h.0.1)
  same_fault ts t TooDeep Outside h k = absurd (k h.0)
  same_fault ts t TooDeep Undeclared h k = absurd (refused_nowhere ts t tokens.TooDeep [] h k.0.0 k.0.1)
  same_fault ts t TooDeep DeclaredTwice h k = absurd (refused_nowhere ts t tokens.TooDeep [] h k.0.0 k.0.1)
  same_fault ts t TooDeep TooDeep h k = refl

  two_parts : {e f : LineError} → e.fault ≡ f.fault → e.place ≡ f.place → e ≡ f
  two_parts {e} {f} g h = ap (λ (z : LineFault). let x : LineError = record { fault = z; place = e.place } in x) g ∙ ap (λ (a : ℕ). let x : LineError = record { fault = f.fault; place = a } in x) h

  two_refusals : (q n : ℕ) (e f : LineError) → Refuses ds text p e q → Refuses ds text p f n → (e ≡ f) × (q ≡ n)
  two_refusals q n e f h k = go (order text p h.tokens k.tokens h.end k.end h.come k.come)
    where
      go : Order h.tokens k.tokens h.end k.end → (e ≡ f) × (q ≡ n)
      go (same g i) =
          let c = subst (λ z. Comes text z k.token f.place n) (sym i) k.comes in
          let one = comes_once text h.end h.token k.token e.place f.place q n h.comes c in
          let j : IsWrong ds h.tokens h.token f.fault = subst (λ z. IsWrong ds z h.token f.fault) (sym g) (subst (λ z. IsWrong ds k.tokens z f.fault) (sym one.0) k.wrong) in
          (two_parts (same_fault h.tokens h.token e.fault f.fault h.wrong j) one.1, one.2)
      go (first_shorter v r g) = absurd (not_past e q h k.tokens k.end k.come (begins_on k.tokens k.goes_on) k.shallow k.faultless v r g)
      go (second_shorter v r g) = absurd (not_past f n k h.tokens h.end h.come (begins_on h.tokens h.goes_on) h.shallow h.faultless v r g)

  pub checks_once : (r s : Result (Unit {0}) LineError) (q n : ℕ) → Checks ds text p r q → Checks ds text p s n → (r ≡ s) × (q ≡ n)
  checks_once (Ok x) (Ok y) q n h k = (refl, two_grants q n h k)
  checks_once (Ok x) (Err f) q n h k = absurd (no_both q n f h k)
  checks_once (Err e) (Ok y) q n h k = absurd (no_both n q e k h)
  checks_once (Err e) (Err f) q n h k = let two = two_refusals q n e f h k in (ap Err two.0, two.1)
