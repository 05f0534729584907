-- The pairs that a tuple stands for, built from the right.
use Rattle.std.proofs.lemmas.Option.{unwrap_or-slice_get}
use Rattle.std.proofs.Math.Seq.{get_or-append_seam, take-append_seam}
use Rattle.std.specs.Option.{unwrap_or}
use Rattle.std.specs.Prelude.{slice_get}
use Rattle.std.proofs.Common.{◌≡◌, ℕ, ◌-◌, ◌<◌, List, [], ◌∷◌, ◌++◌, length, get_or, take, Ok, Err, Result, refl, sym, ap, ◌∙◌, subst, append_assoc, arith, length-append}
use Rattle.rules.specs.State.{State}
use Rattle.protocol.specs.declared.refusal.Refusal.{Refusal}
use Rattle.table_text.specs.Calls.{on, ended, Builds, PAIR, Pairs}

-- the last place of a list
pub at_last : (xs front : List ℕ) (a i : ℕ) → xs ≡ front ++ a ∷ [] → i ≡ length xs - 1
    → (unwrap_or (slice_get xs i) 0 ≡ a) × (take i xs ≡ front)
at_last xs front a i e f =
    let k : i ≡ length front = omega (arith, ap length e, length-append front (a ∷ [])) in
    let g : get_or xs i 0 ≡ a = ap (λ z. get_or z i 0) e ∙ ap (λ z. get_or (front ++ a ∷ []) z 0) k ∙ get_or-append_seam front a [] 0 in
    let h : take i xs ≡ front = ap (take i) e ∙ ap (λ z. take z (front ++ a ∷ [])) k ∙ take-append_seam front (a ∷ []) in
    (unwrap_or-slice_get xs i 0 ∙ g, h)

-- of these, which are not none
abbrev PairsOf : List ℕ → State → Result ℕ Refusal → State → Type 0
PairsOf [] st r st' = ⊥
PairsOf (a ∷ bs) st r st' = Pairs a bs st r st'

-- a refusal ends all that are further left
one_left : (a : ℕ) (xs : List ℕ) (st st' : State) (e : Refusal) → PairsOf xs st (Err e) st' → Pairs a xs st (Err e) st'
one_left a [] st st' e h = absurd h
one_left a (b ∷ bs) st st' e h = ended e h refl

refused_left : (left xs : List ℕ) (st st' : State) (e : Refusal) → PairsOf xs st (Err e) st' → PairsOf (left ++ xs) st (Err e) st'
refused_left [] xs st st' e h = h
refused_left (a ∷ left) xs st st' e h = one_left a (left ++ xs) st st' e (refused_left left xs st st' e h)

-- the last of some
record Last (xs : List ℕ) : Type 0 where
  front : List ℕ
  item : ℕ
  is : xs ≡ front ++ item ∷ []

last_of : (a : ℕ) (bs : List ℕ) → Last (a ∷ bs)
last_of a [] = record { front = []; item = a; is = refl }
last_of a (b ∷ bs) = let h = last_of b bs in record { front = a ∷ h.front; item = h.item; is = ap (λ z. a ∷ z) h.is }

-- of the parts xs, which stood behind the front, those on the right are paired, and the others are left
pub record Paired (front xs : List ℕ) (st : State) (now : List ℕ) (pair : ℕ) (st' : State) : Type 0 where
  pub left : List ℕ
  pub first : ℕ
  pub others : List ℕ
  pub whole : xs ≡ left ++ first ∷ others
  pub items : now ≡ front ++ left
  pub made : Pairs first others st (Ok pair) st'

-- the last part was taken off, whatever it stood behind
abbrev pub Pops : List ℕ → ℕ → List ℕ → Type 0
Pops was a now = (front : List ℕ) (b : ℕ) → was ≡ front ++ b ∷ [] → (a ≡ b) × (now ≡ front)

pub begun : (was : List ℕ) (b : ℕ) (now : List ℕ) → Pops was b now → (front : List ℕ) (a : ℕ) (bs : List ℕ) (st : State)
    → was ≡ front ++ a ∷ bs → Paired front (a ∷ bs) st now b st
begun was b now pops front a bs st e =
    let l = last_of a bs in
    let f : was ≡ (front ++ l.front) ++ l.item ∷ [] = e ∙ ap (λ z. front ++ z) l.is ∙ sym (append_assoc front l.front (l.item ∷ [])) in
    let p = pops (front ++ l.front) l.item f in
    record { left = l.front; first = l.item; others = []; whole = l.is; items = p.1; made = (ap Ok p.0, refl) }

module _ (front xs : List ℕ) (st : State) (now : List ℕ) (pair : ℕ) (st' : State) (h : Paired front xs st now pair st') where
  -- the part before is paired with what was paired
  record Before (b : ℕ) (rest : List ℕ) : Type 0 where
    left : List ℕ
    whole : xs ≡ left ++ b ∷ h.first ∷ h.others
    items : rest ≡ front ++ left

  before : (b : ℕ) (rest : List ℕ) → Pops now b rest → length front < length now → Before b rest
  before b rest pops lt = go h.left h.whole h.items
    where
      go : (left : List ℕ) → xs ≡ left ++ h.first ∷ h.others → now ≡ front ++ left → Before b rest
      go [] e f = absurd (omega (arith, ap length f, length-append front []))
      go (a ∷ r) e f =
          let l = last_of a r in
          let p = pops (front ++ l.front) l.item (f ∙ ap (λ z. front ++ z) l.is ∙ sym (append_assoc front l.front (l.item ∷ []))) in
          record {
            left = l.front;
            whole = e ∙ ap (λ z. z ++ h.first ∷ h.others) l.is ∙ append_assoc l.front (l.item ∷ []) (h.first ∷ h.others)
                ∙ ap (λ z. l.front ++ z ∷ h.first ∷ h.others) (sym p.0);
            items = p.1;
          }

  module _ (b : ℕ) (rest : List ℕ) (pops : Pops now b rest) (lt : length front < length now) where
    pub one_more : (n : ℕ) (st'' : State) → Builds PAIR b pair st' (Ok n) st'' → Paired front xs st rest n st''
    one_more n st'' built =
        let k = before b rest pops lt in
        record { left = k.left; first = b; others = h.first ∷ h.others; whole = k.whole; items = k.items; made = on pair st' h.made built }

    pub refused : (a : ℕ) (bs : List ℕ) → xs ≡ a ∷ bs → (e : Refusal) (st'' : State) → Builds PAIR b pair st' (Err e) st''
        → Pairs a bs st (Err e) st''
    refused a bs is e st'' built =
        let k = before b rest pops lt in
        let here : PairsOf (b ∷ h.first ∷ h.others) st (Err e) st'' = on pair st' h.made built in
        let all = refused_left k.left (b ∷ h.first ∷ h.others) st st'' e here in
        subst (λ z. PairsOf z st (Err e) st'') (sym k.whole ∙ is) all
