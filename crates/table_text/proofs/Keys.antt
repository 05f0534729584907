-- A key as what is under its ticks, and its ticks.
use Rattle.std.proofs.Common.{◌≡◌, ℕ, zero, suc, List, [], ◌∷◌, Ok, Err, Result, OnOk, Bool, true, false, refl, sym, ap, ◌∙◌, subst}
use Rattle.scan.specs.declared.byte.Shape.TheVariants.{Round, Curly, Square, Angle}
use Rattle.rules.specs.State.{State}
use Rattle.syntax.specs.declared.sign.Sign.{Sign}
use Rattle.syntax.specs.declared.sign.Sign.TheVariants as signs
use Rattle.syntax.specs.Grammar.{Tok, sign, name, keyword, opens, closes, tick, end, stray, Key, named, entry, mate}
use Rattle.protocol.specs.declared.refusal.Refusal.{Refusal}
use Rattle.table_text.specs.Ahead.{Ahead, Apart, Passes, Read, key_name, key_rest, parts_terms}
use Rattle.table_text.specs.Calls.{Known, Is, Then, on, ended, Builds, ENTRY, MATE, KeyMade, number_in}
use Rattle.table_text.specs.Keys.{IsTickless, NoSquare, ticks, Mated}

-- the key without its ticks, and how many they are
abbrev pub under : Key → Key
under (named n) = named n
under (entry t a) = entry t a
under (mate k) = under k

abbrev pub count : Key → ℕ
count (named n) = zero
count (entry t a) = zero
count (mate k) = suc (count k)

pub under_tickless : (k : Key) → IsTickless (under k)
under_tickless (named n) = tt
under_tickless (entry t a) = tt
under_tickless (mate k) = under_tickless k

pub under_name : (k : Key) → key_name (under k) ≡ key_name k
under_name (named n) = refl
under_name (entry t a) = refl
under_name (mate k) = under_name k

ticks_more : (n : ℕ) (ts : List Tok) → ticks n (tick ∷ ts) ≡ tick ∷ ticks n ts
ticks_more zero ts = refl
ticks_more (suc n) ts = ap (λ z. tick ∷ z) (ticks_more n ts)

pub under_rest : (k : Key) (ts : List Tok) → key_rest k ts ≡ key_rest (under k) (ticks (count k) ts)
under_rest (named n) ts = refl
under_rest (entry t a) ts = refl
under_rest (mate k) ts = under_rest k (tick ∷ ts) ∙ ap (key_rest (under k)) (ticks_more (count k) ts)

-- what stands after a term is no tick and no square bracket
no_tick : (t : Tok) → parts_terms t → sign t ≡ signs.Tick → ⊥
no_tick (name w) h e = cc
no_tick (keyword k) h e = cc
no_tick (opens s) h e = cc
no_tick (closes s) h e = cc
no_tick tick h e = h
no_tick end h e = cc
no_tick stray h e = cc

no_square : (t : Tok) → parts_terms t → sign t ≡ signs.Opens Square → ⊥
no_square (name w) h e = cc
no_square (keyword k) h e = cc
no_square (opens Round) h e = cc
no_square (opens Curly) h e = cc
no_square (opens Square) h e = h
no_square (opens Angle) h e = h
no_square (closes s) h e = cc
no_square tick h e = cc
no_square end h e = cc
no_square stray h e = cc

pub ticks_no_square : (n : ℕ) (ts : List Tok) → Apart ts → NoSquare (ticks n ts)
ticks_no_square zero [] h = h
ticks_no_square zero (t ∷ ts) h = no_square t h
ticks_no_square (suc n) ts h = λ e. cc

-- a thing whose answer is handed on
then_is : (F : State → Result ℕ Refusal → State → Type 0) (st : State) (r : Result ℕ Refusal) (st' : State) → Then F (λ a. Is a) st r st'
    → F st r st'
then_is F st r st' (on a mid f g) = subst (λ z. F st z st') (sym g.0) (subst (F st (Ok a)) (sym g.1) f)
then_is F st r st' (ended e f g) = subst (λ z. F st z st') (sym g) f

-- the last mate is made of the others
mated_more : (n a : ℕ) (st : State) (r : Result ℕ Refusal) (st' : State) → Mated (suc n) a st r st'
    → Then (Mated n a) (λ b. Builds MATE b 0) st r st'
mated_more zero a st r st' h = on a st (refl, refl) (then_is (Builds MATE a 0) st r st' h)
mated_more (suc n) a st r st' (on b mid f g) = go (mated_more n b mid r st' g)
  where
    go : Then (Mated n b) (λ x. Builds MATE x 0) mid r st' → Then (Mated (suc n) a) (λ x. Builds MATE x 0) st r st'
    go (on x m h i) = on x m (on b mid f h) i
    go (ended e h i) = ended e (on b mid f h) i
mated_more (suc n) a st r st' (ended e f g) = ended e (ended e f refl) g

-- a key is made if what is under its ticks is, and then a mate for each
pub with_ticks : (ds : Known) (k : Key) (st : State) (r : Result ℕ Refusal) (st' : State)
    → Then (KeyMade ds (under k)) (Mated (count k)) st r st' → KeyMade ds k st r st'
with_ticks ds (named n) st r st' h = then_is (KeyMade ds (named n)) st r st' h
with_ticks ds (entry t a) st r st' h = then_is (KeyMade ds (entry t a)) st r st' h
with_ticks ds (mate k) st r st' (on a mid f g) = go (λ x m h. with_ticks ds k st x m (on a mid f h)) (mated_more (count k) a mid r st' g)
  where
    go : ((x : Result ℕ Refusal) (m : State) → Mated (count k) a mid x m → KeyMade ds k st x m)
        → Then (Mated (count k) a) (λ x. Builds MATE x 0) mid r st' → Then (KeyMade ds k) (λ x. Builds MATE x 0) st r st'
    go whole (on x m h i) = on x m (whole (Ok x) m h) i
    go whole (ended e h i) = ended e (whole (Err e) st' h) i
with_ticks ds (mate k) st r st' (ended e f g) = ended e (with_ticks ds k st (Err e) st' (ended e f refl)) g

on_ok : {A : Type 0} (r : Result A Refusal) (P : Type 0) → P → OnOk r P
on_ok (Ok a) P h = h
on_ok (Err e) P h = tt

-- what is told of the first token, whatever it is
abbrev pub Passing : List ℕ → ℕ → Sign → Bool → ℕ → Type 0
Passing text p s b q = (t : Tok) (ts : List Tok) → Ahead text p (t ∷ ts) → Passes text s t ts b q

-- no square bracket follows a name
pub no_entry : (ds : Known) (text : List ℕ) (p table q : ℕ) (st : State) → Passing text p (signs.Opens Square) false q
    → (k : Key) (ts : List Tok) → IsTickless k → NoSquare ts → Ahead text p (key_rest k ts) → table ≡ number_in ds (key_name k)
    → Read (KeyMade ds k) text ts st (Ok table) q st
no_entry ds text p table q st missed (named n) [] is apart ahead e = absurd apart
no_entry ds text p table q st missed (named n) (t ∷ ts) is apart ahead e = record { made = (ap Ok e, refl); left = (missed t ts ahead).1 }
no_entry ds text p table q st missed (entry t a) ts is apart ahead e = absurd ((missed (opens Square) (name a ∷ closes Square ∷ ts) ahead).0 refl)
no_entry ds text p table q st missed (mate k) ts is apart ahead e = absurd is

-- a square bracket does, with a name in it
module _ (ds : Known) (text : List ℕ) (p table q : ℕ) (passed : Passing text p (signs.Opens Square) true q)
    (text1 : List ℕ) (same1 : text1 ≡ text) (party q1 : ℕ) (named_next : (w : List ℕ) (ts : List Tok) → Ahead text1 q (name w ∷ ts)
    → (party ≡ number_in ds w) × Ahead text1 q1 ts)
    (text2 : List ℕ) (same2 : text2 ≡ text1) (close : Tok) (q2 : ℕ) (closed : (t : Tok) (ts : List Tok) → Ahead text2 q1 (t ∷ ts)
    → (t ≡ close) × Ahead text2 q2 ts) where
  pub an_entry : (st : State) (r : Result ℕ Refusal) (st' : State) → Builds ENTRY table party st r st'
      → (k : Key) (ts : List Tok) → IsTickless k → NoSquare ts → Ahead text p (key_rest k ts) → table ≡ number_in ds (key_name k)
      → Read (KeyMade ds k) text ts st r q2 st'
  an_entry st r st' built (named n) [] is apart ahead e = absurd apart
  an_entry st r st' built (named n) (t ∷ ts) is apart ahead e = absurd (apart (passed t ts ahead).0)
  an_entry st r st' built (entry t a) ts is apart ahead e =
      let one = (passed (opens Square) (name a ∷ closes Square ∷ ts) ahead).1 in
      let two = named_next a (closes Square ∷ ts) (subst (λ z. Ahead z q (name a ∷ closes Square ∷ ts)) (sym same1) one) in
      let three = (closed (closes Square) ts (subst (λ z. Ahead z q1 (closes Square ∷ ts)) (sym same2) two.1)).1 in
      record {
        made = subst (λ z. Builds ENTRY z (number_in ds a) st r st') e (subst (λ z. Builds ENTRY table z st r st') two.0 built);
        left = on_ok r (Ahead text q2 ts) (subst (λ z. Ahead z q2 ts) (same2 ∙ same1) three);
      }
  an_entry st r st' built (mate k) ts is apart ahead e = absurd is

-- the ticks that are left: whatever comes of them completes the whole
pub record Left (n first : ℕ) (ts : List Tok) (text : List ℕ) (st : State) (pos key : ℕ) (now : State) : Type 0 where
  pub left : ℕ
  pub ahead : Ahead text pos (ticks left ts)
  pub whole : (r : Result ℕ Refusal) (st' : State) → Mated left key now r st' → Mated n first st r st'

-- the token that is passed is one of them
pub record OneLess (left : ℕ) (ts : List Tok) (text : List ℕ) (q : ℕ) : Type 0 where
  pub rest : ℕ
  pub one : left ≡ suc rest
  pub ahead : Ahead text q (ticks rest ts)

one_less : (left : ℕ) (ts : List Tok) (text : List ℕ) (pos q : ℕ) → Apart ts → Passing text pos signs.Tick true q
    → Ahead text pos (ticks left ts) → OneLess left ts text q
one_less zero [] text pos q apart passed ahead = absurd apart
one_less zero (t ∷ ts) text pos q apart passed ahead = absurd (no_tick t apart (passed t ts ahead).0)
one_less (suc n) ts text pos q apart passed ahead = record { rest = n; one = refl; ahead = (passed tick (ticks n ts) ahead).1 }

module _ (n first : ℕ) (ts : List Tok) (apart : Apart ts) (text : List ℕ) (st : State) (pos key : ℕ) (now : State)
    (h : Left n first ts text st pos key now) (q : ℕ) where
  pub one_tick : Passing text pos signs.Tick true q → (next : ℕ) (now' : State) → Builds MATE key 0 now (Ok next) now'
      → Left n first ts text st q next now'
  one_tick passed next now' built =
      let o = one_less h.left ts text pos q apart passed h.ahead in
      record {
        left = o.rest;
        ahead = o.ahead;
        whole = λ r st' m. h.whole r st' (subst (λ z. Mated z key now r st') (sym o.one) (on next now' built m));
      }

  pub tick_refused : Passing text pos signs.Tick true q → (e : Refusal) (now' : State) → Builds MATE key 0 now (Err e) now'
      → Mated n first st (Err e) now'
  tick_refused passed e now' built =
      let o = one_less h.left ts text pos q apart passed h.ahead in
      h.whole (Err e) now' (subst (λ z. Mated z key now (Err e) now') (sym o.one) (ended e built refl))

  pub no_more_ticks : Passing text pos signs.Tick false q → Read (Mated n first) text ts st (Ok key) q now
  no_more_ticks missed = go h.left ts apart h.ahead (h.whole (Ok key) now)
    where
      go : (left : ℕ) (us : List Tok) → Apart us → Ahead text pos (ticks left us)
          → (Mated left key now (Ok key) now → Mated n first st (Ok key) now) → Read (Mated n first) text us st (Ok key) q now
      go zero [] a ahead whole = absurd a
      go zero (t ∷ us) a ahead whole = record { made = whole (refl, refl); left = (missed t us ahead).1 }
      go (suc m) us a ahead whole = absurd ((missed tick (ticks m us) ahead).0 refl)

-- what is under the ticks, and then the ticks
module _ (ds : Known) (text : List ℕ) (p name q : ℕ) (st : State) (r : Result ℕ Refusal) (mid : State)
    (told : (k : Key) (ts : List Tok) → IsTickless k → NoSquare ts → Ahead text p (key_rest k ts) → name ≡ number_in ds (key_name k)
    → Read (KeyMade ds k) text ts st r q mid)
    (k : Key) (ts : List Tok) (apart : Apart ts) (ahead : Ahead text p (key_rest k ts)) (is : name ≡ number_in ds (key_name k)) where
  told_under : Read (KeyMade ds (under k)) text (ticks (count k) ts) st r q mid
  told_under =
      told (under k) (ticks (count k) ts) (under_tickless k) (ticks_no_square (count k) ts apart) (subst (Ahead text p) (under_rest k ts) ahead)
      (is ∙ ap (number_in ds) (sym (under_name k)))

  pub key_refused : (e : Refusal) → r ≡ Err e → Read (KeyMade ds k) text ts st (Err e) q mid
  key_refused e f =
      let made = subst (λ z. KeyMade ds (under k) st z mid) f told_under.made in
      record { made = with_ticks ds k st (Err e) mid (ended e made refl); left = tt }

  pub key_done : (base : ℕ) → r ≡ Ok base → (text1 : List ℕ) → text1 ≡ text → (s : Result ℕ Refusal) (q1 : ℕ) (st' : State)
      → ((n : ℕ) (us : List Tok) → Apart us → Ahead text1 q (ticks n us) → Read (Mated n base) text1 us mid s q1 st')
      → Read (KeyMade ds k) text ts st s q1 st'
  key_done base f text1 same s q1 st' mates =
      let base_left : Ahead text q (ticks (count k) ts) = subst (λ z. OnOk z (Ahead text q (ticks (count k) ts))) f told_under.left in
      let m = mates (count k) ts apart (subst (λ z. Ahead z q (ticks (count k) ts)) (sym same) base_left) in
      record {
        made = with_ticks ds k st s st' (on base mid (subst (λ z. KeyMade ds (under k) st z mid) f told_under.made) m.made);
        left = subst (λ z. OnOk s (Ahead z q1 ts)) same m.left;
      }
