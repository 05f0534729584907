-- The tokens of a line are written by one tree.
use Rattle.std.proofs.Common.{◌≡◌, ℕ, zero, suc, List, [], ◌∷◌, sym, refl, ap, ◌∙◌, subst}
use Rattle.scan.specs.declared.byte.Shape.TheVariants.{Round, Curly, Square, Angle}
use Rattle.syntax.specs.Grammar.{Tok, name, keyword, opens, closes, tick, end, stray, Key, named, entry, mate, Term, key, tuple, sealed, digest, Parts, final, more, Line, blank, declares, owns, sends, key_tokens, term_tokens, part_tokens, name_tokens, line_tokens}
use Rattle.syntax.proofs.Reading.{calm, Calm, Starts, starts_calm, parts_start}

-- a key is a name or an entry, and then ticks
abbrev ticks : ℕ → List Tok → List Tok
ticks zero r = r
ticks (suc n) r = tick ∷ ticks n r

abbrev mates : ℕ → Key → Key
mates zero k = k
mates (suc n) k = mates n (mate k)

data Base : Type 0 where
  plain : List ℕ → Base
  of_table : List ℕ → List ℕ → Base

abbrev base_key : Base → Key
base_key (plain n) = named n
base_key (of_table t a) = entry t a

-- the key as a base and a count of ticks
record Ticked (k : Key) : Type 0 where
  base : Base
  count : ℕ
  is : k ≡ mates count (base_key base)
  written : (r : List Tok) → key_tokens k r ≡ key_tokens (base_key base) (ticks count r)

mates_more : (n : ℕ) (k : Key) → mates n (mate k) ≡ mate (mates n k)
mates_more zero k = refl
mates_more (suc n) k = mates_more n (mate k)

ticks_more : (n : ℕ) (r : List Tok) → ticks n (tick ∷ r) ≡ tick ∷ ticks n r
ticks_more zero r = refl
ticks_more (suc n) r = ap (λ z. tick ∷ z) (ticks_more n r)

ticked : (k : Key) → Ticked k
ticked (named n) = record { base = plain n; count = zero; is = refl; written = λ r. refl }
ticked (entry t a) = record { base = of_table t a; count = zero; is = refl; written = λ r. refl }
ticked (mate k) =
    let h = ticked k in
    record {
      base = h.base;
      count = suc h.count;
      is = ap mate h.is ∙ sym (mates_more h.count (base_key h.base));
      written = λ r. h.written (tick ∷ r) ∙ ap (key_tokens (base_key h.base)) (ticks_more h.count r);
    }

-- one thing is said of two lists
record Both {A : Type 0} (x y : A) (r s : List Tok) : Type 0 where
  one : x ≡ y
  rest : r ≡ s

ticks_once : (i j : ℕ) (r s : List Tok) → Calm r → Calm s → ticks i r ≡ ticks j s → Both i j r s
ticks_once zero zero r s h k e = record { one = refl; rest = e }
ticks_once zero (suc j) r s h k e = absurd (subst Calm e h)
ticks_once (suc i) zero r s h k e = absurd (subst Calm (sym e) k)
ticks_once (suc i) (suc j) r s h k e =
    let f : ticks i r ≡ ticks j s = cc in
    let one = ticks_once i j r s h k f in
    record { one = ap suc one.one; rest = one.rest }

-- what follows a name is no square bracket
abbrev no_square : Tok → Type 0
no_square (name w) = Unit {0}
no_square (keyword k) = Unit {0}
no_square (opens Round) = Unit {0}
no_square (opens Curly) = Unit {0}
no_square (opens Square) = ⊥
no_square (opens Angle) = Unit {0}
no_square (closes s) = Unit {0}
no_square tick = Unit {0}
no_square end = Unit {0}
no_square stray = Unit {0}

abbrev NoSquare : List Tok → Type 0
NoSquare [] = Unit {0}
NoSquare (t ∷ r) = no_square t

calm_no_square : (t : Tok) → calm t → no_square t
calm_no_square (name w) h = tt
calm_no_square (keyword k) h = tt
calm_no_square (opens Round) h = tt
calm_no_square (opens Curly) h = tt
calm_no_square (opens Square) h = h
calm_no_square (opens Angle) h = tt
calm_no_square (closes s) h = tt
calm_no_square tick h = tt
calm_no_square end h = tt
calm_no_square stray h = tt

ticks_no_square : (n : ℕ) (r : List Tok) → Calm r → NoSquare (ticks n r)
ticks_no_square zero [] h = tt
ticks_no_square zero (t ∷ r) h = calm_no_square t h
ticks_no_square (suc n) r h = tt

bases_once : (a b : Base) (r s : List Tok) → NoSquare r → NoSquare s → key_tokens (base_key a) r ≡ key_tokens (base_key b) s → Both a b r s
bases_once (plain n) (plain m) r s h k e = record { one = ap plain cc; rest = cc }
bases_once (plain n) (of_table t a) r s h k e =
    let f : r ≡ opens Square ∷ name a ∷ closes Square ∷ s = cc in absurd (subst NoSquare f h)
bases_once (of_table t a) (plain m) r s h k e =
    let f : s ≡ opens Square ∷ name a ∷ closes Square ∷ r = cc in absurd (subst NoSquare f k)
bases_once (of_table t a) (of_table u b) r s h k e =
    let f : t ≡ u = cc in
    let g : a ≡ b = cc in
    record { one = ap (λ z. of_table z a) f ∙ ap (of_table u) g; rest = cc }

keys_once : (k l : Key) (r s : List Tok) → Calm r → Calm s → key_tokens k r ≡ key_tokens l s → Both k l r s
keys_once k l r s h i e =
    let x = ticked k in
    let y = ticked l in
    let f = sym (x.written r) ∙ e ∙ y.written s in
    let b = bases_once x.base y.base (ticks x.count r) (ticks y.count s) (ticks_no_square x.count r h) (ticks_no_square y.count s i) f in
    let t = ticks_once x.count y.count r s h i b.rest in
    record {
      one = x.is ∙ ap (λ n. mates n (base_key x.base)) t.one ∙ ap (λ z. mates y.count (base_key z)) b.one ∙ sym y.is;
      rest = t.rest;
    }

-- the first and the second token of a key
record FirstOf (k : Key) (r : List Tok) : Type 0 where
  word : List ℕ
  after : List Tok
  is : key_tokens k r ≡ name word ∷ after

first_of_key : (k : Key) (r : List Tok) → FirstOf k r
first_of_key (named n) r = record { word = n; after = r; is = refl }
first_of_key (entry t a) r = record { word = t; after = opens Square ∷ name a ∷ closes Square ∷ r; is = refl }
first_of_key (mate k) r = let f = first_of_key k (tick ∷ r) in record { word = f.word; after = f.after; is = f.is }

-- an angle bracket does not follow the name of a key
abbrev no_angle : Tok → Type 0
no_angle (name w) = Unit {0}
no_angle (keyword k) = Unit {0}
no_angle (opens Round) = Unit {0}
no_angle (opens Curly) = Unit {0}
no_angle (opens Square) = Unit {0}
no_angle (opens Angle) = ⊥
no_angle (closes s) = Unit {0}
no_angle tick = Unit {0}
no_angle end = Unit {0}
no_angle stray = Unit {0}

abbrev NoAngle : List Tok → Type 0
NoAngle [] = Unit {0}
NoAngle (t ∷ r) = no_angle t

abbrev SecondNoAngle : List Tok → Type 0
SecondNoAngle [] = Unit {0}
SecondNoAngle (t ∷ r) = NoAngle r

key_no_angle : (k : Key) (r : List Tok) → NoAngle r → SecondNoAngle (key_tokens k r)
key_no_angle (named n) r h = h
key_no_angle (entry t a) r h = tt
key_no_angle (mate k) r h = key_no_angle k (tick ∷ r) tt

calm_no_angle : (r : List Tok) → Calm r → NoAngle r
calm_no_angle [] h = tt
calm_no_angle (name w ∷ r) h = tt
calm_no_angle (keyword k ∷ r) h = tt
calm_no_angle (opens Round ∷ r) h = tt
calm_no_angle (opens Curly ∷ r) h = tt
calm_no_angle (opens Square ∷ r) h = tt
calm_no_angle (opens Angle ∷ r) h = h
calm_no_angle (closes s ∷ r) h = tt
calm_no_angle (tick ∷ r) h = tt
calm_no_angle (end ∷ r) h = tt
calm_no_angle (stray ∷ r) h = tt

key_not_digest : {A : Type 0} (k : Key) (r : List Tok) (f : List ℕ) (x : List Tok) → Calm r → key_tokens k r ≡ name f ∷ opens Angle ∷ x → A
key_not_digest k r f x h e = absurd (subst SecondNoAngle e (key_no_angle k r (calm_no_angle r h)))

key_not_bracket : {A : Type 0} (k : Key) (r : List Tok) (x : List Tok) (t : Tok) → key_tokens k r ≡ t ∷ x → ((w : List ℕ) → name w ≡ t → ⊥) → A
key_not_bracket k r x t e n =
    let f = first_of_key k r in
    let g : name f.word ≡ t = cc (sym f.is ∙ e) in
    absurd (n f.word g)

-- a list of parts does not begin with a closing bracket
no_close : (ps : Parts) (r s : List Tok) → closes Round ∷ r ≡ part_tokens ps s → ⊥
no_close ps r s e = subst Starts (sym e) (parts_start ps s)

mutual
  terms_once : (t u : Term) (r s : List Tok) → Calm r → Calm s → term_tokens t r ≡ term_tokens u s → Both t u r s
  terms_once (key k) (key l) r s h i e = let b = keys_once k l r s h i e in record { one = ap key b.one; rest = b.rest }
  terms_once (key k) (tuple u qs) r s h i e = key_not_bracket k r _ _ e (λ w f. cc)
  terms_once (key k) (sealed u l) r s h i e = key_not_bracket k r _ _ e (λ w f. cc)
  terms_once (key k) (digest f u) r s h i e = key_not_digest k r f _ h e
  terms_once (tuple t ps) (key l) r s h i e = key_not_bracket l s _ _ (sym e) (λ w f. cc)
  terms_once (tuple t ps) (tuple u qs) r s h i e =
      let f : term_tokens t (part_tokens ps r) ≡ term_tokens u (part_tokens qs s) = cc in
      let b = terms_once t u (part_tokens ps r) (part_tokens qs s) (starts_calm _ (parts_start ps r)) (starts_calm _ (parts_start qs s)) f in
      let c = parts_once ps qs r s b.rest in
      record { one = ap (λ z. tuple z ps) b.one ∙ ap (tuple u) c.one; rest = c.rest }
  terms_once (tuple t ps) (sealed u l) r s h i e = cc
  terms_once (tuple t ps) (digest f u) r s h i e = cc
  terms_once (sealed t k) (key l) r s h i e = key_not_bracket l s _ _ (sym e) (λ w f. cc)
  terms_once (sealed t k) (tuple u qs) r s h i e = cc
  terms_once (sealed t k) (sealed u l) r s h i e =
      let f : term_tokens t (closes Curly ∷ key_tokens k r) ≡ term_tokens u (closes Curly ∷ key_tokens l s) = cc in
      let b = terms_once t u (closes Curly ∷ key_tokens k r) (closes Curly ∷ key_tokens l s) tt tt f in
      let g : key_tokens k r ≡ key_tokens l s = cc (b.rest) in
      let c = keys_once k l r s h i g in
      record { one = ap (λ z. sealed z k) b.one ∙ ap (sealed u) c.one; rest = c.rest }
  terms_once (sealed t k) (digest f u) r s h i e = cc
  terms_once (digest f t) (key l) r s h i e = key_not_digest l s f _ i (sym e)
  terms_once (digest f t) (tuple u qs) r s h i e = cc
  terms_once (digest f t) (sealed u l) r s h i e = cc
  terms_once (digest f t) (digest g u) r s h i e =
      let d : term_tokens t (closes Angle ∷ r) ≡ term_tokens u (closes Angle ∷ s) = cc in
      let b = terms_once t u (closes Angle ∷ r) (closes Angle ∷ s) tt tt d in
      let w : f ≡ g = cc in
      record { one = ap (λ z. digest z t) w ∙ ap (digest g) b.one; rest = cc (b.rest) }

  parts_once : (ps qs : Parts) (r s : List Tok) → part_tokens ps r ≡ part_tokens qs s → Both ps qs r s
  parts_once (final t) (final u) r s e =
      let b = terms_once t u (closes Round ∷ r) (closes Round ∷ s) tt tt e in
      record { one = ap final b.one; rest = cc (b.rest) }
  parts_once (final t) (more u qs) r s e =
      let b = terms_once t u (closes Round ∷ r) (part_tokens qs s) tt (starts_calm _ (parts_start qs s)) e in
      absurd (no_close qs r s b.rest)
  parts_once (more t ps) (final u) r s e =
      let b = terms_once t u (part_tokens ps r) (closes Round ∷ s) (starts_calm _ (parts_start ps r)) tt e in
      absurd (no_close ps s r (sym b.rest))
  parts_once (more t ps) (more u qs) r s e =
      let b = terms_once t u (part_tokens ps r) (part_tokens qs s) (starts_calm _ (parts_start ps r)) (starts_calm _ (parts_start qs s)) e in
      let c = parts_once ps qs r s b.rest in
      record { one = ap (λ z. more z ps) b.one ∙ ap (more u) c.one; rest = c.rest }

names_once : (ns ms : List (List ℕ)) → name_tokens ns (end ∷ []) ≡ name_tokens ms (end ∷ []) → ns ≡ ms
names_once [] [] e = refl
names_once [] (m ∷ ms) e = cc
names_once (n ∷ ns) [] e = cc
names_once (n ∷ ns) (m ∷ ms) e =
    let f : n ≡ m = cc in
    let g : name_tokens ns (end ∷ []) ≡ name_tokens ms (end ∷ []) = cc in
    let h = names_once ns ms g in
    ap (λ z. z ∷ ns) f ∙ ap (λ z. m ∷ z) h

pub lines_once : (l m : Line) → line_tokens l ≡ line_tokens m → l ≡ m
lines_once blank blank e = refl
lines_once blank (declares k n ns) e = cc
lines_once blank (owns p t) e = cc
lines_once blank (sends p q t) e = cc
lines_once (declares k n ns) blank e = cc
lines_once (declares k n ns) (declares l m ms) e =
    let f : k ≡ l = cc in
    let g : n ≡ m = cc in
    let i : name_tokens ns (end ∷ []) ≡ name_tokens ms (end ∷ []) = cc in
    let h = names_once ns ms i in
    ap (λ z. declares z n ns) f ∙ ap (λ z. declares l z ns) g ∙ ap (declares l m) h
lines_once (declares k n ns) (owns p t) e = cc
lines_once (declares k n ns) (sends p q t) e = cc
lines_once (owns p t) blank e = cc
lines_once (owns p t) (declares l m ms) e = cc
lines_once (owns p t) (owns q u) e =
    let f : p ≡ q = cc in
    let g : term_tokens t (end ∷ []) ≡ term_tokens u (end ∷ []) = cc in
    let b = terms_once t u (end ∷ []) (end ∷ []) tt tt g in
    ap (λ z. owns z t) f ∙ ap (owns q) b.one
lines_once (owns p t) (sends q s u) e = cc
lines_once (sends p q t) blank e = cc
lines_once (sends p q t) (declares l m ms) e = cc
lines_once (sends p q t) (owns r u) e = cc
lines_once (sends p q t) (sends r s u) e =
    let f : p ≡ r = cc in
    let g : q ≡ s = cc in
    let h : term_tokens t (end ∷ []) ≡ term_tokens u (end ∷ []) = cc in
    let b = terms_once t u (end ∷ []) (end ∷ []) tt tt h in
    ap (λ z. sends z q t) f ∙ ap (λ z. sends r z t) g ∙ ap (sends r s) b.one
