-- What can still come in each state of the machine.
use Rattle.std.proofs.Common.{◌≡◌, ℕ, cond, ◌⊎◌, List, [], ◌∷◌, ◌++◌, sym, refl, ap, ◌∙◌, subst, inl, inr}
use Rattle.syntax.specs.Grammar.{sign, Tok, name, keyword, opens, closes, tick, end, stray, Key, named, entry, mate, Term, key, tuple, sealed, digest, Parts, final, more, Line, blank, declares, owns, sends, key_tokens, term_tokens, part_tokens, name_tokens, line_tokens}
use Rattle.scan.specs.declared.byte.Shape.{Shape}
use Rattle.scan.specs.declared.byte.Shape.TheVariants.{Round, Curly, Square, Angle}
use Rattle.syntax.specs.declared.sign.Keyword.{Keyword}
use Rattle.syntax.specs.declared.sign.Keyword.TheVariants as words
use Rattle.syntax.specs.declared.mode.Frame.{Frame}
use Rattle.syntax.specs.declared.mode.Frame.TheVariants.{First, Later, Content, Digested}
use Rattle.syntax.specs.declared.mode.Mode.{Mode}
use Rattle.syntax.specs.declared.mode.Mode.TheVariants.{Fresh, Kinded, Listing, Owner, Sender, Receiver, Start, AfterName, AfterSealer, AfterKey, After, Sealer, Party, EntryEnd, Done}
use Rattle.syntax.specs.Machine.{State, at, stuck, same_shape, if_name, if_opens, if_closes, if_tick, if_end, heads, headed, begins, follows, step, run}

-- what can follow a whole term
abbrev pub Closes : List Frame → List Tok → Type 0
Closes [] q = q ≡ end ∷ []
Closes (First ∷ fs) q = (ps : Parts) × (r : List Tok) × (q ≡ part_tokens ps r) × Closes fs r
Closes (Later ∷ fs) q =
    ((r : List Tok) × (q ≡ closes Round ∷ r) × Closes fs r) ⊎ ((ps : Parts) × (r : List Tok) × (q ≡ part_tokens ps r) × Closes fs r)
Closes (Content ∷ fs) q = (k : Key) × (r : List Tok) × (q ≡ closes Curly ∷ key_tokens k r) × Closes fs r
Closes (Digested ∷ fs) q = (r : List Tok) × (q ≡ closes Angle ∷ r) × Closes fs r

-- a term, a key, and then what can follow
abbrev EndsTerm : List Frame → List Tok → Type 0
EndsTerm fs x = (t : Term) × (r : List Tok) × (x ≡ term_tokens t r) × Closes fs r

abbrev EndsKey : List Frame → List Tok → Type 0
EndsKey fs x = (k : Key) × (r : List Tok) × (x ≡ key_tokens k r) × Closes fs r

-- the tokens q finish the line, whatever was read of the present term
abbrev pub Finishes : Mode → List Frame → List Tok → Type 0
Finishes Fresh fs q = (l : Line) × (q ≡ line_tokens l)
Finishes Kinded fs q = (n : List ℕ) × (ns : List (List ℕ)) × (q ≡ name n ∷ name_tokens ns (end ∷ []))
Finishes Listing fs q = (ns : List (List ℕ)) × (q ≡ name_tokens ns (end ∷ []))
Finishes Owner fs q = (p : List ℕ) × (t : Term) × (q ≡ name p ∷ term_tokens t (end ∷ []))
Finishes Sender fs q = (p : List ℕ) × (s : List ℕ) × (t : Term) × (q ≡ name p ∷ name s ∷ term_tokens t (end ∷ []))
Finishes Receiver fs q = (p : List ℕ) × (t : Term) × (q ≡ name p ∷ term_tokens t (end ∷ []))
Finishes Start fs q = EndsTerm fs q
Finishes AfterName fs q = (w : List ℕ) → EndsTerm fs (name w ∷ q)
Finishes AfterSealer fs q = (w : List ℕ) → EndsKey fs (name w ∷ q)
Finishes AfterKey fs q = (k : Key) → EndsKey fs (key_tokens k q)
Finishes After fs q = Closes fs q
Finishes Sealer fs q = EndsKey fs q
Finishes Party fs q = (w : List ℕ) → EndsKey fs (name w ∷ opens Square ∷ q)
Finishes EntryEnd fs q = (w a : List ℕ) → EndsKey fs (name w ∷ opens Square ∷ name a ∷ q)
Finishes Done fs q = q ≡ []

-- one more token before what finishes the next state finishes this one
abbrev Back : (List Tok → Type 0) → Tok → State → Type 0
Back P t (at m fs) = (q : List Tok) → Finishes m fs q → P (t ∷ q)
Back P t stuck = Unit {0}

-- a test's two ways
module _ (Q : Tok → State → Type 0) (x y : State) where
  pub by_name : (t : Tok) → ((w : List ℕ) → Q (name w) x) → Q t y → Q t (if_name (sign t) x y)
  by_name (name w) h k = h w
  by_name (keyword a) h k = k
  by_name (opens s) h k = k
  by_name (closes s) h k = k
  by_name tick h k = k
  by_name end h k = k
  by_name stray h k = k

  pub by_tick : (t : Tok) → Q tick x → Q t y → Q t (if_tick (sign t) x y)
  by_tick (name w) h k = k
  by_tick (keyword a) h k = k
  by_tick (opens s) h k = k
  by_tick (closes s) h k = k
  by_tick tick h k = h
  by_tick end h k = k
  by_tick stray h k = k

  pub by_end : (t : Tok) → Q end x → Q t y → Q t (if_end (sign t) x y)
  by_end (name w) h k = k
  by_end (keyword a) h k = k
  by_end (opens s) h k = k
  by_end (closes s) h k = k
  by_end tick h k = k
  by_end end h k = h
  by_end stray h k = k

  pub by_same_o : (s u : Shape) → Q (opens s) x → Q (opens u) y → Q (opens u) (cond (same_shape s u) x y)
  by_same_o Round Round h k = h
  by_same_o Round Curly h k = k
  by_same_o Round Square h k = k
  by_same_o Round Angle h k = k
  by_same_o Curly Round h k = k
  by_same_o Curly Curly h k = h
  by_same_o Curly Square h k = k
  by_same_o Curly Angle h k = k
  by_same_o Square Round h k = k
  by_same_o Square Curly h k = k
  by_same_o Square Square h k = h
  by_same_o Square Angle h k = k
  by_same_o Angle Round h k = k
  by_same_o Angle Curly h k = k
  by_same_o Angle Square h k = k
  by_same_o Angle Angle h k = h

  pub by_same_c : (s u : Shape) → Q (closes s) x → Q (closes u) y → Q (closes u) (cond (same_shape s u) x y)
  by_same_c Round Round h k = h
  by_same_c Round Curly h k = k
  by_same_c Round Square h k = k
  by_same_c Round Angle h k = k
  by_same_c Curly Round h k = k
  by_same_c Curly Curly h k = h
  by_same_c Curly Square h k = k
  by_same_c Curly Angle h k = k
  by_same_c Square Round h k = k
  by_same_c Square Curly h k = k
  by_same_c Square Square h k = h
  by_same_c Square Angle h k = k
  by_same_c Angle Round h k = k
  by_same_c Angle Curly h k = k
  by_same_c Angle Square h k = k
  by_same_c Angle Angle h k = h

  pub by_opens : (s : Shape) (t : Tok) → Q (opens s) x → Q t y → Q t (if_opens s (sign t) x y)
  by_opens s (name w) h k = k
  by_opens s (keyword a) h k = k
  by_opens s (opens u) h k = by_same_o s u h k
  by_opens s (closes u) h k = k
  by_opens s tick h k = k
  by_opens s end h k = k
  by_opens s stray h k = k

  pub by_closes : (s : Shape) (t : Tok) → Q (closes s) x → Q t y → Q t (if_closes s (sign t) x y)
  by_closes s (name w) h k = k
  by_closes s (keyword a) h k = k
  by_closes s (opens u) h k = k
  by_closes s (closes u) h k = by_same_c s u h k
  by_closes s tick h k = k
  by_closes s end h k = k
  by_closes s stray h k = k

-- the first token of a term
back_begins : (fs : List Frame) (t : Tok) → Back (EndsTerm fs) t (begins fs (sign t))
back_begins fs t =
    by_name (Back (EndsTerm fs)) _ _ t (λ w q f. f w)
    (by_opens (Back (EndsTerm fs)) _ _ Round t
    (λ q f. let (u, r, e, c) = f in let (ps, s, e2, d) = c in (tuple u ps, s, ap (λ z. opens Round ∷ z) (e ∙ ap (term_tokens u) e2), d))
    (by_opens (Back (EndsTerm fs)) _ _ Curly t
    (λ q f. let (u, r, e, c) = f in let (k, s, e2, d) = c in (sealed u k, s, ap (λ z. opens Curly ∷ z) (e ∙ ap (term_tokens u) e2), d))
    tt))

-- what follows a further part of a tuple is one part more
part_more : (fs : List Frame) (q : List Tok) → EndsTerm (Later ∷ fs) q → (ps : Parts) × (r : List Tok) × (q ≡ part_tokens ps r) × Closes fs r
part_more fs q (u, r, e, inl (s, e2, d)) = (final u, s, e ∙ ap (term_tokens u) e2, d)
part_more fs q (u, r, e, inr (ps, s, e2, d)) = (more u ps, s, e ∙ ap (term_tokens u) e2, d)

weaken : (P Q : List Tok → Type 0) → ((q : List Tok) → P q → Q q) → (t : Tok) (s : State) → Back P t s → Back Q t s
weaken P Q f t (at m fs) b = λ q h. f (t ∷ q) (b q h)
weaken P Q f t stuck b = tt

back_follows : (fs : List Frame) (t : Tok) → Back (Closes fs) t (follows fs (sign t))
back_follows [] t = by_end (Back (Closes [])) _ _ t (λ q f. ap (λ z. end ∷ z) f) tt
back_follows (First ∷ fs) t = weaken (EndsTerm (Later ∷ fs)) (Closes (First ∷ fs)) (part_more fs) t _ (back_begins (Later ∷ fs) t)
back_follows (Later ∷ fs) t =
    by_closes (Back (Closes (Later ∷ fs))) _ _ Round t (λ q f. inl (q, refl, f))
    (weaken (EndsTerm (Later ∷ fs)) (Closes (Later ∷ fs)) (λ q h. inr (part_more fs q h)) t _ (back_begins (Later ∷ fs) t))
back_follows (Content ∷ fs) t =
    by_closes (Back (Closes (Content ∷ fs))) _ _ Curly t (λ q f. let (k, r, e, d) = f in (k, r, ap (λ z. closes Curly ∷ z) e, d)) tt
back_follows (Digested ∷ fs) t = by_closes (Back (Closes (Digested ∷ fs))) _ _ Angle t (λ q f. (q, refl, f)) tt

-- a key is a term
key_term : (fs : List Frame) (q : List Tok) → EndsKey fs q → EndsTerm fs q
key_term fs q (k, r, e, d) = (key k, r, e, d)

back_head : (k : Keyword) → Back (Finishes Fresh []) (keyword k) (headed k)
back_head (words.Kind k) = λ q f. let (n, ns, e) = f in (declares k n ns, ap (λ z. keyword (words.Kind k) ∷ z) e)
back_head words.Own = λ q f. let (p, t, e) = f in (owns p t, ap (λ z. keyword words.Own ∷ z) e)
back_head words.Line = λ q f. let (p, s, t, e) = f in (sends p s t, ap (λ z. keyword words.Line ∷ z) e)

back_heads : (t : Tok) → Back (Finishes Fresh []) t (heads (sign t))
back_heads (name w) = tt
back_heads (keyword k) = back_head k
back_heads (opens s) = tt
back_heads (closes s) = tt
back_heads tick = tt
back_heads end = λ q f. (blank, ap (λ z. end ∷ z) f)
back_heads stray = tt

after_tick : (fs : List Frame) (t : Tok) → Back (Finishes AfterKey fs) t (step AfterKey fs (sign t))
after_tick fs t =
    by_tick (Back (Finishes AfterKey fs)) _ _ t (λ q f k. f (mate k))
    (weaken (Closes fs) (Finishes AfterKey fs) (λ q c k. (k, q, refl, c)) t _ (back_follows fs t))

after_seal : (fs : List Frame) (t : Tok) → Back (Finishes AfterSealer fs) t (step AfterSealer fs (sign t))
after_seal fs t =
    by_opens (Back (Finishes AfterSealer fs)) _ _ Square t (λ q f w. f w)
    (by_tick (Back (Finishes AfterSealer fs)) _ _ t (λ q f w. f (mate (named w)))
    (weaken (Closes fs) (Finishes AfterSealer fs) (λ q c w. (named w, q, refl, c)) t _ (back_follows fs t)))

after_named : (fs : List Frame) (t : Tok) → Back (Finishes AfterName fs) t (step AfterName fs (sign t))
after_named fs t =
    by_opens (Back (Finishes AfterName fs)) _ _ Square t (λ q f w. key_term fs _ (f w))
    (by_opens (Back (Finishes AfterName fs)) _ _ Angle t
    (λ q f w. let (u, r, e, c) = f in let (s, e2, d) = c in (digest w u, s, ap (λ z. name w ∷ opens Angle ∷ z) (e ∙ ap (term_tokens u) e2), d))
    (by_tick (Back (Finishes AfterName fs)) _ _ t (λ q f w. key_term fs _ (f (mate (named w))))
    (weaken (Closes fs) (Finishes AfterName fs) (λ q c w. (key (named w), q, refl, c)) t _ (back_follows fs t))))

pub back : (m : Mode) (fs : List Frame) (t : Tok) → Back (Finishes m fs) t (step m fs (sign t))
back Fresh fs t = back_heads t
back Kinded fs t = by_name (Back (Finishes Kinded fs)) _ _ t (λ w q f. let (ns, e) = f in (w, ns, ap (λ z. name w ∷ z) e)) tt
back Listing fs t =
    by_name (Back (Finishes Listing fs)) _ _ t (λ w q f. let (ns, e) = f in (w ∷ ns, ap (λ z. name w ∷ z) e))
    (by_end (Back (Finishes Listing fs)) _ _ t (λ q f. ([], ap (λ z. end ∷ z) f)) tt)
back Owner fs t = by_name (Back (Finishes Owner fs)) _ _ t (λ w q f. let (u, r, e, d) = f in (w, u, ap (λ z. name w ∷ z) (e ∙ ap (term_tokens u) d))) tt
back Sender fs t = by_name (Back (Finishes Sender fs)) _ _ t (λ w q f. let (p, u, e) = f in (w, p, u, ap (λ z. name w ∷ z) e)) tt
back Receiver fs t = by_name (Back (Finishes Receiver fs)) _ _ t (λ w q f. let (u, r, e, d) = f in (w, u, ap (λ z. name w ∷ z) (e ∙ ap (term_tokens u) d))) tt
back Start fs t = back_begins fs t
back AfterName fs t = after_named fs t
back AfterSealer fs t = after_seal fs t
back AfterKey fs t = after_tick fs t
back After fs t = back_follows fs t
back Sealer fs t = by_name (Back (Finishes Sealer fs)) _ _ t (λ w q f. f w) tt
back Party fs t = by_name (Back (Finishes Party fs)) _ _ t (λ a q f w. f w a) tt
back EntryEnd fs t = by_closes (Back (Finishes EntryEnd fs)) _ _ Square t (λ q f w a. f (entry w a)) tt
back Done fs t = tt

abbrev pub Fin : State → List Tok → Type 0
Fin (at m fs) x = Finishes m fs x
Fin stuck x = ⊥

taken : (P : List Tok → Type 0) (t : Tok) (s : State) (x : List Tok) → Back P t s → Fin s x → P (t ∷ x)
taken P t (at m fs) x b f = b x f
taken P t stuck x b f = absurd f

-- what finishes the state after some tokens finishes, behind these, the state before them
pub backs : (s : State) (ts : List Tok) (n : Mode) (gs : List Frame) (q : List Tok) → run s ts ≡ at n gs → Finishes n gs q → Fin s (ts ++ q)
backs s [] n gs q e f = subst (λ z. Fin z q) (sym e) f
backs (at m fs) (t ∷ ts) n gs q e f = taken (Finishes m fs) t (step m fs (sign t)) (ts ++ q) (back m fs t) (backs (step m fs (sign t)) ts n gs q e f)
backs stuck (t ∷ ts) n gs q e f = cc

-- every state can be finished
closing : (fs : List Frame) → (q : List Tok) × Closes fs q
closing [] = (end ∷ [], refl)
closing (First ∷ fs) = let (r, c) = closing fs in (part_tokens (final (key (named []))) r, (final (key (named [])), r, refl, c))
closing (Later ∷ fs) = let (r, c) = closing fs in (closes Round ∷ r, inl (r, refl, c))
closing (Content ∷ fs) = let (r, c) = closing fs in (closes Curly ∷ key_tokens (named []) r, (named [], r, refl, c))
closing (Digested ∷ fs) = let (r, c) = closing fs in (closes Angle ∷ r, (r, refl, c))

closing_some : (fs : List Frame) → (t : Tok) × (r : List Tok) × Closes fs (t ∷ r)
closing_some [] = (end, [], refl)
closing_some (First ∷ fs) = let (r, c) = closing fs in (name [], closes Round ∷ r, (final (key (named [])), r, refl, c))
closing_some (Later ∷ fs) = let (r, c) = closing fs in (closes Round, r, inl (r, refl, c))
closing_some (Content ∷ fs) = let (r, c) = closing fs in (closes Curly, name [] ∷ r, (named [], r, refl, c))
closing_some (Digested ∷ fs) = let (r, c) = closing fs in (closes Angle, r, (r, refl, c))

pub finish : (m : Mode) (fs : List Frame) → (q : List Tok) × Finishes m fs q
finish Fresh fs = (end ∷ [], (blank, refl))
finish Kinded fs = (name [] ∷ end ∷ [], ([], [], refl))
finish Listing fs = (end ∷ [], ([], refl))
finish Owner fs = (name [] ∷ name [] ∷ end ∷ [], ([], key (named []), refl))
finish Sender fs = (name [] ∷ name [] ∷ name [] ∷ end ∷ [], ([], [], key (named []), refl))
finish Receiver fs = (name [] ∷ name [] ∷ end ∷ [], ([], key (named []), refl))
finish Start fs = let (r, c) = closing fs in (name [] ∷ r, (key (named []), r, refl, c))
finish AfterName fs = let (r, c) = closing fs in (r, λ w. (key (named w), r, refl, c))
finish AfterSealer fs = let (r, c) = closing fs in (r, λ w. (named w, r, refl, c))
finish AfterKey fs = let (r, c) = closing fs in (r, λ k. (k, r, refl, c))
finish After fs = closing fs
finish Sealer fs = let (r, c) = closing fs in (name [] ∷ r, (named [], r, refl, c))
finish Party fs = let (r, c) = closing fs in (name [] ∷ closes Square ∷ r, λ w. (entry w [], r, refl, c))
finish EntryEnd fs = let (r, c) = closing fs in (closes Square ∷ r, λ w a. (entry w a, r, refl, c))
finish Done fs = ([], refl)

-- before its end a line goes on
abbrev pub Live : Mode → Type 0
Live Fresh = Unit {0}
Live Kinded = Unit {0}
Live Listing = Unit {0}
Live Owner = Unit {0}
Live Sender = Unit {0}
Live Receiver = Unit {0}
Live Start = Unit {0}
Live AfterName = Unit {0}
Live AfterSealer = Unit {0}
Live AfterKey = Unit {0}
Live After = Unit {0}
Live Sealer = Unit {0}
Live Party = Unit {0}
Live EntryEnd = Unit {0}
Live Done = ⊥

-- the tokens that finish a live state are some
pub some_left : (m : Mode) (fs : List Frame) → Live m → (t : Tok) × (r : List Tok) × Finishes m fs (t ∷ r)
some_left Fresh fs h = (end, [], (blank, refl))
some_left Kinded fs h = (name [], end ∷ [], ([], [], refl))
some_left Listing fs h = (end, [], ([], refl))
some_left Owner fs h = (name [], name [] ∷ end ∷ [], ([], key (named []), refl))
some_left Sender fs h = (name [], name [] ∷ name [] ∷ end ∷ [], ([], [], key (named []), refl))
some_left Receiver fs h = (name [], name [] ∷ end ∷ [], ([], key (named []), refl))
some_left Start fs h = let (r, c) = closing fs in (name [], r, (key (named []), r, refl, c))
some_left AfterName fs h = let (t, r, c) = closing_some fs in (t, r, λ w. (key (named w), t ∷ r, refl, c))
some_left AfterSealer fs h = let (t, r, c) = closing_some fs in (t, r, λ w. (named w, t ∷ r, refl, c))
some_left AfterKey fs h = let (t, r, c) = closing_some fs in (t, r, λ k. (k, t ∷ r, refl, c))
some_left After fs h = closing_some fs
some_left Sealer fs h = let (r, c) = closing fs in (name [], r, (named [], r, refl, c))
some_left Party fs h = let (r, c) = closing fs in (name [], closes Square ∷ r, λ w. (entry w [], r, refl, c))
some_left EntryEnd fs h = let (r, c) = closing fs in (closes Square, r, λ w a. (entry w a, r, refl, c))
some_left Done fs h = absurd h
