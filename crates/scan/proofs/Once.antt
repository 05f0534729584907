-- The text determines its tokens.
use Rattle.std.proofs.Common.{◌≡◌, ℕ, ◌<◌, ◌⊎◌, List, length, get_or, sym, refl, ap, ◌∙◌, subst, inl, inr, arith}
use Rattle.std.specs.Prelude.{slice_range}
use Rattle.scan.specs.declared.byte.ByteClass.{ByteClass}
use Rattle.scan.specs.declared.byte.ByteClass.TheVariants as classes
use Rattle.scan.specs.Bytes.{class}
use Rattle.scan.specs.Tokens.{Lexeme, word, bracket, tick, line_end, stray, Next, Stands, Skips}
use Rattle.scan.proofs.Runs.{same_end}

skips_once : (text : List ℕ) (p a b : ℕ) → Skips text p a → Skips text p b → a ≡ b
skips_once text p a b s t =
    same_end classes.Space text p a b s.low t.low s.within t.within s.spaces t.spaces s.stops t.stops

-- the class of a lexeme's first byte
abbrev class_of : Lexeme → ByteClass
class_of (word w) = classes.Word
class_of (bracket b) = classes.Bracket b
class_of tick = classes.Tick
class_of line_end = classes.LineEnd
class_of stray = classes.Stray

-- a byte of its class stands at its place, unless the text is over
abbrev Here : List ℕ → ℕ → ByteClass → Type 0
Here text a k = ((a < length text) × (class (get_or text a 0) ≡ k)) ⊎ ((a ≡ length text) × (k ≡ classes.LineEnd))

here : (text : List ℕ) (x : Lexeme) (a q : ℕ) → Stands text x a q → Here text a (class_of x)
here text (word w) a q h = inl (omega (arith, h.some, h.within), h.all a (omega arith) h.some)
here text (bracket b) a q h = inl (h.within, h.of_class)
here text tick a q h = inl (h.within, h.of_class)
here text line_end a q (inl h) = inl (h.within, h.of_class)
here text line_end a q (inr (e, n)) = inr (e, refl)
here text stray a q h = inl (h.within, h.of_class)

one_class : (text : List ℕ) (a : ℕ) (k l : ByteClass) → Here text a k → Here text a l → k ≡ l
one_class text a k l (inl (m, h)) (inl (n, i)) = sym h ∙ i
one_class text a k l (inl (m, h)) (inr (n, i)) = absurd (omega arith)
one_class text a k l (inr (m, h)) (inl (n, i)) = absurd (omega arith)
one_class text a k l (inr (m, h)) (inr (n, i)) = h ∙ sym i

-- at one place
stands_once : (text : List ℕ) (x y : Lexeme) (a q n : ℕ) → Stands text x a q → Stands text y a n → class_of x ≡ class_of y → (x ≡ y) × (q ≡ n)
stands_once text (word w) (word v) a q n h k c =
    let e = same_end classes.Word text a q n (omega (arith, h.some)) (omega (arith, k.some)) h.within k.within h.all k.all h.longest k.longest in
    (ap word (h.bytes ∙ ap (slice_range text a) e ∙ sym k.bytes), e)
stands_once text (word w) (bracket b) a q n h k c = cc
stands_once text (word w) tick a q n h k c = cc
stands_once text (word w) line_end a q n h k c = cc
stands_once text (word w) stray a q n h k c = cc
stands_once text (bracket b) (word v) a q n h k c = cc
stands_once text (bracket b) (bracket d) a q n h k c = (let e : b ≡ d = cc in ap bracket e, h.next ∙ sym k.next)
stands_once text (bracket b) tick a q n h k c = cc
stands_once text (bracket b) line_end a q n h k c = cc
stands_once text (bracket b) stray a q n h k c = cc
stands_once text tick (word v) a q n h k c = cc
stands_once text tick (bracket b) a q n h k c = cc
stands_once text tick tick a q n h k c = (refl, h.next ∙ sym k.next)
stands_once text tick line_end a q n h k c = cc
stands_once text tick stray a q n h k c = cc
stands_once text line_end (word v) a q n h k c = cc
stands_once text line_end (bracket b) a q n h k c = cc
stands_once text line_end tick a q n h k c = cc
stands_once text line_end line_end a q n (inl h) (inl k) c = (refl, h.next ∙ sym k.next)
stands_once text line_end line_end a q n (inl h) (inr (e, f)) c = absurd (omega (arith, h.within))
stands_once text line_end line_end a q n (inr (e, f)) (inl k) c = absurd (omega (arith, k.within))
stands_once text line_end line_end a q n (inr (e, f)) (inr (g, i)) c = (refl, f ∙ sym i)
stands_once text line_end stray a q n h k c = cc
stands_once text stray (word v) a q n h k c = cc
stands_once text stray (bracket b) a q n h k c = cc
stands_once text stray tick a q n h k c = cc
stands_once text stray line_end a q n h k c = cc
stands_once text stray stray a q n h k c = (refl, h.next ∙ sym k.next)

pub next_once : (text : List ℕ) (p : ℕ) (x y : Lexeme) (a b q n : ℕ) → Next text p x a q → Next text p y b n → (x ≡ y) × (a ≡ b) × (q ≡ n)
next_once text p x y a b q n h k =
    let e = skips_once text p a b h.skips k.skips in
    let s : Stands text y a n = subst (λ z. Stands text y z n) (sym e) k.stands in
    let one = stands_once text x y a q n h.stands s (one_class text a (class_of x) (class_of y) (here text x a q h.stands) (here text y a n s)) in
    (one.0, e, one.1)
