-- Why a listing tells its script: separators are lower than every digit and letter, so that a text is cut in one way.
use Rattle.std.proofs.Common.{◌≡◌, ℕ, zero, suc, ◌+◌, ◌/◌, ◌%◌, ◌<◌, ◌≤◌, ◌^◌, ◌==◌, if◌then◌else◌, cond, true, false, List, [], ◌∷◌, ◌++◌, Some, None, Option, IfSome, map, length, decimal, codes, refl, sym, ap, ◌∙◌, arith, length-append, lit≤}
use Rattle.std.proofs.lemmas.Bool.Decides.{nat_tests}
use Rattle.std.proofs.lemmas.Fmt.{decimal_injective}
use Rattle.std.proofs.lemmas.List.{append_assoc}
use Rattle.std.specs.Fmt.{digits, digits_onto, digit_glyph}
use Rattle.std.specs.List.{AllByRecursion}
use Rattle.std.specs.Str.{bytes_eq}
use Rattle.scripts.specs.declared.instruction.Instruction.{Instruction}
use Rattle.scripts.specs.declared.instruction.Instruction.TheVariants.{Given, Fresh, From, To, Recv, Mate, Left, Right, Join, Seal, Digest, Entry, Open, Same, Send}
use Rattle.scripts.specs.declared.instruction.Line.{Line}
use Rattle.listing.specs.Listing.{spaced, word_of, operands_of, spaced_if, line_of, lines_from}
use Rattle.listing.specs.Apart.{Fits, AreAlike, ListingsTellScriptsApart}
use Rattle.listing.proofs.Lengths.{line_length}

-- no separator among them
abbrev High : List ℕ → Type 0
High [] = Unit {0}
High (b ∷ bs) = (48 ≤ b) × High bs

-- one way to cut
cut : (xs ys : List ℕ) (s u : ℕ) (r t : List ℕ) → High xs → High ys → s < 48 → u < 48 → xs ++ s ∷ r ≡ ys ++ u ∷ t → (xs ≡ ys) × (s ≡ u) × (r ≡ t)
cut [] [] s u r t hx hy hs hu e = (refl, (cc), (cc))
cut [] (y ∷ ys) s u r t hx hy hs hu e = let q : s ≡ y = cc in absurd (omega (arith, hy.0))
cut (x ∷ xs) [] s u r t hx hy hs hu e = let q : x ≡ u = cc in absurd (omega (arith, hx.0))
cut (x ∷ xs) (y ∷ ys) s u r t hx hy hs hu e =
    let q : x ≡ y = cc in
    let f : xs ++ s ∷ r ≡ ys ++ u ∷ t = cc in
    let w = cut xs ys s u r t hx.1 hy.1 hs hu f in
    let v : xs ≡ ys = w.0 in
    ((cc), w.1, w.2)

glyph_high : (d : ℕ) → 48 ≤ digit_glyph false d
glyph_high d = grind (arith, nat_tests)

digits_high : (k n : ℕ) (ds : List ℕ) → High ds → High (digits_onto k 10 false n ds)
digits_high zero n ds h = h
digits_high (suc k) n ds h =
    elim (n / 10 == 0) as (λ b. High (if b then digit_glyph false (n % 10) ∷ ds else digits_onto k 10 false (n / 10) (digit_glyph false (n % 10) ∷ ds))) [
      | true ↦ (glyph_high (n % 10), h)
      | false ↦ digits_high k (n / 10) (digit_glyph false (n % 10) ∷ ds) (glyph_high (n % 10), h)
    ]

decimal_high : (n : ℕ) → High (decimal n)
unfolding digits
decimal_high n = digits_high 64 n [] tt

word_high : (op : Instruction) → High (word_of op)
word_high (Given t) = (lit≤ tt, (lit≤ tt, (lit≤ tt, (lit≤ tt, (lit≤ tt, tt)))))
word_high (Fresh t) = (lit≤ tt, (lit≤ tt, (lit≤ tt, (lit≤ tt, (lit≤ tt, tt)))))
word_high (From t) = (lit≤ tt, (lit≤ tt, (lit≤ tt, (lit≤ tt, tt))))
word_high (To t) = (lit≤ tt, (lit≤ tt, tt))
word_high (Recv t) = (lit≤ tt, (lit≤ tt, (lit≤ tt, (lit≤ tt, tt))))
word_high (Mate i) = (lit≤ tt, (lit≤ tt, (lit≤ tt, (lit≤ tt, tt))))
word_high (Left i) = (lit≤ tt, (lit≤ tt, (lit≤ tt, (lit≤ tt, tt))))
word_high (Right i) = (lit≤ tt, (lit≤ tt, (lit≤ tt, (lit≤ tt, (lit≤ tt, tt)))))
word_high (Join i j) = (lit≤ tt, (lit≤ tt, (lit≤ tt, (lit≤ tt, tt))))
word_high (Seal i j) = (lit≤ tt, (lit≤ tt, (lit≤ tt, (lit≤ tt, tt))))
word_high (Digest i j) = (lit≤ tt, (lit≤ tt, (lit≤ tt, (lit≤ tt, (lit≤ tt, (lit≤ tt, tt))))))
word_high (Entry i j) = (lit≤ tt, (lit≤ tt, (lit≤ tt, (lit≤ tt, (lit≤ tt, tt)))))
word_high (Open i j) = (lit≤ tt, (lit≤ tt, (lit≤ tt, (lit≤ tt, tt))))
word_high (Same i j) = (lit≤ tt, (lit≤ tt, (lit≤ tt, (lit≤ tt, tt))))
word_high (Send i j) = (lit≤ tt, (lit≤ tt, (lit≤ tt, (lit≤ tt, tt))))

-- the instruction of a word with its operands
abbrev named : List ℕ → ℕ → Option ℕ → Instruction
named w a None =
    cond (bytes_eq w (codes "GIVEN")) (Given a)
    (cond (bytes_eq w (codes "FRESH")) (Fresh a)
    (cond (bytes_eq w (codes "FROM")) (From a)
    (cond (bytes_eq w (codes "TO")) (To a)
    (cond (bytes_eq w (codes "RECV")) (Recv a)
    (cond (bytes_eq w (codes "MATE")) (Mate a)
    (cond (bytes_eq w (codes "LEFT")) (Left a)
    (Right a)))))))
named w a (Some b) =
    cond (bytes_eq w (codes "JOIN")) (Join a b)
    (cond (bytes_eq w (codes "SEAL")) (Seal a b)
    (cond (bytes_eq w (codes "DIGEST")) (Digest a b)
    (cond (bytes_eq w (codes "ENTRY")) (Entry a b)
    (cond (bytes_eq w (codes "OPEN")) (Open a b)
    (cond (bytes_eq w (codes "SAME")) (Same a b)
    (Send a b))))))

named_is : (op : Instruction) → named (word_of op) (operands_of op).0 (operands_of op).1 ≡ op
named_is (Given t) = refl
named_is (Fresh t) = refl
named_is (From t) = refl
named_is (To t) = refl
named_is (Recv t) = refl
named_is (Mate i) = refl
named_is (Left i) = refl
named_is (Right i) = refl
named_is (Join i j) = refl
named_is (Seal i j) = refl
named_is (Digest i j) = refl
named_is (Entry i j) = refl
named_is (Open i j) = refl
named_is (Same i j) = refl
named_is (Send i j) = refl

-- what separates the last operands, and what comes after that
abbrev separator : Option ℕ → ℕ
separator None = 10
separator (Some n) = 32

abbrev after : Option ℕ → List ℕ → List ℕ
after None r = r
after (Some n) r = decimal n ++ 10 ∷ r

separator_low : (o : Option ℕ) → separator o < 48
separator_low None = omega arith
separator_low (Some n) = omega arith

-- a line as what is cut
abbrev pieces : ℕ → ℕ → List ℕ → ℕ → Option ℕ → List ℕ → List ℕ
pieces p n w a o r = decimal p ++ 32 ∷ (decimal n ++ 32 ∷ (w ++ 32 ∷ (decimal a ++ separator o ∷ after o r)))

regroup : (p n w a tail r : List ℕ) → p ++ (32 ∷ n) ++ 32 ∷ [] ++ w ++ (32 ∷ a ++ tail) ++ 10 ∷ [] ++ r ≡ p ++ 32 ∷ (n ++ 32 ∷ (w ++ 32 ∷ (a ++ (tail ++ 10 ∷ r))))
regroup p n w a tail r =
    simp append_assoc (ap (λ x. p ++ 32 ∷ x)
    (append_assoc n (32 ∷ (w ++ 32 ∷ (a ++ tail))) (10 ∷ r) ∙ ap (λ x. n ++ 32 ∷ x)
    (append_assoc w (32 ∷ (a ++ tail)) (10 ∷ r) ∙ ap (λ x. w ++ 32 ∷ x) (append_assoc a tail (10 ∷ r)))))

in_pieces : (p n : ℕ) (w : List ℕ) (a : ℕ) (o : Option ℕ) (r : List ℕ) →
    decimal p ++ spaced n ++ 32 ∷ [] ++ w ++ (spaced a ++ spaced_if o) ++ 10 ∷ [] ++ r ≡ pieces p n w a o r
in_pieces p n w a None r = regroup (decimal p) (decimal n) w (decimal a) [] r
in_pieces p n w a (Some b) r = regroup (decimal p) (decimal n) w (decimal a) (spaced b) r

line_in_pieces : (p n : ℕ) (op : Instruction) (r : List ℕ) → line_of p n op ++ r ≡ pieces p n (word_of op) (operands_of op).0 (operands_of op).1 r
unfolding line_of
line_in_pieces p n op r = in_pieces p n (word_of op) (operands_of op).0 (operands_of op).1 r

after_apart : (o o' : Option ℕ) (r t : List ℕ) → IfSome o (λ n. n < 2 ^ 64) → IfSome o' (λ n. n < 2 ^ 64) → separator o ≡ separator o' → after o r ≡ after o' t → (o ≡ o') × (r ≡ t)
after_apart None None r t h h' s e = (refl, e)
after_apart None (Some n) r t h h' s e = absurd (omega arith)
after_apart (Some m) None r t h h' s e = absurd (omega arith)
after_apart (Some m) (Some n) r t h h' s e =
    let c = cut (decimal m) (decimal n) 10 10 r t (decimal_high m) (decimal_high n) (omega arith) (omega arith) e in
    (ap Some (decimal_injective m n h h' c.0), c.2)

line_apart : (p q n : ℕ) (l m : Line) (r t : List ℕ) → p < 2 ^ 64 → q < 2 ^ 64 → Fits l → Fits m → line_of p n l.op ++ r ≡ line_of q n m.op ++ t →
    (p ≡ q) × (l.op ≡ m.op) × (r ≡ t)
line_apart p q n l m r t hp hq hl hm e =
    let a = (operands_of l.op).0 in
    let b = (operands_of m.op).0 in
    let o = (operands_of l.op).1 in
    let u = (operands_of m.op).1 in
    let c1 = cut (decimal p) (decimal q) 32 32 _ _ (decimal_high p) (decimal_high q) (omega arith) (omega arith) (sym (line_in_pieces p n l.op r) ∙ e ∙ line_in_pieces q n m.op t) in
    let c2 = cut (decimal n) (decimal n) 32 32 _ _ (decimal_high n) (decimal_high n) (omega arith) (omega arith) c1.2 in
    let c3 = cut (word_of l.op) (word_of m.op) 32 32 _ _ (word_high l.op) (word_high m.op) (omega arith) (omega arith) c2.2 in
    let c4 = cut (decimal a) (decimal b) (separator o) (separator u) _ _ (decimal_high a) (decimal_high b) (separator_low o) (separator_low u) c3.2 in
    let c5 = after_apart o u r t hl.second hm.second c4.1 c4.2 in (
      decimal_injective p q hp hq c1.0,
      sym (named_is l.op) ∙ ap (λ w. named w a o) c3.0 ∙ ap (λ k. named (word_of m.op) k o) (decimal_injective a b hl.first hm.first c4.0)
          ∙ ap (named (word_of m.op) b) c5.0 ∙ named_is m.op,
      c5.1,
    )

line_some : (p n : ℕ) (l : Line) (r : List ℕ) → [] ≡ line_of p n l.op ++ r → ⊥
line_some p n l r e = omega (arith, ap length e, length-append (line_of p n l.op) r, line_length p n l.op)

lines_apart : (p q n : ℕ) (ls ms : List Line) → p < 2 ^ 64 → q < 2 ^ 64 → AllByRecursion Fits ls → AllByRecursion Fits ms →
    lines_from p n ls ≡ lines_from q n ms → AreAlike p q ls ms
lines_apart p q n [] [] hp hq hl hm e = record { instructions = refl; agent = λ h. absurd (omega arith) }
lines_apart p q n [] (m ∷ ms) hp hq hl hm e = absurd (line_some q n m (lines_from q (n + 1) ms) e)
lines_apart p q n (l ∷ ls) [] hp hq hl hm e = absurd (line_some p n l (lines_from p (n + 1) ls) (sym e))
lines_apart p q n (l ∷ ls) (m ∷ ms) hp hq hl hm e =
    let c = line_apart p q n l m (lines_from p (n + 1) ls) (lines_from q (n + 1) ms) hp hq hl.0 hm.0 e in
    let rest = lines_apart p q (n + 1) ls ms hp hq hl.1 hm.1 c.2 in
    record { instructions = ap (λ op. op ∷ map (λ l. l.op) ls) c.1 ∙ ap (λ ops. m.op ∷ ops) rest.instructions; agent = λ h. c.0 }

pub listings_tell_scripts_apart_lem : ListingsTellScriptsApart
listings_tell_scripts_apart_lem p q ls ms hp hq hl hm e = lines_apart p q 0 ls ms hp hq hl hm e
