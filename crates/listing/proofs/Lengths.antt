-- How long a listing is, and its lines one by one.
use Rattle.std.proofs.Common.{◌≡◌, ℕ, zero, suc, ◌+◌, ◌*◌, ◌/◌, ◌%◌, ◌<◌, ◌≤◌, ◌^◌, ◌==◌, if◌then◌else◌, true, false, List, [], ◌∷◌, ◌++◌, Some, None, Option, length, get_or, take, drop, decimal, refl, sym, ap, ◌∙◌, add-zero, arith, length-append, lit≤}
use Rattle.std.proofs.lemmas.Fmt.{decimal_digit, decimal_step}
use Rattle.std.proofs.lemmas.List.{append_assoc, append-nil, take_more, take-append-drop, length-take, length-take-le}
use Rattle.std.specs.Fmt.{digits, digits_onto, digit_glyph}
use Rattle.scripts.specs.declared.instruction.Instruction.{Instruction}
use Rattle.scripts.specs.declared.instruction.Instruction.TheVariants.{Given, Fresh, From, To, Recv, Mate, Left, Right, Join, Seal, Digest, Entry, Open, Same, Send}
use Rattle.scripts.specs.declared.instruction.Line.{Line}
use Rattle.scripts.specs.declared.script.Script.{Script}
use Rattle.scripts.specs.View.{written}
use Rattle.listing.specs.Listing.{spaced, word_of, operands_of, spaced_if, spaced_operands, line_of, lines_from, listing_of}

-- a number of two digits and more is one digit longer than its tenth
pub digit_more : (n : ℕ) → 10 ≤ n → n < 2 ^ 64 → length (decimal n) ≡ length (decimal (n / 10)) + 1
digit_more n h k = ap length (decimal_step n h k) ∙ length-append (decimal (n / 10)) ((48 + n % 10) ∷ [])

pub one_digit : (n : ℕ) → n < 10 → length (decimal n) ≡ 1
one_digit n h = ap length (decimal_digit n h)

digits_few : (k n : ℕ) (ds : List ℕ) → length (digits_onto k 10 false n ds) ≤ k + length ds
digits_few zero n ds = omega arith
digits_few (suc k) n ds =
    elim (n / 10 == 0) as (λ b. length (if b then digit_glyph false (n % 10) ∷ ds else digits_onto k 10 false (n / 10) (digit_glyph false (n % 10) ∷ ds)) ≤ suc k + length ds) [
      | true ↦ omega arith
      | false ↦ omega (arith, digits_few k (n / 10) (digit_glyph false (n % 10) ∷ ds))
    ]

decimal_few : (n : ℕ) → length (decimal n) ≤ 64
unfolding digits
decimal_few n = omega (arith, digits_few 64 n [])

word_few : (op : Instruction) → length (word_of op) ≤ 6
word_few (Given t) = lit≤ tt
word_few (Fresh t) = lit≤ tt
word_few (From t) = lit≤ tt
word_few (To t) = lit≤ tt
word_few (Recv t) = lit≤ tt
word_few (Mate i) = lit≤ tt
word_few (Left i) = lit≤ tt
word_few (Right i) = lit≤ tt
word_few (Join i j) = lit≤ tt
word_few (Seal i j) = lit≤ tt
word_few (Digest i j) = lit≤ tt
word_few (Entry i j) = lit≤ tt
word_few (Open i j) = lit≤ tt
word_few (Same i j) = lit≤ tt
word_few (Send i j) = lit≤ tt

spaced_if_few : (o : Option ℕ) → length (spaced_if o) ≤ 65
spaced_if_few None = omega arith
spaced_if_few (Some n) = omega (arith, decimal_few n)

operands_few : (op : Instruction) → length (spaced_operands op) ≤ 130
operands_few op =
    omega (arith, length-append (spaced (operands_of op).0) (spaced_if (operands_of op).1), decimal_few (operands_of op).0, spaced_if_few (operands_of op).1)

-- a line by its parts
pub line_length : (agent n : ℕ) (op : Instruction) →
    length (line_of agent n op) ≡ length (decimal agent) + length (spaced n) + 1 + length (word_of op) + length (spaced_operands op) + 1
unfolding line_of
line_length agent n op = simp length-append refl

line_few : (agent n : ℕ) (op : Instruction) → length (line_of agent n op) ≤ 267
line_few agent n op = omega (arith, line_length agent n op, decimal_few agent, decimal_few n, word_few op, operands_few op)

lines_few : (agent n : ℕ) (ls : List Line) → length (lines_from agent n ls) ≤ 267 * length ls
lines_few agent n [] = omega arith
lines_few agent n (l ∷ ls) =
    omega (arith, length-append (line_of agent n l.op) (lines_from agent (n + 1) ls), line_few agent n l.op, lines_few agent (n + 1) ls)

-- the listing of a script is never too long to be counted
pub listing_few : (agent : ℕ) (s : Script) → length (listing_of agent (written s)) ≤ 136704
listing_few agent s = omega (arith, lines_few agent 0 (written s), s.lines.few, length-take s.lines.len s.lines.cells)

lines_append : (agent n : ℕ) (xs ys : List Line) → lines_from agent n (xs ++ ys) ≡ lines_from agent n xs ++ lines_from agent (n + length xs) ys
lines_append agent n [] ys = rw add-zero refl
lines_append agent n (x ∷ xs) ys =
    let e : n + 1 + length xs ≡ n + length (x ∷ xs) = omega arith in
    rw (lines_append agent (n + 1) xs ys, e, append_assoc) refl

-- the next line
pub lines_more : (agent i : ℕ) (ls : List Line) (l : Line) → i < length ls →
    listing_of agent (take (i + 1) ls) ≡ listing_of agent (take i ls) ++ line_of agent i (get_or ls i l).op
lines_more agent i ls l h =
    let place : 0 + length (take i ls) ≡ i = omega (arith, length-take-le i ls (omega arith)) in
    ap (listing_of agent) (take_more ls i l h) ∙ lines_append agent 0 (take i ls) (get_or ls i l ∷ [])
    ∙ ap (λ n. listing_of agent (take i ls) ++ (line_of agent n (get_or ls i l).op ++ [])) place
    ∙ ap (λ bs. listing_of agent (take i ls) ++ bs) (append-nil (line_of agent i (get_or ls i l).op))

-- the first lines are no longer than all
lines_front : (agent i : ℕ) (ls : List Line) → length (listing_of agent (take i ls)) ≤ length (listing_of agent ls)
lines_front agent i ls =
    let whole = ap (λ ms. length (listing_of agent ms)) (sym (take-append-drop i ls)) ∙ ap length (lines_append agent 0 (take i ls) (drop i ls)) in
    omega (arith, whole, length-append (listing_of agent (take i ls)) (lines_from agent (0 + length (take i ls)) (drop i ls)))

-- the lines up to the next one are no longer than all
pub line_within : (agent i : ℕ) (ls : List Line) (l : Line) → i < length ls →
    length (listing_of agent (take i ls)) + length (line_of agent i (get_or ls i l).op) ≤ length (listing_of agent ls)
line_within agent i ls l h =
    omega (arith, ap length (lines_more agent i ls l h), length-append (listing_of agent (take i ls)) (line_of agent i (get_or ls i l).op), lines_front agent (i + 1) ls)
