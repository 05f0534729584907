-- Where the parties' slots begin and end.
use Rattle.std.proofs.Common.{◌≡◌, ℕ, zero, suc, ◌+◌, ◌<◌, ◌≤◌, min, ◌⊎◌, List, [], length, get_or, map, ◌*◌, ◌∷◌, Some, None, Option, MatchOption, sym, refl, ap, ◌∙◌, inl, inr, add-one, zero-add, arith}
use Rattle.std.proofs.lemmas.List.{get_or_past}
use Rattle.std.proofs.lemmas.Bool.{cases_lt}
use Rattle.std.proofs.lemmas.List.Sums.{sum_by-cons}
use Rattle.std.specs.List.{range_with_len, sum_by}
use Rattle.std.specs.Borrow.{Bor}
use Rattle.scripts.specs.declared.instruction.Line.{Line}
use Rattle.scripts.specs.declared.script.Script.{Script}
use Rattle.bounded.specs.Items.{items}
use Rattle.scripts.proofs.Writing.{written_few}
use Rattle.scripts.specs.View.{written}
use Rattle.rules.specs.State.{nth}
use Rattle.rules.proofs.Nth.{some_is, nth_at, nth_below}
use Rattle.protocol.specs.declared.protocol.Protocol.{Protocol}
use Rattle.protocol.specs.View.{lines_of}
use Rattle.protocol.specs.Reading.{ShowsScript}
use Rattle.runs.specs.Memory.{lines_at, own_slots, base_of}

-- the member of a number is what is read there
pub read_nth : {A : Type 0} (xs : List A) (n : ℕ) (x d : A) → nth xs n ≡ Some x → get_or xs n d ≡ x
read_nth xs n x d e = some_is (sym (nth_at xs n d (nth_below xs n x e)) ∙ e)

pub own_some : (ps : List (List Line)) (p : ℕ) (ls : List Line) → (p ≡ 0 → ⊥) → nth ps p ≡ Some ls → length ls ≡ own_slots ps p
own_some ps zero ls a e = absurd (a refl)
own_some ps (suc p) ls a e = sym (ap length (read_nth ps (suc p) ls [] e))

pub own_none : (ps : List (List Line)) (p : ℕ) → length ps ≤ p → 0 ≡ own_slots ps p
own_none ps zero l = refl
own_none ps (suc p) l = sym (ap length (get_or_past ps (suc p) [] l))

-- as many as the script that is shown has
pub own_is : (ps : List (List Line)) (p : ℕ) → (p ≡ 0 → ⊥) → (o : Option (Bor Script)) (n : ℕ) (Q : Bor Script → Type 0) → ShowsScript ps p o → MatchOption o (n ≡ 0) Q
    → ((s : Bor Script) → Q s → n ≡ length (written s.now)) → n ≡ own_slots ps p
own_is ps p a None n Q w e len = e ∙ own_none ps p w
own_is ps p a (Some s) n Q w q len = len s q ∙ own_some ps p (written s.now) a w

-- a party's slots are as many as its lines
pub own_party : (ps : List (List Line)) (p : ℕ) → 1 ≤ p → own_slots ps p ≡ length (lines_at ps p)
own_party ps zero l = absurd (omega arith)
own_party ps (suc p) l = refl

base_past_by : (ps : List (List Line)) (n p : ℕ) → length ps ≤ n → n ≤ suc p → (n ≤ p → base_of ps n ≡ base_of ps p) → (p < n) ⊎ (n ≤ p) → base_of ps n ≡ base_of ps (suc p)
base_past_by ps n p l h f (inl k) = let e : n ≡ suc p = omega arith in ap (base_of ps) e
base_past_by ps n p l h f (inr k) = let q = f k in let z = own_none ps p (omega arith) in omega arith

-- past the last party nothing is added
pub base_past : (ps : List (List Line)) (n p : ℕ) → length ps ≤ n → n ≤ p → base_of ps n ≡ base_of ps p
base_past ps n zero l h = let e : n ≡ 0 = omega arith in ap (base_of ps) e
base_past ps n (suc p) l h = base_past_by ps n p l h (base_past ps n p l) (cases_lt p n)

base_min_by : (ps : List (List Line)) (p q : ℕ) → q ≡ min p (length ps) → (p < length ps) ⊎ (length ps ≤ p) → base_of ps q ≡ base_of ps p
base_min_by ps p q e (inl l) = let w : q ≡ p = omega arith in ap (base_of ps) w
base_min_by ps p q e (inr l) = base_past ps q p (omega arith) (omega arith)

-- the bases up to the last party are those of all numbers
pub base_min : (ps : List (List Line)) (p n q : ℕ) → n ≡ length ps → q ≡ min p n → base_of ps q ≡ base_of ps p
base_min ps p n q a b = let e : q ≡ min p (length ps) = omega arith in base_min_by ps p q e (cases_lt p (length ps))

sum_from : (ps : List (List Line)) (k n : ℕ) → base_of ps k + sum_by (own_slots ps) (range_with_len k n) ≡ base_of ps (k + n)
sum_from ps k zero = let z : k + 0 ≡ k = omega arith in rw z (omega arith)
sum_from ps k (suc n) =
    let h = sum_from ps (k + 1) n in
    let c : sum_by (own_slots ps) (range_with_len k (suc n)) ≡ own_slots ps k + sum_by (own_slots ps) (range_with_len (k + 1) n) = sum_by-cons (own_slots ps) k (range_with_len (k + 1) n) in
    let z : k + suc n ≡ (k + 1) + n = omega arith in
    let b : base_of ps (k + 1) ≡ base_of ps k + own_slots ps k = rw add-one refl in
    rw z (omega arith)

-- the slots of the parties before one, summed
pub base_sum : (ps : List (List Line)) (n : ℕ) → sum_by (own_slots ps) (range_with_len 0 n) ≡ base_of ps n
base_sum ps n = sym (zero-add (sum_by (own_slots ps) (range_with_len 0 n))) ∙ sum_from ps 0 n ∙ ap (base_of ps) (zero-add n)

few_lines : (ss : List Script) (p : ℕ) → length (get_or (map written ss) p []) ≤ 512
few_lines [] p = omega arith
few_lines (s ∷ ss) zero = written_few s
few_lines (s ∷ ss) (suc p) = few_lines ss p

few_slots : (c : Protocol) (p : ℕ) → own_slots (lines_of c) p ≤ 512
few_slots c zero = omega arith
few_slots c (suc p) = few_lines (items c.scripts) (suc p)

pub base_few : (c : Protocol) (n : ℕ) → base_of (lines_of c) n ≤ 512 * n
base_few c zero = omega arith
base_few c (suc n) = let h = base_few c n in let k = few_slots c n in omega arith

base_above_by : (ps : List (List Line)) (p q : ℕ) → p < suc q → (p < q → base_of ps p + own_slots ps p ≤ base_of ps q) → (p < q) ⊎ (q ≤ p) → base_of ps p + own_slots ps p ≤ base_of ps (suc q)
base_above_by ps p q l f (inl k) = let h = f k in omega arith
base_above_by ps p q l f (inr k) = let e : p ≡ q = omega arith in rw e (omega arith)

-- the slots of a party lie before the bases of those after it
pub base_above : (ps : List (List Line)) (p q : ℕ) → p < q → base_of ps p + own_slots ps p ≤ base_of ps q
base_above ps p zero l = absurd (omega arith)
base_above ps p (suc q) l = base_above_by ps p q l (base_above ps p q) (cases_lt p q)
