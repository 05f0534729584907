-- A part of a fitting script: every line asks for the value of its slot's term.
use Rattle.std.proofs.Common.{◌≡◌, ℕ, zero, suc, ◌+◌, ◌-◌, ◌<◌, ◌≤◌, min, ◌≢◌, ◌⊎◌, List, [], ◌∷◌, length, get_or, take, Some, None, Option, Result, sym, ap, ◌∙◌, subst, inl, inr, arith, length-drop, length-take}
use Rattle.deduction.specs.Term.{Term}
use Rattle.provider.specs.Algebra.{Algebra}
use Rattle.provider.specs.Meaning.{Meaning, stands, Kept, Holds}
use Rattle.rules.specs.Script.{Op}
use Rattle.rules.specs.State.{nth}
use Rattle.rules.proofs.Nth.{some_is, in_nth, nth_below}
use Rattle.scripts.specs.declared.instruction.Instruction.{Instruction}
use Rattle.scripts.specs.declared.instruction.Instruction.TheVariants.{Given, Fresh, From, To, Recv, Mate, Left, Right, Join, Seal, Digest, Entry, Open, Same, Send}
use Rattle.scripts.specs.declared.instruction.Line.{Line}
use Rattle.scripts.specs.Lines.{op_of, line_of, script_of}
use Rattle.scripts.specs.Composing.{OpBelow, AllNamed}
use Rattle.valuation.specs.Value.{value, Valued}
use Rattle.valuation.specs.Fit.{at, term_of, terms_of, Settled}
use Rattle.valuation.specs.Law.{made as makes, Lawful}
use Rattle.valuation.proofs.Slots.{Before, fits_before, op_value}
use Rattle.acting.specs.declared.instruction.Part.{Part}
use Rattle.acting.specs.declared.halt.Halt.{Halt}
use Rattle.acting.specs.Acts.{Acting, total}
use Rattle.acting.specs.Carrying.{sender_of, message_of, putting, op_act, tally, line_act, line_tally, slot_from, between, CarriedOut}
use Rattle.acting.specs.Standing.{StandsFor, Loaded, Standing, Numbered, Brings, Handed, AllHanded, Alone, PartStands, KeptOutside, Bounded}
use Rattle.acting.proofs.Lines.{nth_take_back, nth_drop}
use Rattle.acting.proofs.Sound.{map_cases, still, Sound, acting_keeps, acting_counts, acting_stands}

nth_view : (T : ℕ → Term) (ls : List Line) (k : ℕ) (l : Line) → nth ls k ≡ Some l → nth (script_of T ls) k ≡ Some (line_of T l)
nth_view T [] k l e = let z : ◌≡◌ {A = ℕ} 0 1 = cc in absurd (omega arith)
nth_view T (x ∷ ls) zero l e = let p : x ≡ l = cc in ap (λ y. Some (line_of T y)) p
nth_view T (x ∷ ls) (suc k) l e = nth_view T ls k l e

nth_known : (n : ℕ) (ls : List Line) (k : ℕ) (l : Line) → AllNamed n ls → nth ls k ≡ Some l → OpBelow n l.op
nth_known n [] k l a e = let z : ◌≡◌ {A = ℕ} 0 1 = cc in absurd (omega arith)
nth_known n (x ∷ ls) zero l a e = let p : x ≡ l = cc in subst (λ (y : Line). OpBelow n y.op) p a.0.1
nth_known n (x ∷ ls) (suc k) l a e = nth_known n ls k l a.1 e

-- the terms in number order are numbered
pub numbered_nth : (T : ℕ → Term) (terms : List Term) → ((i : ℕ) → i < length terms → nth terms i ≡ Some (T i)) → Numbered terms T (length terms)
numbered_nth T terms h t i =
    let w = in_nth terms t i in
    let l = nth_below terms w.0 t w.1 in
    (w.0, l, some_is (sym (h w.0 l) ∙ w.1))

-- what is handed goes on standing for its term
module _ {X : Type 0} (f : Algebra X) (T : ℕ → Term) (is is' : List (ℕ × X)) (kept : Kept is is') where
  pub loaded_kept : (n : ℕ) (readings : List ℕ) → Loaded f is T n readings → Loaded f is' T n readings
  loaded_kept n readings h t l = still f is is' (get_or readings t 0) (T t) kept (h t l)

  brings_kept : (o : Option ℕ) (t : Term) → Brings f is o t → Brings f is' o t
  brings_kept o t b = (b.0, b.1, still f is is' b.0 t kept b.2)

  handed_kept : (part : Part) (op : Instruction) → Handed f is T part op → Handed f is' T part op
  handed_kept part (Given t) h = h
  handed_kept part (Fresh t) h = h
  handed_kept part (From t) h = brings_kept (sender_of part) (T t) h
  handed_kept part (To t) h = h
  handed_kept part (Recv t) h = brings_kept (message_of part) (T t) h
  handed_kept part (Mate a) h = h
  handed_kept part (Left a) h = h
  handed_kept part (Right a) h = h
  handed_kept part (Join a b) h = h
  handed_kept part (Seal a b) h = h
  handed_kept part (Digest a b) h = h
  handed_kept part (Entry a b) h = h
  handed_kept part (Open a b) h = h
  handed_kept part (Same a b) h = h
  handed_kept part (Send a b) h = h

  -- what a part hands goes on standing for its terms
  pub all_handed_kept : (part : Part) (ls : List Line) (start end : ℕ) → AllHanded f is T part ls start end → AllHanded f is' T part ls start end
  all_handed_kept part ls start end h k l u v e = handed_kept part l.op (h k l u v e)

  -- slots that are not written go on standing for their terms
  pub standing_kept : (ts : List Term) (base : ℕ) (slots slots' : List ℕ) (n : ℕ) → ((k : ℕ) → k < n → get_or slots' (base + k) 0 ≡ get_or slots (base + k) 0)
      → Standing f is ts base slots n → Standing f is' ts base slots' n
  standing_kept ts base slots slots' n same h k l = rw (same k l) (still f is is' (get_or slots (base + k) 0) (at ts k) kept (h k l))

-- what needs nothing handed to it finds all in every part
pub alone_handed : {X : Type 0} (f : Algebra X) (is : List (ℕ × X)) (T : ℕ → Term) (part : Part) (op : Instruction) → Alone op → Handed f is T part op
alone_handed f is T part (Given t) h = tt
alone_handed f is T part (Fresh t) h = tt
alone_handed f is T part (From t) h = absurd h
alone_handed f is T part (To t) h = h
alone_handed f is T part (Recv t) h = absurd h
alone_handed f is T part (Mate a) h = tt
alone_handed f is T part (Left a) h = tt
alone_handed f is T part (Right a) h = tt
alone_handed f is T part (Join a b) h = tt
alone_handed f is T part (Seal a b) h = tt
alone_handed f is T part (Digest a b) h = tt
alone_handed f is T part (Entry a b) h = tt
alone_handed f is T part (Open a b) h = tt
alone_handed f is T part (Same a b) h = tt
alone_handed f is T part (Send a b) h = tt

-- every term that is loaded has a value that the provider can hold
valued_by : {X : Type 0} (P : X → Type 0) (f : Algebra X) (m : Meaning X) → Holds P m → (T : ℕ → Term) (n : ℕ) (terms : List Term) (readings : List ℕ) → Numbered terms T n → Loaded f m.issued T n readings → Valued P f terms
valued_by P f m holds T n terms readings numbers loaded t i =
    let w = numbers t i in
    let v = loaded w.0 w.1 in
    (v.0, ap (value f) (sym w.2) ∙ v.2, holds (get_or readings w.0 0) v.0 v.1)

module _ {X : Type 0} {P : X → Type 0} {f : Algebra X} (law : Lawful P f) (is : List (ℕ × X)) (T : ℕ → Term) (n : ℕ) (readings : List ℕ) (part : Part) (base : ℕ) (slots : List ℕ)
    (terms all : List Term) (settled : Settled terms) (valued : Valued P f terms) (loaded : Loaded f is T n readings) (k : ℕ) (env : Standing f is all base slots k) where
  -- what stands in a slot
  abbrev in_slot : ℕ → Option X
  in_slot j = stands is (get_or slots (base + j) 0)

  module _ (op : Op) (b : Before terms all k op) where
    -- a slot before this one, with the term that it has there
    slot_stands : (j : ℕ) → j < length b.slots → StandsFor f is (get_or slots (base + j) 0) (at b.slots j)
    slot_stands j l = rw (b.kept j l) at (env j (omega (arith, b.count)))

    same_value : (j : ℕ) → j < length b.slots → in_slot j ≡ value f (at b.slots j)
    same_value j l = let w = slot_stands j l in w.1 ∙ sym w.2

    -- what the instruction makes is the value of its slot's term
    makes_value : (x : X) × (makes f in_slot op ≡ Some x) × (value f (at all k) ≡ Some x)
    makes_value =
        let v = valued (term_of b.slots op) b.term in
        (v.0, op_value law terms settled valued in_slot b.slots op b.among same_value b.fit b.term ∙ v.1, ap (value f) b.is ∙ v.1)

  brings_sound : (o : Option ℕ) (t : Term) → Brings f is o t → Sound f is (putting o) t
  brings_sound None t b = let z : ◌≡◌ {A = ℕ} 0 1 = cc in absurd (omega arith)
  brings_sound (Some h) t b = let e : h ≡ b.0 = cc in rw e b.2

  pub op_sound : (op : Instruction) → Before terms all k (op_of T op) → OpBelow n op → Handed f is T part op → Sound f is (op_act readings part base slots op) (at all k)
  op_sound (Given t) b low h = rw b.is (loaded t low)
  op_sound (Fresh t) b low h = rw b.is (loaded t low)
  op_sound (From t) b low h = rw b.is (brings_sound (sender_of part) (T t) h)
  op_sound (To t) b low h = h
  op_sound (Recv t) b low h = rw b.is (brings_sound (message_of part) (T t) h)
  op_sound (Mate a) b low h = makes_value (op_of T (Mate a)) b
  op_sound (Left a) b low h = makes_value (op_of T (Left a)) b
  op_sound (Right a) b low h = makes_value (op_of T (Right a)) b
  op_sound (Join a c) b low h = makes_value (op_of T (Join a c)) b
  op_sound (Seal a c) b low h = makes_value (op_of T (Seal a c)) b
  op_sound (Digest a c) b low h = makes_value (op_of T (Digest a c)) b
  op_sound (Entry a c) b low h = makes_value (op_of T (Entry a c)) b
  op_sound (Open a c) b low h = makes_value (op_of T (Open a c)) b
  op_sound (Same a c) b low h =
      let u = slot_stands (op_of T (Same a c)) b a b.fit.0 in
      let v = slot_stands (op_of T (Same a c)) b c b.fit.1 in
      rw b.is (u, rw b.fit.2 v)
  op_sound (Send a c) b low h = rw b.is (slot_stands (op_of T (Send a c)) b a b.fit.0)

-- as far as the slots go, a part that has room for its lines is carried out whole
clamped : (end base long : ℕ) → base + end ≤ long → min end (long - base) ≡ end
clamped end base long h = omega arith

module _ {S X : Type 0} {P : X → Type 0} {f : Algebra X} (law : Lawful P f) (m : S → Meaning X) (holds : (s : S) → Holds P (m s)) where
  pub part_stands : (readings : List ℕ) (part : Part) (base : ℕ) (ls : List Line) (start end : ℕ) (s : S) (slots : List ℕ) (r : Result ℕ Halt) (s' : S) (slots' : List ℕ)
      → CarriedOut f m readings part base ls start end s slots r s' slots' → PartStands f m readings part base ls start end s slots r s' slots'
  part_stands readings part base ls start end s slots r s' slots' a T n terms settled numbers known fits ready =
      let all = terms_of (script_of T ls) in
      let is = between start end ls in
      let a' : Acting f m (line_act readings part base) line_tally (slot_from base) is start 0 s slots r s' slots' =
      subst (λ (e : ℕ). Acting f m (line_act readings part base) line_tally (slot_from base) (between start e ls) start 0 s slots r s' slots') (clamped end base (length slots) ready.room) a in
      let ld = length-drop start (take end ls) in
      let lt = length-take end ls in
      let valued = valued_by P f (m s) (holds s) T n terms readings numbers ready.loaded in
      let none : 0 + total line_tally is ≡ total line_tally is = omega arith in
      rw none at
      (acting_stands f m (line_act readings part base) line_tally (slot_from base) (λ j k h. let z : base + j ≢ base + k = omega arith in z) ls (at all) start end
      (λ (s : S). Loaded f (m s).issued T n readings × AllHanded f (m s).issued T part ls start end)
      (λ s s' kept h. (loaded_kept f T (m s).issued (m s').issued kept n readings h.0, all_handed_kept f T (m s).issued (m s').issued kept part ls start end h.1))
      (λ s hs k l u v e h env.
      op_sound law (m s).issued T n readings part base hs terms all settled valued h.0 k env l.op
      (fits_before terms (script_of T ls) fits k (line_of T l) (nth_view T ls k l e)) (nth_known n ls k l known e) (h.1 k l u v e))
      is start 0 s slots r s' slots' (omega arith) (omega (arith, ready.begins, ready.lines)) (λ k l e. nth_take_back end ls (start + k) l (sym (nth_drop (take end ls) start k) ∙ e))
      (λ k h. omega (arith, ready.room)) (ready.loaded, ready.handed) ready.before a')

tally_one : (op : Instruction) → tally op ≤ 1
tally_one (Given t) = omega arith
tally_one (Fresh t) = omega arith
tally_one (From t) = omega arith
tally_one (To t) = omega arith
tally_one (Recv t) = omega arith
tally_one (Mate a) = omega arith
tally_one (Left a) = omega arith
tally_one (Right a) = omega arith
tally_one (Join a b) = omega arith
tally_one (Seal a b) = omega arith
tally_one (Digest a b) = omega arith
tally_one (Entry a b) = omega arith
tally_one (Open a b) = omega arith
tally_one (Same a b) = omega arith
tally_one (Send a b) = omega arith

total_few : (ls : List Line) → total line_tally ls ≤ length ls
total_few [] = omega arith
total_few (l ∷ ls) = let h = total_few ls in let k = tally_one l.op in omega arith

module _ {S X : Type 0} (f : Algebra X) (m : S → Meaning X) (readings : List ℕ) (part : Part) (base : ℕ) (ls : List Line) (start end : ℕ) (s : S) (slots : List ℕ) (r : Result ℕ Halt) (s' : S) (slots' : List ℕ)
    (a : CarriedOut f m readings part base ls start end s slots r s' slots') where
  apart : (j k : ℕ) → (j < base + start) ⊎ (base + end ≤ j) → start ≤ k → k < end → j ≡ base + k → ⊥
  apart j k (inl o) u v e = omega arith
  apart j k (inr o) u v e = omega arith

  -- whatever comes of a part, handles keep their values and all other slots their handles
  pub part_keeps : KeptOutside m (base + start) (base + end) s slots s' slots'
  part_keeps =
      let stop = min end (length slots - base) in
      let is = between start stop ls in
      let ld = length-drop start (take stop ls) in
      let lt = length-take stop ls in
      let d = acting_keeps f m (line_act readings part base) line_tally (slot_from base) is start 0 s slots r s' slots' a in
      record { kept = d.kept; outside = λ j o. d.outside j (λ k u v e. apart j k o u (omega arith) e); long = d.long }

  pub part_bounded : length ls ≤ 512 → Bounded start end r
  part_bounded few =
      let stop = min end (length slots - base) in
      let is = between start stop ls in
      let ld = length-drop start (take stop ls) in
      let lt = length-take stop ls in
      let most = total_few is in
      map_cases r (λ c. c ≡ 0 + total line_tally is) (λ c. c ≤ 512) (λ h. (start ≤ h.at) × (h.at < start + length is)) (λ h. (start ≤ h.at) × (h.at < end))
      (λ c h. omega arith) (λ h w. (w.0, omega (arith, w.0, w.1)))
      (acting_counts f m (line_act readings part base) line_tally (slot_from base) is start 0 s slots r s' slots' a)
