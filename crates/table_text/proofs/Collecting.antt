-- The parts of a tuple, collected from left to right.
use Rattle.std.proofs.Common.{◌≡◌, ℕ, ◌<◌, ◌≤◌, List, [], ◌∷◌, ◌++◌, length, Ok, Err, Result, Some, OnOk, OnErr, refl, sym, ap, ◌∙◌, append_assoc, append-nil, length-append, arith}
use Rattle.bounded.specs.declared.list.Full.{Full}
use Rattle.rules.specs.State.{State}
use Rattle.scan.specs.declared.byte.Shape.TheVariants.{Round}
use Rattle.syntax.specs.Grammar.{Term, Tok, closes, term_tokens}
use Rattle.protocol.specs.declared.refusal.Refusal.{Refusal}
use Rattle.table_text.specs.Ahead.{Ahead, Roomy, each_tokens}
use Rattle.table_text.specs.Calls.{Known, on, ended, Made, Pairs}
use Rattle.table_text.specs.Collected.{EachMade, TupleMade}
use Rattle.table_text.specs.Openings.{IsFirst, Opened}
use Rattle.table_text.specs.declared.term.Opening.{Opening}
use Rattle.table_text.proofs.Terms.{moved, begins, no_end}

-- the answer with the numbers of the parts before
abbrev pub behind : List ℕ → Result (List ℕ) Refusal → Result (List ℕ) Refusal
behind ns (Ok ms) = Ok (ns ++ ms)
behind ns (Err e) = Err e

-- what is still to be read and made, and how that completes the whole
pub record Rest (ds : Known) (us : List Term) (text : List ℕ) (ts : List Tok) (front : List ℕ) (st : State) (p : ℕ) (now : State) (parts : List ℕ) : Type 0 where
  pub left : List Term
  pub numbers : List ℕ
  pub ahead : Ahead text p (each_tokens left ts)
  pub stand : parts ≡ front ++ numbers
  pub roomy : Roomy text parts p
  pub rest : (r : Result (List ℕ) Refusal) (st' : State) → EachMade ds left now r st' → EachMade ds us st (behind numbers r) st'

behind_one : (ns : List ℕ) (n : ℕ) (r : Result (List ℕ) Refusal) → behind ns (behind (n ∷ []) r) ≡ behind (ns ++ n ∷ []) r
behind_one ns n (Ok ms) = ap Ok (sym (append_assoc ns (n ∷ []) ms))
behind_one ns n (Err e) = refl

-- one more part was made
one_each : (ds : Known) (u : Term) (us : List Term) (st : State) (n : ℕ) (mid : State) (r : Result (List ℕ) Refusal) (st' : State)
    → Made ds u st (Ok n) mid → EachMade ds us mid r st' → EachMade ds (u ∷ us) st (behind (n ∷ []) r) st'
one_each ds u us st n mid (Ok ms) st' m e = on n mid m (on ms st' e (refl, refl))
one_each ds u us st n mid (Err f) st' m e = on n mid m (ended f e refl)

-- the part whose first token was read
pub record Turn (ds : Known) (us : List Term) (text : List ℕ) (ts : List Tok) (st : State) (numbers : List ℕ) (o : Opening) (q : ℕ) (now : State) : Type 0 where
  pub part : Term
  pub left : List Term
  pub head : Tok
  pub tail : List Tok
  pub is : head ∷ tail ≡ term_tokens part (each_tokens left ts)
  pub opened : Opened (Some o) head
  pub ahead : Ahead text q tail
  pub whole : (r : Result (List ℕ) Refusal) (st' : State) → EachMade ds (part ∷ left) now r st' → EachMade ds us st (behind numbers r) st'

turn_at : (ds : Known) (us : List Term) (text : List ℕ) (ts : List Tok) (st : State) (numbers : List ℕ) (p : ℕ) (o : Opening) (q : ℕ) (now : State) (left : List Term)
    → ((y : Tok) (ys : List Tok) → Ahead text p (y ∷ ys) → Opened (Some o) y × Ahead text q ys) → Ahead text p (each_tokens left ts)
    → ((r : Result (List ℕ) Refusal) (st' : State) → EachMade ds left now r st' → EachMade ds us st (behind numbers r) st') → Turn ds us text ts st numbers o q now
turn_at ds us text ts st numbers p o q now [] h a w = absurd (no_end o (h (closes Round) ts a).0)
turn_at ds us text ts st numbers p o q now (u ∷ left) h a w =
    let b = begins u (each_tokens left ts) in
    let n = h b.head b.tail (rw b.is at a) in
    record { part = u; left = left; head = b.head; tail = b.tail; is = sym b.is; opened = n.0; ahead = n.1; whole = w }

pub turn : {ds : Known} {us : List Term} {text : List ℕ} {ts : List Tok} {front : List ℕ} {st : State} {p : ℕ} {now : State} {parts : List ℕ} (k : Rest ds us text ts front st p now parts)
    (text' : List ℕ) (o : Opening) (q : ℕ) → text' ≡ text → ((y : Tok) (ys : List Tok) → Ahead text' p (y ∷ ys) → Opened (Some o) y × Ahead text' q ys) → Turn ds us text ts st k.numbers o q now
turn {ds} {us} {text} {ts} {front} {st} {p} {now} {parts} k text' o q e h =
    turn_at ds us text ts st k.numbers p o q now k.left (moved text text' p q (Opened (Some o)) e h) k.ahead k.rest

-- a refused part ends it
pub refused : {ds : Known} {us : List Term} {text : List ℕ} {ts : List Tok} {st : State} {numbers : List ℕ} {o : Opening} {q : ℕ} {now : State} (v : Turn ds us text ts st numbers o q now)
    (e : Refusal) (st' : State) → Made ds v.part now (Err e) st' → EachMade ds us st (Err e) st'
refused v e st' m = v.whole (Err e) st' (ended e m refl)

-- the part stands behind the others
pub pushed : (r : Result ℕ Full) (old new : List ℕ) (n : ℕ) → OnOk r (new ≡ old ++ n ∷ []) → OnErr r (length old ≡ 32768) → length old < 32768 → new ≡ old ++ n ∷ []
pushed (Ok at) old new n h k l = h
pushed (Err e) old new n h k l = absurd (omega (arith, k, l))

-- there is room for one more
pub room : (text text' old parts : List ℕ) (p q : ℕ) → Roomy text old p → text' ≡ text → parts ≡ old → p < q → q ≤ length text' → length parts < 32768
room text text' old parts p q m e f h k = omega (arith, m.0, m.1, ap length e, ap length f)

pub next_part : {ds : Known} {us : List Term} {text : List ℕ} {ts : List Tok} {st : State} {numbers : List ℕ} {o : Opening} {q : ℕ} {now : State} (v : Turn ds us text ts st numbers o q now)
    (front parts parts' : List ℕ) (n low p : ℕ) (st' : State) → Made ds v.part now (Ok n) st' → Ahead text p (each_tokens v.left ts) → parts ≡ front ++ numbers → parts' ≡ parts ++ n ∷ []
    → Roomy text parts low → low < p → Rest ds us text ts front st p st' parts'
next_part {ds} {us} {text} {ts} {st} {numbers} {o} {q} {now} v front parts parts' n low p st' m a s e r lt = record {
  left = v.left;
  numbers = numbers ++ n ∷ [];
  ahead = a;
  stand = e ∙ ap (λ z. z ++ n ∷ []) s ∙ append_assoc front numbers (n ∷ []);
  roomy = (r.0, rw (e, length-append) (omega (arith, r.1)));
  rest = λ r last k. let w = v.whole (behind (n ∷ []) r) last (one_each ds v.part v.left now n st' r last m k) in rw behind_one at w;
}

-- the bracket that ends the tuple was read
pub record Ended (ds : Known) (us : List Term) (text : List ℕ) (ts : List Tok) (front : List ℕ) (st : State) (q : ℕ) (now : State) (parts : List ℕ) : Type 0 where
  pub numbers : List ℕ
  pub made : EachMade ds us st (Ok numbers) now
  pub stand : parts ≡ front ++ numbers
  pub ahead : Ahead text q ts

end_at : (ds : Known) (us : List Term) (text : List ℕ) (ts : List Tok) (front : List ℕ) (st : State) (numbers : List ℕ) (p q : ℕ) (now : State) (parts : List ℕ) (left : List Term)
    → ((y : Tok) (ys : List Tok) → Ahead text p (y ∷ ys) → (IsFirst y → ⊥) × Ahead text q ys) → Ahead text p (each_tokens left ts) → parts ≡ front ++ numbers
    → ((r : Result (List ℕ) Refusal) (st' : State) → EachMade ds left now r st' → EachMade ds us st (behind numbers r) st') → Ended ds us text ts front st q now parts
end_at ds us text ts front st numbers p q now parts [] h a s w =
    let m = w (Ok []) now (refl, refl) in
    record { numbers = numbers; made = rw append-nil at m; stand = s; ahead = (h (closes Round) ts a).1 }
end_at ds us text ts front st numbers p q now parts (u ∷ left) h a s w =
    let b = begins u (each_tokens left ts) in
    absurd ((h b.head b.tail (rw b.is at a)).0 b.starts)

pub at_end : {ds : Known} {us : List Term} {text : List ℕ} {ts : List Tok} {front : List ℕ} {st : State} {p : ℕ} {now : State} {parts : List ℕ} → Rest ds us text ts front st p now parts
    → (text' : List ℕ) (q : ℕ) → text' ≡ text → ((y : Tok) (ys : List Tok) → Ahead text' p (y ∷ ys) → (IsFirst y → ⊥) × Ahead text' q ys) → Ended ds us text ts front st q now parts
at_end {ds} {us} {text} {ts} {front} {st} {p} {now} {parts} k text' q e h =
    end_at ds us text ts front st k.numbers p q now parts k.left (moved text text' p q (λ y. IsFirst y → ⊥) e h) k.ahead k.stand k.rest

-- the numbers of a tuple's parts, and how their pairs complete it
pub record Paired (ds : Known) (u : Term) (us : List Term) (st : State) (ns : List ℕ) (mid : State) : Type 0 where
  pub first : ℕ
  pub others : List ℕ
  pub is : ns ≡ first ∷ others
  pub whole : (r : Result ℕ Refusal) (st' : State) → Pairs first others mid r st' → TupleMade ds u us st r st'

pub paired : (ds : Known) (u : Term) (us : List Term) (st : State) (ns : List ℕ) (mid : State) → EachMade ds (u ∷ us) st (Ok ns) mid → Paired ds u us st ns mid
paired ds u us st ns mid (on a next m (on bs last e k)) = record {
  first = a;
  others = bs;
  is = let i = k.0 in cc;
  whole = λ r st' p. on a next m (on bs last e (rw k.1 at p));
}
paired ds u us st ns mid (on a next m (ended f e k)) = let y : ⊥ = cc in absurd y
paired ds u us st ns mid (ended f m k) = let y : ⊥ = cc in absurd y

pub unpaired : (ds : Known) (u : Term) (us : List Term) (st : State) (e : Refusal) (st' : State) → EachMade ds (u ∷ us) st (Err e) st' → TupleMade ds u us st (Err e) st'
unpaired ds u us st e st' (on a next m (on bs last n k)) = let i = k.0 in let y : ⊥ = cc in absurd y
unpaired ds u us st e st' (on a next m (ended f n k)) = on a next m (ended f n (let y : e ≡ f = cc in ap Err y))
unpaired ds u us st e st' (ended f m k) = ended f m (let y : e ≡ f = cc in ap Err y)
