-- There is one answer for each text.
use Rattle.std.proofs.Common.{◌≡◌, ℕ, ◌<◌, ◌≤◌, List, [], ◌∷◌, ◌++◌, length, Ok, Err, Result, sym, refl, ap, ◌∙◌, subst, inl, inr, arith}
use Rattle.terms.specs.declared.node.Kind.{Kind}
use Rattle.rules.specs.State.{State, Call, blank as blank_state}
use Rattle.syntax.specs.Grammar.{Key, named, entry, mate, Term, key, tuple, sealed, digest, Parts, final, more, Line, blank, declares, owns, sends, line_tokens}
use Rattle.syntax.proofs.Tied.{line_over}
use Rattle.syntax.proofs.Determined.{Order, same, first_shorter, second_shorter, order, on_in_line}
use Rattle.syntax.proofs.Unambiguous.{lines_once}
use Rattle.line_check.specs.declared.fault.LineError.{LineError}
use Rattle.line_check.specs.Check.{Grants, Refuses}
use Rattle.line_check.proofs.Determined.{checks_once}
use Rattle.protocol.specs.declared.refusal.Refusal.{Refusal}
use Rattle.protocol.specs.Outcome.{Performed, number, done}
use Rattle.table_text.specs.declared.fault.TextFault.{TextFault}
use Rattle.table_text.specs.declared.fault.TextFault.TheVariants as texts
use Rattle.table_text.specs.Calls.{Known, Is, Then, on, ended, Steps, agent_in, Pairs, KeyMade, Made, AllMade, AllNamed, Owns, Sends, LineMade}
use Rattle.table_text.specs.Tables.{IsLineAt, Granted, Begun, Reads, whole, too_long, wrong_token, refused_call}
use Rattle.table_text.proofs.Looping.{line_past}

-- what is done in a state has one answer, and leaves one state
abbrev pub Once : {A : Type 0} → (State → Result A Refusal → State → Type 0) → Type 0
Once {A} F = (st : State) (r s : Result A Refusal) (u v : State) → F st r u → F st s v → (r ≡ s) × (u ≡ v)

pub number_once : (r s : Result ℕ Refusal) → number r ≡ number s → r ≡ s
number_once (Ok n) (Ok m) e = cc
number_once (Ok n) (Err x) e = cc
number_once (Err x) (Ok m) e = cc
number_once (Err x) (Err y) e = cc

pub done_once : (r s : Result (Unit {0}) Refusal) → done r ≡ done s → r ≡ s
done_once (Ok n) (Ok m) e = refl
done_once (Ok n) (Err x) e = cc
done_once (Err x) (Ok m) e = cc
done_once (Err x) (Err y) e = cc

is_once : {A : Type 0} (a : A) → Once (Is a)
is_once a st r s u v h k = (h.0 ∙ sym k.0, h.1 ∙ sym k.1)

number_called : (c : Call) → Once (λ st r u. Performed st c (number r) u)
number_called c st r s u v h k = (number_once r s (h.answer ∙ sym k.answer), h.after ∙ sym k.after)

done_called : (c : Call) → Once (λ st r u. Performed st c (done r) u)
done_called c st r s u v h k = (done_once r s (h.answer ∙ sym k.answer), h.after ∙ sym k.after)

then_once : {A B : Type 0} (F : State → Result A Refusal → State → Type 0) (G : A → State → Result B Refusal → State → Type 0) → Once F → ((a : A) → Once (G a)) → Once (Then F G)
then_once F G f g st r s u v (on a mid h i) (on b last j k) =
    let one = f st (Ok a) (Ok b) mid last h j in
    let e = one.0 in
    let same_answer : b ≡ a = cc in
    g a mid r s u v i (subst (λ z. G z mid s v) same_answer (subst (λ z. G b z s v) (sym one.1) k))
then_once F G f g st r s u v (on a mid h i) (ended x j q) = let e = (f st (Ok a) (Err x) mid v h j).0 in cc
then_once F G f g st r s u v (ended x h q) (on b last j k) = let e = (f st (Err x) (Ok b) u last h j).0 in cc
then_once F G f g st r s u v (ended x h q) (ended y j i) =
    let one = f st (Err x) (Err y) u v h j in
    let e = one.0 in
    let same_answer : Err x ≡ Err y = cc in
    (q ∙ same_answer ∙ sym i, one.1)

-- so have the calls of terms and of lines

pairs_once : (a : ℕ) (bs : List ℕ) → Once (Pairs a bs)
pairs_once a [] = is_once a
pairs_once a (b ∷ bs) = then_once (Pairs b bs) _ (pairs_once b bs) (λ n. number_called _)

module _ (ds : Known) where
  key_once : (k : Key) → Once (KeyMade ds k)
  key_once (named n) = is_once _
  key_once (entry t a) = number_called _
  key_once (mate k) = then_once (KeyMade ds k) _ (key_once k) (λ n. number_called _)

  mutual
    pub made_once : (t : Term) → Once (Made ds t)
    made_once (key k) = key_once k
    made_once (tuple t ps) = then_once (Made ds t) _ (made_once t) (λ a. then_once (AllMade ds ps) _ (all_once ps) (λ bs. pairs_once a bs))
    made_once (sealed t k) = then_once (Made ds t) _ (made_once t) (λ a. then_once (KeyMade ds k) _ (key_once k) (λ b. number_called _))
    made_once (digest f t) = then_once (Made ds t) _ (made_once t) (λ a. number_called _)

    all_once : (ps : Parts) → Once (AllMade ds ps)
    all_once (final t) = then_once (Made ds t) _ (made_once t) (λ n. is_once _)
    all_once (more t ps) = then_once (Made ds t) _ (made_once t) (λ n. then_once (AllMade ds ps) _ (all_once ps) (λ ns. is_once _))

owns_once : (ds : Known) (p : List ℕ) (t : Term) → Once (Owns ds p t)
owns_once ds p t = then_once (Made ds t) _ (made_once ds t) (λ n. done_called _)

sends_once : (ds : Known) (p q : List ℕ) (t : Term) → Once (Sends ds p q t)
sends_once ds p q t = then_once (Made ds t) _ (made_once ds t) (λ n. then_once (Steps (agent_in ds p) (agent_in ds q) n) _ (number_called _) (λ l. is_once tt))

-- one answer, one list of names and one state
abbrev pub Three : Result (Unit {0}) Refusal → Result (Unit {0}) Refusal → Known → Known → State → State → Type 0
Three r s es fs u v = (r ≡ s) × (es ≡ fs) × (u ≡ v)

named_once : (k : Kind) (ws : List (List ℕ)) (ds : Known) (st : State) (r s : Result (Unit {0}) Refusal) (es fs : Known) (u v : State)
    → AllNamed k ws ds st r es u → AllNamed k ws ds st s fs v → Three r s es fs u v
named_once k [] ds st r s es fs u v h i = (h.0 ∙ sym i.0, h.1 ∙ sym i.1, h.2 ∙ sym i.2)
named_once k (w ∷ ws) ds st r s es fs u v (inl (n, mid, h, rest)) (inl (m, last, i, other)) =
    let one = number_called _ st (Ok n) (Ok m) mid last h i in
    let e = one.0 in
    let f : m ≡ n = cc in
    named_once k ws _ mid r s es fs u v rest
    (subst (λ z. AllNamed k ws (ds ++ (w, record { kind = k; term = z }) ∷ []) mid s fs v) f (subst (λ z. AllNamed k ws (ds ++ (w, record { kind = k; term = m }) ∷ []) z s fs v) (sym one.1) other))
named_once k (w ∷ ws) ds st r s es fs u v (inl (n, mid, h, rest)) (inr (y, i, q, f)) = let e = (number_called _ st (Ok n) (Err y) mid v h i).0 in cc
named_once k (w ∷ ws) ds st r s es fs u v (inr (x, h, p, e)) (inl (m, last, i, other)) = let g = (number_called _ st (Err x) (Ok m) u last h i).0 in cc
named_once k (w ∷ ws) ds st r s es fs u v (inr (x, h, p, e)) (inr (y, i, q, f)) =
    let one = number_called _ st (Err x) (Err y) u v h i in
    let g = one.0 in
    let answer : Err x ≡ Err y = cc in
    (p ∙ answer ∙ sym q, e ∙ sym f, one.1)

pub line_once : (l : Line) (ds : Known) (st : State) (r s : Result (Unit {0}) Refusal) (es fs : Known) (u v : State) → LineMade l ds st r es u → LineMade l ds st s fs v → Three r s es fs u v
line_once blank ds st r s es fs u v h i = (h.0 ∙ sym i.0, h.1 ∙ sym i.1, h.2 ∙ sym i.2)
line_once (declares k n ns) ds st r s es fs u v h i = named_once k (n ∷ ns) ds st r s es fs u v h i
line_once (owns p t) ds st r s es fs u v h i = let one = owns_once ds p t st r s u v h.0 i.0 in (one.0, h.1 ∙ sym i.1, one.1)
line_once (sends p q t) ds st r s es fs u v h i = let one = sends_once ds p q t st r s u v h.0 i.0 in (one.0, h.1 ∙ sym i.1, one.1)

-- the lines of a text

module _ (ds : Known) (text : List ℕ) (p : ℕ) where
  pub is_once_line : (l m : Line) (q n : ℕ) → IsLineAt ds text p l q → IsLineAt ds text p m n → (l ≡ m) × (q ≡ n)
  is_once_line l m q n h k = go (order text p (line_tokens l) (line_tokens m) q n h.come k.come)
    where
      go : Order (line_tokens l) (line_tokens m) q n → (l ≡ m) × (q ≡ n)
      go (same e f) = (lines_once l m e, f)
      go (first_shorter t r e) = absurd (line_over (line_tokens l) (l, refl) (on_in_line (line_tokens l) (line_tokens m) t r e (m, refl)))
      go (second_shorter t r e) = absurd (line_over (line_tokens m) (m, refl) (on_in_line (line_tokens m) (line_tokens l) t r e (l, refl)))

  granted_at : (l : Line) (q : ℕ) → IsLineAt ds text p l q → Grants ds text p q
  granted_at l q h = record { tokens = line_tokens l; come = h.come; line = (l, refl); shallow = h.shallow; faultless = h.faultless }

  pub no_refused : (l : Line) (q : ℕ) (e : LineError) (n : ℕ) → IsLineAt ds text p l q → Refuses ds text p e n → ⊥
  no_refused l q e n h k = let c = (checks_once ds text p (Ok tt) (Err e) q n (granted_at l q h) k).0 in cc

-- granted lines go on
granted_on : (text : List ℕ) (ls : List Line) (p : ℕ) (ds : Known) (st : State) (q : ℕ) (es : Known) (st' : State) → Granted text ls p ds st q es st' → p ≤ q
granted_on text [] p ds st q es st' (e, f, g) = omega (arith, e)
granted_on text (l ∷ ls) p ds st q es st' (m, fs, mid, lt, is, made, rest) =
    let a = line_past ds text p l m lt is in
    let b = granted_on text ls m fs mid q es st' rest in
    omega (arith, a, b)

-- a line is granted at the place
abbrev pub Next : List ℕ → ℕ → Known → State → Type 0
Next text p ds st = (l : Line) × (q : ℕ) × (es : Known) × (mid : State) × (p < length text) × IsLineAt ds text p l q × LineMade l ds st (Ok tt) es mid

-- of two lists of granted lines from one place one goes on from the other
pub data Beside (text : List ℕ) (q n : ℕ) (es fs : Known) (u v : State) : Type 0 where
  level : q ≡ n → es ≡ fs → u ≡ v → Beside text q n es fs u v
  first_stops : Next text q es u → q < n → Beside text q n es fs u v
  second_stops : Next text n fs v → n < q → Beside text q n es fs u v

pub beside : (text : List ℕ) (ls ms : List Line) (p : ℕ) (ds : Known) (st : State) (q n : ℕ) (es fs : Known) (u v : State)
    → Granted text ls p ds st q es u → Granted text ms p ds st n fs v → Beside text q n es fs u v
beside text [] [] p ds st q n es fs u v h i = level (h.0 ∙ sym i.0) (h.1 ∙ sym i.1) (h.2 ∙ sym i.2)
beside text [] (m ∷ ms) p ds st q n es fs u v (e, f, g) (x, gs, w, lt, is, made, rest) =
    let a = line_past ds text p m x lt is in
    let b = granted_on text ms x gs w n fs v rest in
    rw (e, f, g) (first_stops (m, x, gs, w, lt, is, made) (omega (arith, a, b)))
beside text (l ∷ ls) [] p ds st q n es fs u v (x, gs, w, lt, is, made, rest) (e, f, g) =
    let a = line_past ds text p l x lt is in
    let b = granted_on text ls x gs w q es u rest in
    rw (e, f, g) (second_stops (l, x, gs, w, lt, is, made) (omega (arith, a, b)))
beside text (l ∷ ls) (m ∷ ms) p ds st q n es fs u v (x, gs, w, lt, is, made, rest) (y, hs, z, lt', is', made', rest') =
    let one = is_once_line ds text p l m x y is is' in
    let three = line_once l ds st (Ok tt) (Ok tt) gs hs w z made (subst (λ k. LineMade k ds st (Ok tt) hs z) (sym one.0) made') in
    beside text ls ms x gs w q n es fs u v rest
    (subst (λ a. Granted text ms a gs w n fs v) (sym one.1) (subst (λ a. Granted text ms y a w n fs v) (sym three.1) (subst (λ a. Granted text ms y hs a n fs v) (sym three.2) rest')))

-- no line is granted there
abbrev pub Stops : List ℕ → ℕ → Known → State → Type 0
Stops text p ds st = Next text p ds st → ⊥

pub stops_over : (text : List ℕ) (ds : Known) (st : State) → Stops text (length text) ds st
stops_over text ds st (l, q, es, mid, lt, is, made) = omega arith

pub stops_wrong : (text : List ℕ) (p : ℕ) (ds : Known) (st : State) (e : LineError) (q : ℕ) → Refuses ds text p e q → Stops text p ds st
stops_wrong text p ds st e q h (l, n, es, mid, lt, is, made) = no_refused ds text p l n e q is h

pub stops_refused : (text : List ℕ) (p : ℕ) (ds es : Known) (st st' : State) (l : Line) (q : ℕ) (f : Refusal) → IsLineAt ds text p l q → LineMade l ds st (Err f) es st' → Stops text p ds st
stops_refused text p ds es st st' l q f is made (m, n, fs, mid, lt, other, granted) =
    let one = is_once_line ds text p l m q n is other in
    let e = (line_once l ds st (Err f) (Ok tt) es fs st' mid made (subst (λ z. LineMade z ds st (Ok tt) fs mid) (sym one.0) granted)).0 in
    cc

-- so there is one place where the granted lines end
one_end : (text : List ℕ) (ls ms : List Line) (p q : ℕ) (ds es : Known) (st mid : State) → Begun text ls p ds st → Begun text ms q es mid → Stops text p ds st → Stops text q es mid
    → (p ≡ q) × (ds ≡ es) × (st ≡ mid)
one_end text ls ms p q ds es st mid h k s t = go (beside text ls ms 0 [] blank_state p q ds es st mid h k)
  where
    go : Beside text p q ds es st mid → (p ≡ q) × (ds ≡ es) × (st ≡ mid)
    go (level e f g) = (e, f, g)
    go (first_stops n lt) = absurd (s n)
    go (second_stops n lt) = absurd (t n)

abbrev Same : Result (Unit {0}) TextFault → Result (Unit {0}) TextFault → Known → Known → State → State → Type 0
Same r s ds es st st' = (r ≡ s) × (ds ≡ es) × (st ≡ st')

same_token : (text : List ℕ) (p p' : ℕ) (ds es : Known) (e f : LineError) (q n : ℕ) → p ≡ p' → ds ≡ es → Refuses ds text p e q → Refuses es text p' f n → e ≡ f
same_token text p p' ds es e f q n i j h k =
    let c = (checks_once ds text p (Err e) (Err f) q n h (subst (λ z. Refuses z text p f n) (sym j) (subst (λ z. Refuses es text z f n) (sym i) k))).0 in cc

same_refusal : (text : List ℕ) (p p' : ℕ) (ds es ds' es' : Known) (st mid st' mid' : State) (l m : Line) (q n : ℕ) (f g : Refusal) → p ≡ p' → ds ≡ es → st ≡ mid
    → IsLineAt ds text p l q → LineMade l ds st (Err f) ds' st' → IsLineAt es text p' m n → LineMade m es mid (Err g) es' mid' → Same (Err (texts.Protocol f p)) (Err (texts.Protocol g p')) ds' es' st' mid'
same_refusal text p p' ds es ds' es' st mid st' mid' l m q n f g i j k is made is' made' =
    let one = is_once_line ds text p l m q n is (subst (λ z. IsLineAt z text p m n) (sym j) (subst (λ z. IsLineAt es text z m n) (sym i) is')) in
    let three = line_once l ds st (Err f) (Err g) ds' es' st' mid' made
    (subst (λ z. LineMade z ds st (Err g) es' mid') (sym one.0) (subst (λ z. LineMade m z st (Err g) es' mid') (sym j) (subst (λ z. LineMade m es z (Err g) es' mid') (sym k) made'))) in
    let e = three.0 in
    (cc, three.1, three.2)

reads : {text : List ℕ} {r s : Result (Unit {0}) TextFault} {ds es : Known} {st st' : State} → Reads text r ds st → Reads text s es st' → Same r s ds es st st'
reads {text} (whole ls ds st a h) (whole ms es mid b k) =
    let e = one_end text ls ms (length text) (length text) ds es st mid h k (stops_over text ds st) (stops_over text es mid) in
    (refl, e.1, e.2)
reads {text} (whole ls ds st a h) (too_long b) = absurd (omega arith)
reads {text} (whole ls ds st a h) (wrong_token ms q es mid f n b k l w) =
    let e = one_end text ls ms (length text) q ds es st mid h k (stops_over text ds st) (stops_wrong text q es mid f n w) in
    let i = e.0 in
    absurd (omega arith)
reads {text} (whole ls ds st a h) (refused_call ms q es gs mid mid' m n g b k l is made) =
    let e = one_end text ls ms (length text) q ds es st mid h k (stops_over text ds st) (stops_refused text q es gs mid mid' m n g is made) in
    let i = e.0 in
    absurd (omega arith)
reads {text} (too_long a) (whole ms es mid b k) = absurd (omega arith)
reads {text} (too_long a) (too_long b) = (refl, refl, refl)
reads {text} (too_long a) (wrong_token ms q es mid f n b k l w) = absurd (omega arith)
reads {text} (too_long a) (refused_call ms q es gs mid mid' m n g b k l is made) = absurd (omega arith)
reads {text} (wrong_token ls p ds st x o a h i v) (whole ms es mid b k) =
    let e = one_end text ls ms p (length text) ds es st mid h k (stops_wrong text p ds st x o v) (stops_over text es mid) in
    let j = e.0 in
    absurd (omega arith)
reads {text} (wrong_token ls p ds st x o a h i v) (too_long b) = absurd (omega arith)
reads {text} (wrong_token ls p ds st x o a h i v) (wrong_token ms q es mid f n b k l w) =
    let e = one_end text ls ms p q ds es st mid h k (stops_wrong text p ds st x o v) (stops_wrong text q es mid f n w) in
    (ap (λ z. Err (texts.Token z)) (same_token text p q ds es x f o n e.0 e.1 v w), e.1, e.2)
reads {text} (wrong_token ls p ds st x o a h i v) (refused_call ms q es gs mid mid' m n g b k l is made) =
    let e = one_end text ls ms p q ds es st mid h k (stops_wrong text p ds st x o v) (stops_refused text q es gs mid mid' m n g is made) in
    absurd (no_refused es text q m n x o is (subst (λ z. Refuses z text q x o) e.1 (subst (λ z. Refuses ds text z x o) e.0 v)))
reads {text} (refused_call ls p ds fs st st' l' o f a h i at done) (whole ms es mid b k) =
    let e = one_end text ls ms p (length text) ds es st mid h k (stops_refused text p ds fs st st' l' o f at done) (stops_over text es mid) in
    let j = e.0 in
    absurd (omega arith)
reads {text} (refused_call ls p ds fs st st' l' o f a h i at done) (too_long b) = absurd (omega arith)
reads {text} (refused_call ls p ds fs st st' l' o f a h i at done) (wrong_token ms q es mid x n b k l w) =
    let e = one_end text ls ms p q ds es st mid h k (stops_refused text p ds fs st st' l' o f at done) (stops_wrong text q es mid x n w) in
    absurd (no_refused ds text p l' o x n at (subst (λ z. Refuses z text p x n) (sym e.1) (subst (λ z. Refuses es text z x n) (sym e.0) w)))
reads {text} (refused_call ls p ds fs st st' l' o f a h i at done) (refused_call ms q es gs mid mid' m n g b k l is made) =
    let e = one_end text ls ms p q ds es st mid h k (stops_refused text p ds fs st st' l' o f at done) (stops_refused text q es gs mid mid' m n g is made) in
    same_refusal text p q ds es fs gs st mid st' mid' l' m o n f g e.0 e.1 e.2 at done is made

pub reads_once : (text : List ℕ) (r s : Result (Unit {0}) TextFault) (ds es : Known) (st st' : State) → Reads text r ds st → Reads text s es st' → (r ≡ s) × (ds ≡ es) × (st ≡ st')
reads_once text r s ds es st st' h k = reads h k
