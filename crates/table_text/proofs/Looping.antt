-- The lines of a text, one after another.
use Rattle.std.proofs.Common.{◌≡◌, ℕ, ◌+◌, ◌<◌, ◌≤◌, List, [], ◌∷◌, ◌++◌, length, Ok, Err, Result, refl, ap, subst, inl, inr, arith}
use Rattle.rules.specs.State.{State, BUILD, KNOW, STEP, blank as blank_state}
use Rattle.syntax.specs.Grammar.{Tok, name, keyword, end, Key, named, entry, mate, Term, key, tuple, sealed, digest, Parts, final, more, Line, blank, declares, owns, sends, term_tokens, name_tokens}
use Rattle.syntax.specs.declared.sign.Keyword.TheVariants as words
use Rattle.scan.specs.Tokens.{Lexeme, word, bracket, tick as a_tick, line_end, stray as a_stray, Stands}
use Rattle.syntax.specs.Check.{Come}
use Rattle.protocol.specs.declared.refusal.Refusal.{Refusal}
use Rattle.terms.specs.declared.node.Kind.{Kind}
use Rattle.table_text.specs.Calls.{Known, Is, Then, on, ended, Builds, Knows, Steps, agent_in, Pairs, KeyMade, Made, AllMade, AllNamed, LineMade}
use Rattle.table_text.specs.declared.fault.TextFault.{TextFault}
use Rattle.table_text.specs.declared.fault.TextFault.TheVariants as texts
use Rattle.table_text.specs.declared.fault.TextLineFault.{TextLineFault}
use Rattle.table_text.specs.declared.fault.TextLineFault.TheVariants as lines
use Rattle.table_text.specs.Lines.{Declarable, placed_at, ReadsLine, ReadsNext}
use Rattle.table_text.specs.Tables.{IsLineAt, Granted, Begun, Reads, whole, wrong_token, refused_call}
use Rattle.table_text.proofs.Naming.{named_grows, terms_stay}

-- lines up to the place p were granted
pub record Sofar (text : List ℕ) (p : ℕ) (ds : Known) (st : State) : Type 0 where
  pub lines : List Line
  pub begun : Begun text lines p ds st
  pub fewer : Declarable ds st

pub none_yet : (text : List ℕ) → Sofar text 0 [] blank_state
none_yet text = record { lines = []; begun = (refl, refl, refl); fewer = omega arith }

-- reading goes on

stands_on : (text : List ℕ) (x : Lexeme) (a q : ℕ) → Stands text x a q → a ≤ q
stands_on text (word w) a q h = let s = h.some in omega arith
stands_on text (bracket b) a q h = let s = h.next in omega arith
stands_on text a_tick a q h = let s = h.next in omega arith
stands_on text line_end a q (inl h) = let s = h.next in omega arith
stands_on text line_end a q (inr h) = let s = h.1 in omega arith
stands_on text a_stray a q h = let s = h.next in omega arith

-- past a place within the text, unless the line ends with the text
stands_past : (text : List ℕ) (p : ℕ) (x : Lexeme) (a q : ℕ) → p ≤ a → p < length text → Stands text x a q → p < q
stands_past text p (word w) a q l s h = let k = h.some in omega arith
stands_past text p (bracket b) a q l s h = let k = h.next in omega arith
stands_past text p a_tick a q l s h = let k = h.next in omega arith
stands_past text p line_end a q l s (inl h) = let k = h.next in omega arith
stands_past text p line_end a q l s (inr h) = let k = h.0 in let j = h.1 in omega arith
stands_past text p a_stray a q l s h = let k = h.next in omega arith

come_on : (text : List ℕ) (p : ℕ) (ts : List Tok) (q : ℕ) → Come text p ts q → p ≤ q
come_on text p [] q h = omega arith
come_on text p (t ∷ ts) q (a, m, h, k) =
    let s = h.next.skips.low in
    let n = stands_on text h.lexeme a m h.next.stands in
    let j = come_on text m ts q k in
    omega arith

come_past : (text : List ℕ) (p : ℕ) (t : Tok) (ts : List Tok) (q : ℕ) → p < length text → Come text p (t ∷ ts) q → p < q
come_past text p t ts q l (a, m, h, k) =
    let n = stands_past text p h.lexeme a m h.next.skips.low l h.next.stands in
    let j = come_on text m ts q k in
    omega arith

pub line_past : (ds : Known) (text : List ℕ) (p : ℕ) (l : Line) (q : ℕ) → p < length text → IsLineAt ds text p l q → p < q
line_past ds text p blank q h i = come_past text p end [] q h i.come
line_past ds text p (declares k n ns) q h i = come_past text p (keyword (words.Kind k)) (name n ∷ name_tokens ns (end ∷ [])) q h i.come
line_past ds text p (owns a t) q h i = come_past text p (keyword words.Own) (name a ∷ term_tokens t (end ∷ [])) q h i.come
line_past ds text p (sends a b t) q h i = come_past text p (keyword words.Line) (name a ∷ name b ∷ term_tokens t (end ∷ [])) q h i.come

-- no call takes a term away, so there is always room for the names

abbrev Stays : {A : Type 0} → (State → Result A Refusal → State → Type 0) → Type 0
Stays {A} F = (st : State) (r : Result A Refusal) (st' : State) → F st r st' → length st.terms ≤ length st'.terms

then_stays : {A B : Type 0} (F : State → Result A Refusal → State → Type 0) (G : A → State → Result B Refusal → State → Type 0) → Stays F → ((a : A) → Stays (G a)) → Stays (Then F G)
then_stays F G f g st r st' (on a mid h k) = let x = f st (Ok a) mid h in let y = g a mid r st' k in omega arith
then_stays F G f g st r st' (ended e h q) = f st (Err e) st' h

is_stays : {A : Type 0} (a : A) → Stays (Is a)
is_stays a st r st' h = let e = ap (λ z. length z.terms) h.1 in omega (arith, e)

builds_stays : (f a b : ℕ) → Stays (Builds f a b)
builds_stays f a b st r st' h = let e = ap (λ z. length z.terms) h.after in let s = terms_stay st (BUILD f a b) in omega (arith, e, s)

knows_stays : (p n : ℕ) → Stays (Knows p n)
knows_stays p n st r st' h = let e = ap (λ z. length z.terms) h.after in let s = terms_stay st (KNOW p n) in omega (arith, e, s)

steps_stay : (p q n : ℕ) → Stays (Steps p q n)
steps_stay p q n st r st' h = let e = ap (λ z. length z.terms) h.after in let s = terms_stay st (STEP p q n) in omega (arith, e, s)

pairs_stay : (a : ℕ) (bs : List ℕ) → Stays (Pairs a bs)
pairs_stay a [] = is_stays a
pairs_stay a (b ∷ bs) = then_stays (Pairs b bs) _ (pairs_stay b bs) (λ n. builds_stays 0 a n)

module _ (ds : Known) where
  key_stays : (k : Key) → Stays (KeyMade ds k)
  key_stays (named n) = is_stays _
  key_stays (entry t a) = builds_stays _ _ _
  key_stays (mate k) = then_stays (KeyMade ds k) _ (key_stays k) (λ n. builds_stays _ _ _)

  mutual
    made_stays : (t : Term) → Stays (Made ds t)
    made_stays (key k) = key_stays k
    made_stays (tuple t ps) = then_stays (Made ds t) _ (made_stays t) (λ a. then_stays (AllMade ds ps) _ (all_stay ps) (λ bs. pairs_stay a bs))
    made_stays (sealed t k) = then_stays (Made ds t) _ (made_stays t) (λ a. then_stays (KeyMade ds k) _ (key_stays k) (λ b. builds_stays _ _ _))
    made_stays (digest f t) = then_stays (Made ds t) _ (made_stays t) (λ a. builds_stays _ _ _)

    all_stay : (ps : Parts) → Stays (AllMade ds ps)
    all_stay (final t) = then_stays (Made ds t) _ (made_stays t) (λ n. is_stays _)
    all_stay (more t ps) = then_stays (Made ds t) _ (made_stays t) (λ n. then_stays (AllMade ds ps) _ (all_stay ps) (λ ns. is_stays _))

named_fewer : (k : Kind) (ws : List (List ℕ)) (ds : Known) (st : State) (ds' : Known) (st' : State) → Declarable ds st → AllNamed k ws ds st (Ok tt) ds' st' → Declarable ds' st'
named_fewer k [] ds st ds' st' d (e, f, g) = let a = ap length f in let b = ap (λ z. length z.terms) g in omega (arith, a, b, d)
named_fewer k (w ∷ ws) ds st ds' st' d (inl (n, mid, h, m)) =
    let g = named_grows k st n mid h in
    let a = length_one ds (w, record { kind = k; term = n }) in
    named_fewer k ws _ mid ds' st' (omega (arith, a, g.0, d)) m
  where
    length_one : {A : Type 0} (xs : List A) (x : A) → length (xs ++ x ∷ []) ≡ length xs + 1
    length_one [] x = refl
    length_one (y ∷ xs) x = let h = length_one xs x in omega (arith, h)
named_fewer k (w ∷ ws) ds st ds' st' d (inr (e, h, q, f)) = cc

line_fewer : (l : Line) (ds : Known) (st : State) (ds' : Known) (st' : State) → Declarable ds st → LineMade l ds st (Ok tt) ds' st' → Declarable ds' st'
line_fewer blank ds st ds' st' d (e, f, g) = let a = ap length f in let b = ap (λ z. length z.terms) g in omega (arith, a, b, d)
line_fewer (declares k n ns) ds st ds' st' d m = named_fewer k (n ∷ ns) ds st ds' st' d m
line_fewer (owns p t) ds st ds' st' d (m, f) =
    let s = then_stays (Made ds t) (λ n. Knows (agent_in ds p) n) (made_stays ds t) (λ n. knows_stays (agent_in ds p) n) st (Ok tt) st' m in
    let a = ap length f in
    omega (arith, a, s, d)
line_fewer (sends p q t) ds st ds' st' d (m, f) =
    let s = then_stays (Made ds t) (λ n. Then (Steps (agent_in ds p) (agent_in ds q) n) (λ step. Is tt)) (made_stays ds t)
    (λ n. then_stays (Steps (agent_in ds p) (agent_in ds q) n) (λ step. Is tt) (steps_stay (agent_in ds p) (agent_in ds q) n) (λ step. is_stays tt)) st (Ok tt) st' m in
    let a = ap length f in
    omega (arith, a, s, d)

-- one line more

granted_more : (text : List ℕ) (ls : List Line) (p : ℕ) (ds : Known) (st : State) (q : ℕ) (es : Known) (mid : State) (l : Line) (n : ℕ) (ds' : Known) (st' : State)
    → Granted text ls p ds st q es mid → q < length text → IsLineAt es text q l n → LineMade l es mid (Ok tt) ds' st' → Granted text (ls ++ l ∷ []) p ds st n ds' st'
granted_more text [] p ds st q es mid l n ds' st' (e, f, g) lt is made =
    (n, ds', st', subst (λ z. z < length text) e lt, subst (λ z. IsLineAt ds text z l n) e (subst (λ z. IsLineAt z text q l n) f is), subst (λ z. LineMade l ds z (Ok tt) ds' st') g (subst (λ z. LineMade l z mid (Ok tt) ds' st') f made), (refl, refl, refl))
granted_more text (k ∷ ls) p ds st q es mid l n ds' st' (m, fs, u, lt', is', made', rest) lt is made =
    (m, fs, u, lt', is', made', granted_more text ls m fs u q es mid l n ds' st' rest lt is made)

pub one_more : (text : List ℕ) (p : ℕ) (ds : Known) (st : State) (l : Line) (q : ℕ) (ds' : Known) (st' : State)
    → Sofar text p ds st → p < length text → IsLineAt ds text p l q → LineMade l ds st (Ok tt) ds' st' → Sofar text q ds' st'
one_more text p ds st l q ds' st' so lt is made = record {
  lines = so.lines ++ l ∷ [];
  begun = granted_more text so.lines 0 [] blank_state p ds st l q ds' st' so.begun lt is made;
  fewer = line_fewer l ds st ds' st' so.fewer made;
}

-- a line is granted, or the text is refused at it

module _ (text : List ℕ) (p : ℕ) (ds : Known) (st : State) (short : length text ≤ 32768) (so : Sofar text p ds st) (within : p < length text) (q : ℕ) (es : Known) (mid : State) where
  pub line_granted : ReadsNext ds text p st (Ok tt) q es mid → Sofar text q es mid × (p < q)
  line_granted n = go n.answer n.placed n.reads
    where
      go : (r : Result (Unit {0}) TextLineFault) → Ok tt ≡ placed_at r p → ReadsLine ds text p st r q es mid → Sofar text q es mid × (p < q)
      go (Ok x) e l = (one_more text p ds st l.line q es mid so within l.is l.made, line_past ds text p l.line q within l.is)
      go (Err f) e l = cc

  pub line_refused : (f : TextFault) → ReadsNext ds text p st (Err f) q es mid → Reads text (Err f) es mid
  line_refused f n = go n.answer n.placed n.reads
    where
      go : (r : Result (Unit {0}) TextLineFault) → Err f ≡ placed_at r p → ReadsLine ds text p st r q es mid → Reads text (Err f) es mid
      go (Ok x) e l = cc
      go (Err (lines.Token g)) e (h, i, j) =
          let k : f ≡ texts.Token g = cc in
          rw (k, i, j) (wrong_token so.lines p ds st g q short so.begun within h)
      go (Err (lines.Protocol g)) e l =
          let k : f ≡ texts.Protocol g p = cc in
          rw k (refused_call so.lines p ds es st mid l.line q g short so.begun within l.is l.made)

pub all_granted : (text : List ℕ) (p : ℕ) (ds : Known) (st : State) → length text ≤ 32768 → Sofar text p ds st → p ≡ length text → Reads text (Ok tt) ds st
all_granted text p ds st short so e = whole so.lines ds st short (subst (λ z. Begun text so.lines z ds st) e so.begun)
