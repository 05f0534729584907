-- Declaring names one by one.
use Rattle.std.proofs.Common.{◌≡◌, ℕ, ◌+◌, ◌≤◌, ◌<◌, Bool, true, false, cond, ltb, List, [], ◌∷◌, ◌++◌, length, Some, None, Option, Ok, Err, Result, OnOk, OnErr, sym, refl, ap, subst, inl, inr, arith, length-append}
use Rattle.std.proofs.lemmas.Bool.{ltb-false}
use Rattle.std.specs.Borrow.{Bor}
use Rattle.bounded.specs.declared.list.Full.{Full as NoPlace}
use Rattle.deduction.specs.Term.{Term, Kind as TreeKind, party, number as a_number, shared, public, table, function}
use Rattle.terms.specs.declared.node.Kind.{Kind}
use Rattle.terms.specs.declared.node.Kind.TheVariants.{Party, Number, Shared, Public, Table, Function}
use Rattle.terms.specs.Node.{kind_number}
use Rattle.rules.specs.State.{State, Call, NAME, Outcome, nth, names, name_tests, new_terms, new_scripts, refuses, perform, outcome}
use Rattle.rules.specs.State as rules
use Rattle.rules.proofs.Keeps.{calls_only_add_lem}
use Rattle.rules.proofs.Nth.{nth_at, nth_below}
use Rattle.syntax.specs.declared.sign.Keyword.{Keyword}
use Rattle.syntax.specs.declared.sign.Keyword.TheVariants.{Own, Line}
use Rattle.syntax.specs.declared.sign.Keyword.TheVariants as words
use Rattle.syntax.specs.Grammar.{Tok, name, keyword, stray, end, name_tokens}
use Rattle.syntax.specs.Words.{of_word, may_be_name}
use Rattle.std.specs.Prelude.{codes}
use Rattle.std.specs.Str.{bytes_eq}
use Rattle.protocol.specs.declared.call.Reply.TheVariants.{Number as a_term}
use Rattle.names.specs.declared.names.Named.{Named}
use Rattle.protocol.specs.declared.refusal.Refusal.{Refusal}
use Rattle.protocol.specs.Outcome.{answer_of}
use Rattle.table_text.specs.Ahead.{Ahead}
use Rattle.table_text.specs.Calls.{Known, Names, NewName, AllNamed}
use Rattle.table_text.specs.Lines.{Declarable, IsWordOf}
use Rattle.table_text.proofs.Tokens.{word_of_name}

-- a word is no line end

with_keyword : (b : Bool) (k : Keyword) (t : Tok) → (t ≡ end → ⊥) → cond b (keyword k) t ≡ end → ⊥
with_keyword true k t h e = cc
with_keyword false k t h e = h e

with_name : (b : Bool) (w : List ℕ) → cond b (name w) stray ≡ end → ⊥
with_name true w e = cc
with_name false w e = cc

pub word_no_end : (w : List ℕ) → of_word w ≡ end → ⊥
word_no_end w =
    with_keyword (bytes_eq w (codes "party")) (words.Kind Party) _
    (with_keyword (bytes_eq w (codes "number")) (words.Kind Number) _
    (with_keyword (bytes_eq w (codes "shared")) (words.Kind Shared) _
    (with_keyword (bytes_eq w (codes "public")) (words.Kind Public) _
    (with_keyword (bytes_eq w (codes "table")) (words.Kind Table) _
    (with_keyword (bytes_eq w (codes "function")) (words.Kind Function) _
    (with_keyword (bytes_eq w (codes "own")) Own _
    (with_keyword (bytes_eq w (codes "line")) Line _
    (with_name (may_be_name w) w))))))))

-- a granted name is one term more at least, of 512 at most

longer_by : (k : TreeKind) (n : ℕ) → 1 ≤ length (new_terms k n)
longer_by party n = omega arith
longer_by a_number n = omega arith
longer_by shared n = omega arith
longer_by public n = omega arith
longer_by table n = omega arith
longer_by function n = omega arith

abbrev Grown : State → ℕ → State → Type 0
Grown st n st' = (length st.terms < length st'.terms) × (length st'.terms ≤ 512)

tested : (st : State) (c : ℕ) (k : TreeKind) (n : ℕ) (b d : Bool) → ltb 512 (length st.terms + length (new_terms k (length st.terms))) ≡ b
    → Ok (a_term n) ≡ answer_of (cond b (refuses st (NAME c) rules.NoRoom) (cond d (refuses st (NAME c) rules.EighthParty) (names st k))).told
    → Grown st n (cond b (refuses st (NAME c) rules.NoRoom) (cond d (refuses st (NAME c) rules.EighthParty) (names st k))).state
tested st c k n true d e h = cc
tested st c k n false true e h = cc
tested st c k n false false e h =
    let l = ltb-false 512 (length st.terms + length (new_terms k (length st.terms))) e in
    let m = longer_by k (length st.terms) in
    let a = length-append st.terms (new_terms k (length st.terms)) in
    (omega (arith, a), omega (arith, a))

pub named_grows : (k : Kind) (st : State) (n : ℕ) (st' : State) → Names k st (Ok n) st' → Grown st n st'
named_grows k st n st' h = subst (Grown st n) (sym h.after) (go k h.answer)
  where
    tests : (c : ℕ) (t : TreeKind) → Ok (a_term n) ≡ answer_of (name_tests st c t).told → Grown st n (name_tests st c t).state
    tests c t e =
        tested st c t n (ltb 512 (length st.terms + length (new_terms t (length st.terms)))) (ltb 8 (length st.scripts + length (new_scripts t (length st.terms)))) refl e

    go : (k : Kind) → Ok (a_term n) ≡ answer_of (perform st (NAME (kind_number k))).told → Grown st n (perform st (NAME (kind_number k))).state
    go Party e = tests 0 party e
    go Number e = tests 1 a_number e
    go Shared e = tests 2 shared e
    go Public e = tests 3 public e
    go Table e = tests 4 table e
    go Function e = tests 5 function e

-- no call takes a term away
pub terms_stay : (st : State) (c : Call) → length st.terms ≤ length (perform st c).state.terms
terms_stay st c = go st.terms (calls_only_add_lem st c).numbers
  where
    go : (ts : List Term) → ((n : ℕ) (t : Term) → nth ts n ≡ Some t → nth (perform st c).state.terms n ≡ Some t) → length ts ≤ length (perform st c).state.terms
    go [] h = omega arith
    go (t ∷ ts) h = let l = nth_below (perform st c).state.terms (length ts) _ (h (length ts) _ (nth_at (t ∷ ts) (length ts) t (omega arith))) in omega arith

-- after some of the names ws: the others come next at q, and whatever comes of them completes the whole
pub record Left (k : Kind) (ws : List (List ℕ)) (ds : Known) (st : State) (text : List ℕ) (q : ℕ) (es : Known) (mid : State) : Type 0 where
  pub left : List (List ℕ)
  pub ahead : Ahead text q (name_tokens left (end ∷ []))
  pub room : Declarable es mid
  pub rest : (r : Result (Unit {0}) Refusal) (ds' : Known) (st' : State) → AllNamed k left es mid r ds' st' → AllNamed k ws ds st r ds' st'

pub none_yet : (k : Kind) (ws : List (List ℕ)) (ds : Known) (st : State) (text : List ℕ) (q : ℕ) → Ahead text q (name_tokens ws (end ∷ [])) → Declarable ds st → Left k ws ds st text q ds st
none_yet k ws ds st text q h d = record { left = ws; ahead = h; room = d; rest = λ r ds' st' m. m }

module _ (k : Kind) (ws : List (List ℕ)) (ds : Known) (st : State) (text : List ℕ) (q : ℕ) (es : Known) (mid : State) where
  abbrev Rest : List (List ℕ) → Type 0
  Rest left = (r : Result (Unit {0}) Refusal) (ds' : Known) (st' : State) → AllNamed k left es mid r ds' st' → AllNamed k ws ds st r ds' st'

  -- what the next word is to the tokens that come next
  abbrev Found : Option (Bor (List ℕ)) → ℕ → Type 0
  Found w n = (t : Tok) (ts : List Tok) → Ahead text q (t ∷ ts) → IsWordOf t w × Ahead text n ts

  pub none_found : Left k ws ds st text q es mid → (n : ℕ) → Found None n → AllNamed k ws ds st (Ok tt) es mid
  none_found l n f = go l.left l.ahead l.rest
    where
      go : (left : List (List ℕ)) → Ahead text q (name_tokens left (end ∷ [])) → Rest left → AllNamed k ws ds st (Ok tt) es mid
      go [] a r = r (Ok tt) es mid (refl, refl, refl)
      go (w ∷ left) a r = absurd ((f (name w) _ a).0 w refl)

  module _ (l : Left k ws ds st text q es mid) (v : Bor (List ℕ)) (n : ℕ) (f : Found (Some v) n) where
    -- the word is the next name
    record Next : Type 0 where
      left : List (List ℕ)
      ahead : Ahead text n (name_tokens left (end ∷ []))
      rest : Rest (v.now ∷ left)

    next : Next
    next = go l.left l.ahead l.rest
      where
        go : (left : List (List ℕ)) → Ahead text q (name_tokens left (end ∷ [])) → Rest left → Next
        go [] a r = absurd (word_no_end v.now (sym (f end [] a).0))
        go (w ∷ left) a r =
            let g = f (name w) _ a in
            record { left = left; ahead = g.1; rest = subst (λ z. Rest (z ∷ left)) (word_of_name w v.now g.0) r }

    pub name_refused : (e : Refusal) (st' : State) → NewName k mid (Err e) st' → AllNamed k ws ds st (Err e) es st'
    name_refused e st' h = next.rest (Err e) es st' (inr (e, h, refl, refl))

    name_declared : (i : ℕ) (mid' : State) (es' : Known) (r : Result (Unit {0}) NoPlace) → Names k mid (Ok i) mid'
        → OnOk r (es' ≡ es ++ (v.now, record { kind = k; term = i }) ∷ []) → OnErr r (length es ≡ 512) → Left k ws ds st text n es' mid'
    name_declared i mid' es' (Ok x) h g o =
        let grown = named_grows k mid i mid' h in
        let room = l.room in
        record {
          left = next.left;
          ahead = next.ahead;
          room = let e = ap length g in let a = length-append es ((v.now, record { kind = k; term = i }) ∷ []) in omega (arith, e, a, grown.0, room);
          rest = λ r ds' st' m. next.rest r ds' st' (inl (i, mid', h, subst (λ z. AllNamed k next.left z mid' r ds' st') g m));
        }
    name_declared i mid' es' (Err x) h g o =
        let grown = named_grows k mid i mid' h in
        let room = l.room in
        absurd (omega (arith, grown.0, grown.1, room, o))

    pub name_granted : (d : Named) (mid' : State) (es' : Known) (r : Result (Unit {0}) NoPlace) → NewName k mid (Ok d) mid'
        → OnOk r (es' ≡ es ++ (v.now, d) ∷ []) → OnErr r (length es ≡ 512) → Left k ws ds st text n es' mid'
    name_granted d mid' es' r h g o = name_declared d.term mid' es' r h.1 (subst (λ z. OnOk r (es' ≡ es ++ (v.now, record { kind = z; term = d.term }) ∷ [])) h.0 g) o
