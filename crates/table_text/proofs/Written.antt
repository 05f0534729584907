-- What is made for a term is the term that is written.
use Rattle.std.proofs.Common.{◌≡◌, ℕ, Bool, true, false, cond, ltb, List, [], ◌∷◌, ◌++◌, length, Some, None, Option, Ok, Result, sym, refl, ap, ◌∙◌, subst, append_assoc, append-nil, arith}
use Rattle.scan.specs.declared.byte.Shape.TheVariants.{Square}
use Rattle.deduction.specs.Term.{Form, Term as Tree, name as a_name, built, mate_of, pair, sealed as seal, digest as hash, entry as cell}
use Rattle.deduction.specs.Decide.{is_key, parts_fit}
use Rattle.terms.specs.Tree.{kind_of}
use Rattle.names.specs.declared.names.Named.{Named}
use Rattle.names.specs.Names.{look_up}
use Rattle.rules.specs.State.{State, Outcome, Call, BUILD, Told, formed, mated, nth, with, place_of, placed, builds, refuses, perform}
use Rattle.rules.specs.State as rules
use Rattle.rules.proofs.Keeps.{calls_only_add_lem}
use Rattle.rules.proofs.Nth.{some_is, with_both, place_is, nth_right}
use Rattle.syntax.specs.declared.mode.NameUse.TheVariants.{Part}
use Rattle.syntax.specs.declared.sign.Keyword.TheVariants as words
use Rattle.syntax.specs.Uses.{use_after}
use Rattle.syntax.specs.Grammar.{Tok, name, keyword, closes, opens, end, Key, named, entry, mate, Term, key, tuple, sealed, digest, Parts, final, more, Line, blank, declares, owns, sends, key_tokens, term_tokens, part_tokens, line_tokens}
use Rattle.line_check.specs.Faults.{name_fault, fault_after, is_earlier, part_fault, Faultless}
use Rattle.protocol.specs.declared.call.Reply.TheVariants.{Number as a_term}
use Rattle.protocol.specs.declared.refusal.Refusal.{Refusal}
use Rattle.protocol.specs.Outcome.{answer_of}
use Rattle.protocol.proofs.Laws.{cond_both}
use Rattle.table_text.specs.Calls.{Known, on, ended, Builds, PAIR, SEALED, DIGEST, ENTRY, MATE, number_in, term_number, Pairs, KeyMade, Made, AllMade}
use Rattle.table_text.specs.Written.{declared_name, name_in, key_in, term_in, parts_in, Has, MadeTermsStand}
use Rattle.table_text.proofs.Along.{Nameless, made_keeps, all_keep, key_keeps, pairs_keep}
use Rattle.table_text.proofs.Standing.{begun_sound}

-- the names of a line's term are declared

module _ (ds : Known) where
  abbrev pub IsKnown : List ℕ → Type 0
  IsKnown w = (n : Named) × (look_up ds w ≡ Some n)

  abbrev pub KeyKnown : Key → Type 0
  KeyKnown (named n) = IsKnown n
  KeyKnown (entry t a) = IsKnown t × IsKnown a
  KeyKnown (mate k) = KeyKnown k

  abbrev mutual
    pub TermKnown : Term → Type 0
    TermKnown (key k) = KeyKnown k
    TermKnown (tuple t ps) = TermKnown t × PartsKnown ps
    TermKnown (sealed t k) = TermKnown t × KeyKnown k
    TermKnown (digest f t) = IsKnown f × TermKnown t

    pub PartsKnown : Parts → Type 0
    PartsKnown (final t) = TermKnown t
    PartsKnown (more t ps) = TermKnown t × PartsKnown ps

-- every name after these tokens is a part of a term
abbrev Later : List Tok → Type 0
Later before = (us : List Tok) → use_after (before ++ us) ≡ Part

later_on : (before : List Tok) (t : Tok) → Later before → Later (before ++ t ∷ [])
later_on before t h us = ap use_after (append_assoc before (t ∷ []) us) ∙ h (t ∷ us)

known_if : (o : Option Named) → part_fault o ≡ None → (n : Named) × (o ≡ Some n)
known_if None e = cc
known_if (Some n) e = (n, refl)

module _ (ds : Known) where
  word_known : (before : List Tok) (w : List ℕ) → Later before → fault_after ds before (name w) ≡ None → IsKnown ds w
  word_known before w h e =
      let u : use_after before ≡ Part = ap use_after (sym (append-nil before)) ∙ h [] in
      known_if (look_up ds w) (subst (λ z. name_fault z (look_up ds w) (is_earlier before w) ≡ None) u e)

  -- P holds, and nothing is wrong with the tokens r that follow
  record Passed (P : Type 0) (r : List Tok) : Type 0 where
    holds : P
    before : List Tok
    later : Later before
    rest : Faultless ds before r

  past_one : (P : Type 0) (t : Tok) (r : List Tok) → Passed P (t ∷ r) → Passed P r
  past_one P t r h = record { holds = h.holds; before = h.before ++ t ∷ []; later = later_on h.before t h.later; rest = h.rest.1 }

  past_word : (before : List Tok) (w : List ℕ) (r : List Tok) → Later before → Faultless ds before (name w ∷ r) → Passed (IsKnown ds w) r
  past_word before w r h f = record { holds = word_known before w h f.0; before = before ++ name w ∷ []; later = later_on before (name w) h; rest = f.1 }

  also : (P Q : Type 0) (r : List Tok) → P → Passed Q r → Passed (P × Q) r
  also P Q r p h = record { holds = (p, h.holds); before = h.before; later = h.later; rest = h.rest }

  past_key : (before : List Tok) (k : Key) (r : List Tok) → Later before → Faultless ds before (key_tokens k r) → Passed (KeyKnown ds k) r
  past_key before (named n) r h f = past_word before n r h f
  past_key before (entry t a) r h f =
      let one = past_one (IsKnown ds t) (opens Square) (name a ∷ closes Square ∷ r) (past_word before t (opens Square ∷ name a ∷ closes Square ∷ r) h f) in
      let two = past_one (IsKnown ds a) (closes Square) r (past_word one.before a (closes Square ∷ r) one.later one.rest) in
      also (IsKnown ds t) (IsKnown ds a) r one.holds two
  past_key before (mate k) r h f = past_one (KeyKnown ds k) _ r (past_key before k _ h f)

  mutual
    past_term : (before : List Tok) (t : Term) (r : List Tok) → Later before → Faultless ds before (term_tokens t r) → Passed (TermKnown ds t) r
    past_term before (key k) r h f = past_key before k r h f
    past_term before (tuple t ps) r h f =
        let one = past_term _ t (part_tokens ps r) (later_on before _ h) f.1 in
        also (TermKnown ds t) (PartsKnown ds ps) r one.holds (past_parts one.before ps r one.later one.rest)
    past_term before (sealed t k) r h f =
        let one = past_one (TermKnown ds t) _ (key_tokens k r) (past_term _ t _ (later_on before _ h) f.1) in
        also (TermKnown ds t) (KeyKnown ds k) r one.holds (past_key one.before k r one.later one.rest)
    past_term before (digest g t) r h f =
        let one = past_one (IsKnown ds g) _ _ (past_word before g _ h f) in
        also (IsKnown ds g) (TermKnown ds t) r one.holds (past_one (TermKnown ds t) _ r (past_term one.before t _ one.later one.rest))

    past_parts : (before : List Tok) (ps : Parts) (r : List Tok) → Later before → Faultless ds before (part_tokens ps r) → Passed (PartsKnown ds ps) r
    past_parts before (final t) r h f = past_one (TermKnown ds t) _ r (past_term before t _ h f)
    past_parts before (more t ps) r h f =
        let one = past_term before t (part_tokens ps r) h f in
        also (TermKnown ds t) (PartsKnown ds ps) r one.holds (past_parts one.before ps r one.later one.rest)

  line_known : (l : Line) (t : Term) → Has l t → Faultless ds [] (line_tokens l) → TermKnown ds t
  line_known blank t h f = absurd h
  line_known (declares k n ns) t h f = absurd h
  line_known (owns p u) t h f = subst (TermKnown ds) h (past_term (keyword words.Own ∷ name p ∷ []) u (end ∷ []) (λ us. refl) f.1.1).holds
  line_known (sends p q u) t h f = subst (TermKnown ds) h (past_term (keyword words.Line ∷ name p ∷ name q ∷ []) u (end ∷ []) (λ us. refl) f.1.1.1).holds

-- the term by a number stays

abbrev At : State → ℕ → Tree → Type 0
At st n t = nth st.terms n ≡ Some t

abbrev Kept : State → State → Type 0
Kept st st' = (n : ℕ) (t : Tree) → At st n t → At st' n t

kept_none : (st : State) → Kept st st
kept_none st n t e = e

kept_both : (x y z : State) → Kept x y → Kept y z → Kept x z
kept_both x y z f g n t e = g n t (f n t e)

kept_call : (st : State) (c : Call) → Nameless c → Kept st (perform st c).state
kept_call st c h n t e = (calls_only_add_lem st c).numbers n t e

made_kept : (ds : Known) (t : Term) (st : State) (r : Result ℕ Refusal) (st' : State) → Made ds t st r st' → Kept st st'
made_kept = made_keeps Kept kept_none kept_both kept_call

all_kept : (ds : Known) (ps : Parts) (st : State) (r : Result (List ℕ) Refusal) (st' : State) → AllMade ds ps st r st' → Kept st st'
all_kept = all_keep Kept kept_none kept_both kept_call

key_kept : (ds : Known) (k : Key) (st : State) (r : Result ℕ Refusal) (st' : State) → KeyMade ds k st r st' → Kept st st'
key_kept = key_keeps Kept kept_none kept_both kept_call

pairs_kept : (a : ℕ) (bs : List ℕ) (st : State) (r : Result ℕ Refusal) (st' : State) → Pairs a bs st r st' → Kept st st'
pairs_kept = pairs_keep Kept kept_none kept_both kept_call

-- a granted building answers the number of what it builds

abbrev Answers : ℕ → Outcome → Type 0
Answers n o = Ok (a_term n) ≡ answer_of o.told

placed_at : (st : State) (c : Call) (t : Tree) (told : ℕ → Told) (n : ℕ) (o : Option ℕ) → place_of st.terms t ≡ o → ((m : ℕ) → answer_of (told m) ≡ Ok (a_term m))
    → Answers n (placed st c t told o) → At (placed st c t told o).state n t
placed_at st c t told n (Some m) e is h =
    let q : Ok (a_term n) ≡ answer_of (told m) = h in
    let i = q ∙ is m in
    let j : m ≡ n = cc in
    subst (λ z. At st z t) j (place_is st.terms t m e)
placed_at st c t told n None e is h = go (ltb (length st.terms) 512) h
  where
    go : (b : Bool) → Answers n (cond b (rules.outcome (told (length st.terms)) (record { terms = st.terms ++ (t ∷ []); scripts = st.scripts; steps = st.steps })) (refuses st c rules.NoRoom))
        → At (cond b (rules.outcome (told (length st.terms)) (record { terms = st.terms ++ (t ∷ []); scripts = st.scripts; steps = st.steps })) (refuses st c rules.NoRoom)).state n t
    go true g =
        let q : Ok (a_term n) ≡ answer_of (told (length st.terms)) = g in
        let i = q ∙ is (length st.terms) in
        let j : n ≡ length st.terms = cc in
        nth_right st.terms (t ∷ []) 0 n (omega (arith, j))
    go false g = cc

module _ (st : State) (a b n : ℕ) (x y : Tree) (ex : At st a x) (ey : At st b y) where
  -- the building of two parts, past the tests of its form
  abbrev Formed : ℕ → Form → Outcome
  Formed f g = with (nth st.terms a) (refuses st (BUILD f a b) rules.Unknown) (λ ta. with (nth st.terms b) (refuses st (BUILD f a b) rules.Unknown) (λ tb. builds st (BUILD f a b) g a b ta tb))

  formed_at : (f : ℕ) (g : Form) → Answers n (Formed f g) → At (Formed f g).state n (built g x y)
  formed_at f g =
      let P : Outcome → Type 0 = λ o. Answers n o → At o.state n (built g x y) in
      with_both (nth st.terms a) _ _ P (λ i h. let z = sym i ∙ ex in cc)
      (λ u eu. with_both (nth st.terms b) _ _ P (λ i h. let z = sym i ∙ ey in cc)
      (λ v ev. both u v (some_is (sym ex ∙ eu)) (some_is (sym ey ∙ ev))))
    where
      both : (u v : Tree) → x ≡ u → y ≡ v → Answers n (builds st (BUILD f a b) g a b u v) → At (builds st (BUILD f a b) g a b u v).state n (built g x y)
      both u v i j =
          cond_both (λ o. Answers n o → At o.state n (built g x y)) (parts_fit g u v) _ _
          (λ h. subst (λ z. At (placed st (BUILD f a b) (built g u v) (formed g a b) (place_of st.terms (built g u v))).state n (built g z y)) (sym i)
          (subst (λ z. At (placed st (BUILD f a b) (built g u v) (formed g a b) (place_of st.terms (built g u v))).state n (built g u z)) (sym j)
          (placed_at st (BUILD f a b) (built g u v) (formed g a b) n (place_of st.terms (built g u v)) refl (λ m. refl) h)))
          (λ h. cc)

  built_at : (f : ℕ) (g : Form) (st' : State) → perform st (BUILD f a b) ≡ Formed f g → Builds f a b st (Ok n) st' → At st' n (built g x y)
  built_at f g st' e h =
      subst (λ z. At z n (built g x y)) (sym (h.after ∙ ap (λ o. o.state) e)) (formed_at f g (h.answer ∙ ap (λ o. answer_of o.told) e))

mate_at : (st : State) (a b n : ℕ) (x : Tree) → At st a x → (st' : State) → Builds MATE a b st (Ok n) st' → At st' n (mate_of x)
mate_at st a b n x ex st' h =
    subst (λ z. At z n (mate_of x)) (sym h.after)
    (with_both (nth st.terms a) _ _ (λ o. Answers n o → At o.state n (mate_of x)) (λ i g. let z = sym i ∙ ex in cc) (λ u eu. key_case u (some_is (sym ex ∙ eu))) h.answer)
  where
    key_case : (u : Tree) → x ≡ u → Answers n (rules.mates st (BUILD MATE a b) a u) → At (rules.mates st (BUILD MATE a b) a u).state n (mate_of x)
    key_case u i =
        cond_both (λ o. Answers n o → At o.state n (mate_of x)) (is_key u) _ _
        (λ g. subst (λ z. At (placed st (BUILD MATE a b) (mate_of u) (mated a) (place_of st.terms (mate_of u))).state n (mate_of z)) (sym i)
        (placed_at st (BUILD MATE a b) (mate_of u) (mated a) n (place_of st.terms (mate_of u)) refl (λ m. refl) g))
        (λ g. cc)

-- terms

module _ (ds : Known) where
  abbrev NamesAt : State → Type 0
  NamesAt st = (w : List ℕ) (n : Named) → look_up ds w ≡ Some n → At st n.term (a_name (kind_of n.kind) n.term)

  names_kept : (st st' : State) → Kept st st' → NamesAt st → NamesAt st'
  names_kept st st' k h w n e = k n.term _ (h w n e)

  word_at : (st : State) (w : List ℕ) → NamesAt st → IsKnown ds w → At st (number_in ds w) (name_in ds w)
  word_at st w h (n, e) =
      subst (λ z. At st (number_in ds w) z) (ap declared_name (sym e)) (subst (λ z. At st z (a_name (kind_of n.kind) n.term)) (ap term_number (sym e)) (h w n e))

  key_at : (k : Key) → KeyKnown ds k → (st : State) (n : ℕ) (st' : State) → NamesAt st → KeyMade ds k st (Ok n) st' → At st' n (key_in ds k)
  key_at (named w) i st n st' h m =
      let e = m.0 in
      let f : number_in ds w ≡ n = cc in
      subst (λ z. At z n (name_in ds w)) (sym m.1) (subst (λ z. At st z (name_in ds w)) f (word_at st w h i))
  key_at (entry t a) i st n st' h m = built_at st (number_in ds t) (number_in ds a) n (name_in ds t) (name_in ds a) (word_at st t h i.0) (word_at st a h i.1) ENTRY cell st' refl m
  key_at (mate k) i st n st' h (on a mid m b) = mate_at mid a 0 n (key_in ds k) (key_at k i st a mid h m) st' b
  key_at (mate k) i st n st' h (ended e m q) = cc

  -- the numbers stand for the parts
  abbrev PartsAt : State → Parts → List ℕ → Type 0
  PartsAt st (final t) bs = (b : ℕ) × (bs ≡ b ∷ []) × At st b (term_in ds t)
  PartsAt st (more t ps) bs = (b : ℕ) × (ns : List ℕ) × (bs ≡ b ∷ ns) × At st b (term_in ds t) × PartsAt st ps ns

  pairs_at : (ps : Parts) (a : ℕ) (x : Tree) (bs : List ℕ) (st : State) (n : ℕ) (st' : State) → At st a x → PartsAt st ps bs → Pairs a bs st (Ok n) st' → At st' n (built pair x (parts_in ds ps))
  pairs_at (final t) a x bs st n st' ex (b, e, at) m = last (subst (λ z. Pairs a z st (Ok n) st') e m)
    where
      last : Pairs a (b ∷ []) st (Ok n) st' → At st' n (built pair x (term_in ds t))
      last (on c mid (i, j) k) =
          let f : b ≡ c = cc in
          built_at mid a c n x (term_in ds t) (subst (λ z. At z a x) (sym j) ex) (subst (λ z. At z c (term_in ds t)) (sym j) (subst (λ z. At st z (term_in ds t)) f at)) PAIR pair st' refl k
      last (ended y m q) = cc
  pairs_at (more t ps) a x bs st n st' ex (b, ns, e, at, others) m = go (λ c mid. pairs_at ps b (term_in ds t) ns st c mid at others) (subst (λ z. Pairs a z st (Ok n) st') e m)
    where
      go : ((c : ℕ) (mid : State) → Pairs b ns st (Ok c) mid → At mid c (built pair (term_in ds t) (parts_in ds ps))) → Pairs a (b ∷ ns) st (Ok n) st' → At st' n (built pair x (built pair (term_in ds t) (parts_in ds ps)))
      go rest (on c mid m k) = built_at mid a c n x (built pair (term_in ds t) (parts_in ds ps)) (pairs_kept b ns st (Ok c) mid m a x ex) (rest c mid m) PAIR pair st' refl k
      go rest (ended y m q) = cc

  mutual
    made_at : (t : Term) → TermKnown ds t → (st : State) (n : ℕ) (st' : State) → NamesAt st → Made ds t st (Ok n) st' → At st' n (term_in ds t)
    made_at (key k) i st n st' h m = key_at k i st n st' h m
    made_at (tuple t ps) i st n st' h (on a mid m (on bs last ms k)) =
        pairs_at ps a (term_in ds t) bs last n st' (all_kept ds ps mid (Ok bs) last ms a _ (made_at t i.0 st a mid h m)) (all_at ps i.1 mid bs last (names_kept st mid (made_kept ds t st (Ok a) mid m) h) ms) k
    made_at (tuple t ps) i st n st' h (on a mid m (ended e ms q)) = cc
    made_at (tuple t ps) i st n st' h (ended e m q) = cc
    made_at (sealed t k) i st n st' h (on a mid m (on b last ms c)) =
        built_at last a b n (term_in ds t) (key_in ds k) (key_kept ds k mid (Ok b) last ms a _ (made_at t i.0 st a mid h m)) (key_at k i.1 mid b last (names_kept st mid (made_kept ds t st (Ok a) mid m) h) ms) SEALED seal st' refl c
    made_at (sealed t k) i st n st' h (on a mid m (ended e ms q)) = cc
    made_at (sealed t k) i st n st' h (ended e m q) = cc
    made_at (digest f t) i st n st' h (on a mid m b) =
        built_at mid (number_in ds f) a n (name_in ds f) (term_in ds t) (word_at mid f (names_kept st mid (made_kept ds t st (Ok a) mid m) h) i.0) (made_at t i.1 st a mid h m) DIGEST hash st' refl b
    made_at (digest f t) i st n st' h (ended e m q) = cc

    all_at : (ps : Parts) → PartsKnown ds ps → (st : State) (bs : List ℕ) (st' : State) → NamesAt st → AllMade ds ps st (Ok bs) st' → PartsAt st' ps bs
    all_at (final t) i st bs st' h (on n mid m (e, f)) =
        let g : bs ≡ n ∷ [] = cc in
        (n, g, subst (λ z. At z n (term_in ds t)) (sym f) (made_at t i st n mid h m))
    all_at (final t) i st bs st' h (ended e m q) = cc
    all_at (more t ps) i st bs st' h (on n mid m (on ns last ms (e, f))) =
        let g : bs ≡ n ∷ ns = cc in
        let first = all_kept ds ps mid (Ok ns) last ms n _ (made_at t i.0 st n mid h m) in
        let others = all_at ps i.1 mid ns last (names_kept st mid (made_kept ds t st (Ok n) mid m) h) ms in
        (n, ns, g, subst (λ z. At z n (term_in ds t)) (sym f) first, subst (λ z. PartsAt z ps ns) (sym f) others)
    all_at (more t ps) i st bs st' h (on n mid m (ended e ms q)) = cc
    all_at (more t ps) i st bs st' h (ended e m q) = cc

pub made_stands : MadeTermsStand
made_stands text ls p ds st begun l q is t has n mid m =
    made_at ds t (line_known ds l t has is.faultless) st n mid (begun_sound text ls p ds st begun).terms m
