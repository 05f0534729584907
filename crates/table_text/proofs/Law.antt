-- The law on refusals, from the steps that reading a text asks for.
use Rattle.std.proofs.Common.{◌≡◌, ℕ, cond, ◌∙◌, ◌+◌, ◌<◌, ◌≤◌, ◌⊎◌, eqb, ltb, List, [], ◌∷◌, length, Some, None, Option, Ok, Err, Result, sym, refl, ap, subst, inl, inr, arith}
use Rattle.deduction.specs.Term.{Term as Tree, name, party, built, mate_of}
use Rattle.deduction.specs.Decide.{is_key, parts_fit}
use Rattle.terms.specs.declared.node.Kind.{Kind}
use Rattle.terms.specs.declared.node.Kind.TheVariants.{Party, Number, Shared, Public, Table, Function}
use Rattle.terms.specs.Node.{kind_number}
use Rattle.terms.specs.Tree.{kind_of as tree_kind}
use Rattle.names.specs.declared.names.Named.{Named}
use Rattle.names.specs.Names.{look_up}
use Rattle.rules.specs.State.{State, Outcome, Call, NAME, BUILD, KNOW, blank as blank_state, nth, name_at, kind_of, form_of, place_of, placed, Told, mated, formed, too_long as too_many, has_no_steps, new_terms, new_scripts, perform}
use Rattle.rules.specs.Effects.{knows}
use Rattle.rules.proofs.Nth.{with_both}
use Rattle.rules.proofs.Law.{numbers_stand}
use Rattle.syntax.specs.Grammar.{Key, named, entry, mate, Term, key, tuple, sealed, digest, Parts, final, more, Line, blank, declares, owns, sends}
use Rattle.line_check.specs.declared.fault.LineFault.TheVariants.{Undeclared}
use Rattle.line_check.specs.Faults.{agent_fault, is_party}
use Rattle.protocol.specs.declared.call.Reply.{Reply}
use Rattle.protocol.specs.declared.refusal.Refusal.{Refusal}
use Rattle.protocol.specs.declared.refusal.Refusal.TheVariants.{Unknown, WrongKind, NoRoom, EighthParty, TooLate, NoTwoParties, LastStep, NoAddress, Unmakeable, ScriptFull}
use Rattle.protocol.specs.Outcome.{Performed, answer_of, number}
use Rattle.protocol.proofs.Laws.{cond_both, step_law}
use Rattle.table_text.specs.declared.fault.TextFault.{TextFault}
use Rattle.table_text.specs.declared.fault.TextFault.TheVariants as texts
use Rattle.table_text.specs.Calls.{Known, Is, Then, on, ended, Steps, agent_in, Pairs, KeyMade, Made, AllMade, AllNamed, Owns, Sends, LineMade}
use Rattle.table_text.specs.Tables.{IsLineAt, Begun, Reads, whole, too_long, wrong_token, refused_call}
use Rattle.table_text.specs.Written.{declared_name, name_in, term_in}
use Rattle.table_text.specs.Standing.{NamesStand}
use Rattle.table_text.specs.Law.{StepLine, Asked, TextLaw}
use Rattle.table_text.proofs.Standing.{made_sound, begun_sound, names_stand}
use Rattle.table_text.proofs.Written.{made_stands}
use Rattle.table_text.proofs.Determined.{Beside, level, first_stops, second_stops, beside, Stops, stops_over, stops_wrong, stops_refused, is_once_line, no_refused}

-- only a step is refused as unmakeable, and beside it only initial knowledge for a full script

abbrev Early : Refusal → Type 0
Early Unknown = Unit {0}
Early WrongKind = Unit {0}
Early NoRoom = Unit {0}
Early EighthParty = Unit {0}
Early TooLate = Unit {0}
Early NoTwoParties = Unit {0}
Early LastStep = Unit {0}
Early NoAddress = Unit {0}
Early (Unmakeable x) = ⊥
Early (ScriptFull p) = ⊥

abbrev Makeable : Refusal → Type 0
Makeable Unknown = Unit {0}
Makeable WrongKind = Unit {0}
Makeable NoRoom = Unit {0}
Makeable EighthParty = Unit {0}
Makeable TooLate = Unit {0}
Makeable NoTwoParties = Unit {0}
Makeable LastStep = Unit {0}
Makeable NoAddress = Unit {0}
Makeable (Unmakeable x) = ⊥
Makeable (ScriptFull p) = Unit {0}

early_makeable : (e : Refusal) → Early e → Makeable e
early_makeable Unknown h = tt
early_makeable WrongKind h = tt
early_makeable NoRoom h = tt
early_makeable EighthParty h = tt
early_makeable TooLate h = tt
early_makeable NoTwoParties h = tt
early_makeable LastStep h = tt
early_makeable NoAddress h = tt
early_makeable (Unmakeable x) h = h
early_makeable (ScriptFull p) h = tt

-- a refusal by the outcome is of the sort
abbrev Tells : (Refusal → Type 0) → Outcome → Type 0
Tells P o = (e : Refusal) → answer_of o.told ≡ Err e → P e

abbrev Fault : Refusal → Refusal → Type 0
Fault x e = let r : Result Reply Refusal = Err x in r ≡ Err e

tells : (P : Refusal → Type 0) (x e : Refusal) → P x → Fault x e → P e
tells P x e h q = let i : x ≡ e = cc in subst P i h

placed_early : (st : State) (c : Call) (t : Tree) (told : ℕ → Told) (o : Option ℕ) → ((n : ℕ) (e : Refusal) → answer_of (told n) ≡ Err e → ⊥) → Tells Early (placed st c t told o)
placed_early st c t told (Some n) h = λ e q. absurd (h n e q)
placed_early st c t told None h =
    cond_both (Tells Early) (ltb (length st.terms) 512) _ _ (λ e q. absurd (h (length st.terms) e q)) (λ e q. tells Early NoRoom e tt q)

build_early : (st : State) (f a b : ℕ) → Tells Early (perform st (BUILD f a b))
build_early st f a b =
    let P : Outcome → Type 0 = Tells Early in
    let c : Call = BUILD f a b in
    cond_both P (eqb f 4) _ _
    (with_both (nth st.terms a) _ _ P (λ i e q. tells Early Unknown e tt q)
    (λ x ex. cond_both P (is_key x) _ _ (placed_early st c (mate_of x) (mated a) (place_of st.terms (mate_of x)) (λ n e q. cc)) (λ e q. tells Early WrongKind e tt q)))
    (with_both (form_of f) _ _ P (λ i e q. tells Early Unknown e tt q)
    (λ form ef. with_both (nth st.terms a) _ _ P (λ i e q. tells Early Unknown e tt q)
    (λ x ex. with_both (nth st.terms b) _ _ P (λ i e q. tells Early Unknown e tt q)
    (λ y ey. cond_both P (parts_fit form x y) _ _ (placed_early st c (built form x y) (formed form a b) (place_of st.terms (built form x y)) (λ n e q. cc)) (λ e q. tells Early WrongKind e tt q)))))

name_early : (st : State) (c : ℕ) → Tells Early (perform st (NAME c))
name_early st c =
    let P : Outcome → Type 0 = Tells Early in
    with_both (kind_of c) _ _ P (λ i e q. tells Early Unknown e tt q)
    (λ k ek. cond_both P (ltb 512 (length st.terms + length (new_terms k (length st.terms)))) _ _ (λ e q. tells Early NoRoom e tt q)
    (cond_both P (ltb 8 (length st.scripts + length (new_scripts k (length st.terms)))) _ _ (λ e q. tells Early EighthParty e tt q) (λ e q. cc)))

know_makeable : (st : State) (p n : ℕ) → Tells Makeable (perform st (KNOW p n))
know_makeable st p n =
    let P : Outcome → Type 0 = Tells Makeable in
    with_both (nth st.scripts p) _ _ P (λ i e q. tells Makeable Unknown e tt q)
    (λ s es. with_both (nth st.terms n) _ _ P (λ i e q. tells Makeable Unknown e tt q)
    (λ t et. cond_both P (has_no_steps st.steps) _ _
    (cond_both P (too_many (knows s t)) _ _ (λ e q. tells Makeable (ScriptFull p) e tt q) (λ e q. cc))
    (λ e q. tells Makeable TooLate e tt q)))

abbrev Refuses : {A : Type 0} → (State → Result A Refusal → State → Type 0) → Type 0
Refuses {A} F = (st : State) (e : Refusal) (st' : State) → F st (Err e) st' → Early e

is_early : {A : Type 0} (a : A) → Refuses (Is a)
is_early a st e st' h = let q = h.0 in cc

then_early : {A B : Type 0} (F : State → Result A Refusal → State → Type 0) (G : A → State → Result B Refusal → State → Type 0) → Refuses F → ((a : A) → Refuses (G a)) → Refuses (Then F G)
then_early F G f g st e st' (on a mid h k) = g a mid e st' k
then_early F G f g st e st' (ended x h q) = let i : x ≡ e = cc in subst Early i (f st x st' h)

builds_early : (f a b : ℕ) → Refuses (λ st r st'. Performed st (BUILD f a b) (number r) st')
builds_early f a b st e st' h = build_early st f a b e (sym h.answer)

pairs_early : (a : ℕ) (bs : List ℕ) → Refuses (Pairs a bs)
pairs_early a [] = is_early a
pairs_early a (b ∷ bs) = then_early (Pairs b bs) _ (pairs_early b bs) (λ n. builds_early _ _ _)

module _ (ds : Known) where
  key_early : (k : Key) → Refuses (KeyMade ds k)
  key_early (named n) = is_early _
  key_early (entry t a) = builds_early _ _ _
  key_early (mate k) = then_early (KeyMade ds k) _ (key_early k) (λ n. builds_early _ _ _)

  mutual
    made_early : (t : Term) → Refuses (Made ds t)
    made_early (key k) = key_early k
    made_early (tuple t ps) = then_early (Made ds t) _ (made_early t) (λ a. then_early (AllMade ds ps) _ (all_early ps) (λ bs. pairs_early a bs))
    made_early (sealed t k) = then_early (Made ds t) _ (made_early t) (λ a. then_early (KeyMade ds k) _ (key_early k) (λ b. builds_early _ _ _))
    made_early (digest f t) = then_early (Made ds t) _ (made_early t) (λ a. builds_early _ _ _)

    all_early : (ps : Parts) → Refuses (AllMade ds ps)
    all_early (final t) = then_early (Made ds t) _ (made_early t) (λ n. is_early _)
    all_early (more t ps) = then_early (Made ds t) _ (made_early t) (λ n. then_early (AllMade ds ps) _ (all_early ps) (λ ns. is_early _))

named_early : (k : Kind) (ws : List (List ℕ)) (ds : Known) (st : State) (e : Refusal) (es : Known) (st' : State) → AllNamed k ws ds st (Err e) es st' → Early e
named_early k [] ds st e es st' h = let q = h.0 in cc
named_early k (w ∷ ws) ds st e es st' (inl (n, mid, h, m)) = named_early k ws _ mid e es st' m
named_early k (w ∷ ws) ds st e es st' (inr (x, h, q, f)) = let i : x ≡ e = cc in subst Early i (name_early st (kind_number k) x (sym h.answer))

owns_makeable : (ds : Known) (p : List ℕ) (t : Term) (st : State) (e : Refusal) (st' : State) → Owns ds p t st (Err e) st' → Makeable e
owns_makeable ds p t st e st' (on n mid h k) = know_makeable mid (agent_in ds p) n e (sym k.answer)
owns_makeable ds p t st e st' (ended x h q) = let i : x ≡ e = cc in subst Makeable i (early_makeable x (made_early ds t st x st' h))

-- an agent's word was declared as a party

agent_known : (o : Option Named) → agent_fault o ≡ None → (n : Named) × (o ≡ Some n) × (n.kind ≡ Party)
agent_known None e = cc
agent_known (Some n) e = (n, refl, go n.kind e)
  where
    go : (k : Kind) → cond (is_party k) None (Some Undeclared) ≡ None → k ≡ Party
    go Party e = refl
    go Number e = cc
    go Shared e = cc
    go Public e = cc
    go Table e = cc
    go Function e = cc

party_at : (ds : Known) (st : State) (w : List ℕ) → NamesStand ds st → agent_fault (look_up ds w) ≡ None → name_at st.terms (agent_in ds w) ≡ Some (name_in ds w)
party_at ds st w h f =
    let n = agent_known (look_up ds w) f in
    let is : name_in ds w ≡ name party n.0.term = ap declared_name n.1 ∙ ap (λ k. name (tree_kind k) n.0.term) n.2 in
    (h w n.0 n.1).agent n.2 ∙ ap Some (sym is)

-- what the step of a line is answered is right

module _ (text : List ℕ) (p : ℕ) (a b : List ℕ) (t : Term) (s : StepLine text p a b t) where
  asked_so : (n : ℕ) (mid : State) (r : Result ℕ Refusal) (st' : State) → Made s.declared t s.state (Ok n) mid → Steps (agent_in s.declared a) (agent_in s.declared b) n mid r st' → Asked s r
  asked_so n mid r st' m k =
      let sound = made_sound s.declared t s.state (Ok n) mid m (begun_sound text s.before p s.declared s.state s.begun) in
      record {
        message = n;
        asked = mid;
        made = m;
        after = st';
        answered = k;
        past = sound.past;
        came = sound.came;
        sender = party_at s.declared mid a (names_stand s.declared mid sound) s.is.faultless.1.0;
        receiver = party_at s.declared mid b (names_stand s.declared mid sound) s.is.faultless.1.1.0;
        stands = (numbers_stand sound.past mid sound.came n (term_in s.declared t)).1 (made_stands text s.before p s.declared s.state s.begun (sends a b t) s.next s.is t refl n mid m);
        right = step_law mid st' (agent_in s.declared a) (agent_in s.declared b) n r k;
      }

  granted_so : (st' : State) → Sends s.declared a b t s.state (Ok tt) st' → (l : ℕ) × Asked s (Ok l)
  granted_so st' (on n mid m (on l last k i)) = (l, asked_so n mid (Ok l) last m k)
  granted_so st' (on n mid m (ended e k q)) = cc
  granted_so st' (ended e m q) = cc

  refused_so : (f : Refusal) (st' : State) → Sends s.declared a b t s.state (Err f) st' → (Early f → ⊥) → Asked s (Err f)
  refused_so f st' (on n mid m (on l last k i)) late = let q = i.0 in cc
  refused_so f st' (on n mid m (ended e k q)) late =
      let i : f ≡ e = cc in
      subst (λ z. Asked s (Err z)) (sym i) (asked_so n mid (Err e) st' m k)
  refused_so f st' (ended e m q) late = let i : e ≡ f = cc in absurd (late (subst Early i (made_early s.declared t s.state e st' m)))

  -- the line is granted, or the granted lines end before it
  abbrev Met : ℕ → Known → State → Type 0
  Met q es mid = ((p ≡ q) × (s.declared ≡ es) × (s.state ≡ mid)) ⊎ ((p < q) × (st' : State) × Sends s.declared a b t s.state (Ok tt) st')

  met : (ms : List Line) (q : ℕ) (es : Known) (mid : State) → Begun text ms q es mid → Stops text q es mid → Met q es mid
  met ms q es mid h stops = go (beside text s.before ms 0 [] blank_state p q s.declared es s.state mid s.begun h)
    where
      go : Beside text p q s.declared es s.state mid → Met q es mid
      go (level e f g) = inl (e, f, g)
      go (first_stops (l, n, fs, st', lt, is, made) past) =
          let one = is_once_line s.declared text p l (sends a b t) n s.next is s.is in
          inr (past, st', (subst (λ z. LineMade z s.declared s.state (Ok tt) fs st') one.0 made).0)
      go (second_stops n past) = absurd (stops n)

-- the law for the answers of a text

abbrev NoRefusal : Result ℕ TextFault → Type 0
NoRefusal r = (f : Refusal) (p : ℕ) → r ≡ Err (texts.Protocol f p) → ⊥

-- a text in which no call is refused
module _ (text : List ℕ) (r : Result ℕ TextFault) (none : NoRefusal r) where
  unrefused : ((p : ℕ) (a b : List ℕ) (t : Term) (s : StepLine text p a b t) → (l : ℕ) × Asked s (Ok l)) → TextLaw text r
  unrefused g = record {
    granted = λ p a b t s h. g p a b t s;
    unmakeable = λ x p e. absurd (none (Unmakeable x) p e);
    full = λ q p e. absurd (none (ScriptFull q) p e);
  }

  ended_law : (ms : List Line) (q : ℕ) (es : Known) (mid : State) → Begun text ms q es mid → Stops text q es mid
      → ((p : ℕ) (a b : List ℕ) (t : Term) (s : StepLine text p a b t) → p ≡ q → s.declared ≡ es → ⊥) → TextLaw text r
  ended_law ms q es mid h stops never = unrefused (λ p a b t s. go p a b t s (met text p a b t s ms q es mid h stops))
    where
      go : (p : ℕ) (a b : List ℕ) (t : Term) (s : StepLine text p a b t) → Met text p a b t s q es mid → (l : ℕ) × Asked s (Ok l)
      go p a b t s (inl e) = absurd (never p a b t s e.0 e.1)
      go p a b t s (inr m) = granted_so text p a b t s m.1 m.2

-- a text with a refused call
module _ (text : List ℕ) (ls : List Line) (q : ℕ) (ds es : Known) (st st' : State) (l : Line) (n : ℕ) (f : Refusal) (short : length text ≤ 32768) (begun : Begun text ls q ds st) (within : q < length text)
    (is : IsLineAt ds text q l n) (made : LineMade l ds st (Err f) es st') where
  abbrev Answer : Result ℕ TextFault
  Answer = Err (texts.Protocol f q)

  refused_granted : (p : ℕ) (a b : List ℕ) (t : Term) (s : StepLine text p a b t) → ((g : Refusal) → Answer ≡ Err (texts.Protocol g p) → ⊥) → (k : ℕ) × Asked s (Ok k)
  refused_granted p a b t s other = go (met text p a b t s ls q ds st begun (stops_refused text q ds es st st' l n f is made))
    where
      go : Met text p a b t s q ds st → (k : ℕ) × Asked s (Ok k)
      go (inl e) = absurd (other f (ap (λ z. Err (texts.Protocol f z)) (sym e.0)))
      go (inr m) = granted_so text p a b t s m.1 m.2

  refused_there : (a b : List ℕ) (t : Term) (s : StepLine text q a b t) → (Early f → ⊥) → Asked s (Err f)
  refused_there a b t s late = go (met text q a b t s ls q ds st begun (stops_refused text q ds es st st' l n f is made))
    where
      go : Met text q a b t s q ds st → Asked s (Err f)
      go (inl (e, g, h)) =
          let at = subst (λ z. IsLineAt z text q l n) (sym g) is in
          let one = is_once_line s.declared text q l (sends a b t) n s.next at s.is in
          let m = subst (λ z. LineMade z s.declared s.state (Err f) es st') one.0 (subst (λ z. LineMade l z s.state (Err f) es st') (sym g) (subst (λ z. LineMade l ds z (Err f) es st') (sym h) made)) in
          refused_so text q a b t s f st' m.0 late
      go (inr m) = let x = m.0 in absurd (omega arith)

  -- a step line whose step is answered g
  abbrev StepAt : ℕ → Refusal → Type 0
  StepAt p g = (a : List ℕ) × (b : List ℕ) × (t : Term) × (s : StepLine text p a b t) × Asked s (Err g)

  is_step : (Makeable f → ⊥) → StepAt q f
  is_step late = go l is made
    where
      go : (k : Line) → IsLineAt ds text q k n → LineMade k ds st (Err f) es st' → StepAt q f
      go blank i m = let e = m.0 in cc
      go (declares k w ws) i m = absurd (late (early_makeable f (named_early k (w ∷ ws) ds st f es st' m)))
      go (owns p t) i m = absurd (late (owns_makeable ds p t st f st' m.0))
      go (sends a b t) i m =
          let s : StepLine text q a b t = record { short = short; before = ls; declared = ds; state = st; begun = begun; within = within; next = n; is = i } in
          (a, b, t, s, refused_so text q a b t s f st' m.0 (λ e. late (early_makeable f e)))

  refused_law : TextLaw text Answer
  refused_law = record {
    granted = refused_granted;
    unmakeable = λ x p e.
        let i : f ≡ Unmakeable x = cc in
        let j : q ≡ p = cc in
        subst (λ z. StepAt z (Unmakeable x)) j (subst (StepAt q) i (is_step (λ m. subst Makeable i m)));
    full = λ x p e a b t s.
        let i : f ≡ ScriptFull x = cc in
        let j : q ≡ p = cc in
        there x p i j a b t s;
  }
    where
      there : (x p : ℕ) → f ≡ ScriptFull x → q ≡ p → (a b : List ℕ) (t : Term) (s : StepLine text p a b t) → Asked s (Err (ScriptFull x))
      there x p i j a b t s =
          subst (λ z. (s : StepLine text z a b t) → Asked s (Err (ScriptFull x))) j
          (λ s. subst (λ z. Asked s (Err z)) i (refused_there a b t s (λ e. subst Early i e))) s

-- whatever the granted text is answered
granted_law : {text : List ℕ} {r : Result (Unit {0}) TextFault} {ds : Known} {st : State} → (x : ℕ) → r ≡ Ok tt → Reads text r ds st → TextLaw text (Ok x)
granted_law {text} x e (whole ls ds st a h) =
    ended_law text (Ok x) (λ f p q. cc) ls (length text) ds st h (stops_over text ds st) (λ p a b t s i j. let w = s.within in omega (arith, i))
granted_law {text} x e (too_long a) = cc
granted_law {text} x e (wrong_token ls p ds st y q a h l w) = cc
granted_law {text} x e (refused_call ls p ds es st st' k q f a h l is made) = cc

fault_law : {text : List ℕ} {r : Result (Unit {0}) TextFault} {ds : Known} {st : State} → (f : TextFault) → r ≡ Err f → Reads text r ds st → TextLaw text (Err f)
fault_law {text} x e (whole ls ds st a h) = cc
fault_law {text} x e (too_long longer) =
    let i : x ≡ texts.TooLong = cc in
    unrefused text (Err x) (λ f p q. cc) (λ p a b t s. let w = s.short in absurd (omega (arith, longer)))
fault_law {text} x e (wrong_token ls p ds st y q a h l w) =
    let i : x ≡ texts.Token y = cc in
    ended_law text (Err x) (λ f n j. cc) ls p ds st h (stops_wrong text p ds st y q w)
    (λ n a b t s j k. no_refused ds text p (sends a b t) s.next y q (subst (λ z. IsLineAt z text p (sends a b t) s.next) k (subst (λ z. IsLineAt s.declared text z (sends a b t) s.next) j s.is)) w)
fault_law {text} x e (refused_call ls p ds es st st' k q f a h l is made) =
    let i : texts.Protocol f p ≡ x = cc in
    subst (λ z. TextLaw text (Err z)) i (refused_law text ls p ds es st st' k q f a h l is made)

pub law_granted : (text : List ℕ) (n : ℕ) (ds : Known) (st : State) → Reads text (Ok tt) ds st → TextLaw text (Ok n)
law_granted text n ds st h = granted_law n refl h

pub law_refused : (text : List ℕ) (f : TextFault) (ds : Known) (st : State) → Reads text (Err f) ds st → TextLaw text (Err f)
law_refused text f ds st h = fault_law f refl h
