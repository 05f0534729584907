-- What declared names stand for, through the calls of a text.
use Rattle.std.proofs.Common.{◌≡◌, ℕ, ◌+◌, Bool, true, false, cond, eqb, ltb, ◌⊎◌, List, [], ◌∷◌, ◌++◌, length, Some, None, Option, Ok, Err, Result, sym, refl, ap, ◌∙◌, subst, inl, inr, arith}
use Rattle.std.specs.Str.{bytes_eq}
use Rattle.deduction.specs.Term.{Kind as TreeKind, party, number as a_number, shared, public, table, function, Term as Tree, name, built, mate_of}
use Rattle.deduction.specs.Decide.{is_key, parts_fit}
use Rattle.terms.specs.declared.node.Kind.{Kind}
use Rattle.terms.specs.declared.node.Kind.TheVariants.{Party, Number, Shared, Public, Table, Function}
use Rattle.terms.specs.Node.{kind_number}
use Rattle.terms.specs.Tree.{kind_of}
use Rattle.names.specs.declared.names.Named.{Named}
use Rattle.names.specs.Names.{look_up, agent_from, is_party}
use Rattle.rules.specs.State.{State, Outcome, Call, NAME, BUILD, KNOW, STEP, CAN, Told, named as is_named, formed, mated, known, stepped, asked, refused, blank as blank_state, nth, name_at, form_of, place_of, placed, too_long as too_many, has_no_steps, names, name_tests, new_terms, new_scripts, refuses, perform}
use Rattle.rules.specs.State as rules
use Rattle.rules.specs.Effects.{knows}
use Rattle.rules.specs.History.{History, Came, Stands, parties, opens, NameOf}
use Rattle.rules.specs.History as histories
use Rattle.rules.proofs.Keeps.{calls_only_add_lem}
use Rattle.rules.proofs.Law.{came_stable, numbers_stand}
use Rattle.rules.proofs.Nth.{with_both}
use Rattle.syntax.specs.Grammar.{Term, Line, blank, declares, owns, sends}
use Rattle.protocol.specs.declared.call.Reply.TheVariants.{Number as a_term}
use Rattle.protocol.specs.declared.refusal.Refusal.{Refusal}
use Rattle.protocol.specs.Outcome.{answer_of}
use Rattle.protocol.proofs.Laws.{cond_both, step_told, can_told}
use Rattle.table_text.specs.declared.fault.TextFault.{TextFault}
use Rattle.table_text.specs.Calls.{Known, Names, agent_in, agent_number, Made, AllNamed, Owns, Sends, LineMade}
use Rattle.table_text.specs.Tables.{Granted, Begun, Reads, whole, too_long, wrong_token, refused_call}
use Rattle.table_text.specs.Standing.{NamesStand, DeclaredNamesStand}
use Rattle.table_text.proofs.Along.{Nameless, made_keeps, owns_keep, sends_keep}

-- a list of names, and the same with one more

abbrev one_if : Bool → ℕ
one_if b = cond b 1 0

-- how many of the names are parties
abbrev parties_in : Known → ℕ
parties_in [] = 0
parties_in (d ∷ ds) = one_if (is_party d.1.kind) + parties_in ds

module _ (w : List ℕ) (n : Named) where
  abbrev More : Known → Known
  More ds = ds ++ (w, n) ∷ []

  parties_more : (ds : Known) → parties_in (More ds) ≡ parties_in ds + one_if (is_party n.kind)
  parties_more [] = omega arith
  parties_more (d ∷ ds) = let h = parties_more ds in omega (arith, h)

  -- a word of the longer list is one of the list, or the new one
  abbrev Either : List ℕ → Named → Option Named → Type 0
  Either v m o = (o ≡ Some m) ⊎ ((o ≡ None) × (bytes_eq w v ≡ true) × (n ≡ m))

  found_more : (ds : Known) (v : List ℕ) (m : Named) → look_up (More ds) v ≡ Some m → Either v m (look_up ds v)
  found_more [] v m h = go (bytes_eq w v) refl h
    where
      go : (b : Bool) → bytes_eq w v ≡ b → cond b (Some n) None ≡ Some m → Either v m None
      go true q e = inr (refl, q, cc)
      go false q e = cc
  found_more (d ∷ ds) v m h = go (found_more ds v m) (bytes_eq d.0 v) h
    where
      go : (look_up (More ds) v ≡ Some m → Either v m (look_up ds v)) → (b : Bool) → cond b (Some d.1) (look_up (More ds) v) ≡ Some m → Either v m (cond b (Some d.1) (look_up ds v))
      go rest true e = inl e
      go rest false e = rest e

  agent_more : (j : ℕ) (ds : Known) (v : List ℕ) (p : ℕ) → agent_from j ds v ≡ Some p → agent_from j (More ds) v ≡ Some p
  agent_more j [] v p h = cc
  agent_more j (d ∷ ds) v p h = go (λ i. agent_more i ds v p) (is_party d.1.kind) (bytes_eq d.0 v) h
    where
      go : ((i : ℕ) → agent_from i ds v ≡ Some p → agent_from i (More ds) v ≡ Some p) → (b c : Bool) → cond b (cond c (Some j) (agent_from (j + 1) ds v)) (agent_from j ds v) ≡ Some p
          → cond b (cond c (Some j) (agent_from (j + 1) (More ds) v)) (agent_from j (More ds) v) ≡ Some p
      go rest true true e = e
      go rest true false e = rest (j + 1) e
      go rest false c e = rest j e

  agent_new : (j : ℕ) (ds : Known) (v : List ℕ) → look_up ds v ≡ None → is_party n.kind ≡ true → bytes_eq w v ≡ true → agent_from j (More ds) v ≡ Some (j + parties_in ds)
  agent_new j [] v h i k = go (is_party n.kind) (bytes_eq w v) i k
    where
      go : (b c : Bool) → b ≡ true → c ≡ true → cond b (cond c (Some j) None) None ≡ Some (j + 0)
      go true true e f = ap Some (omega arith)
      go true false e f = cc
      go false c e f = cc
  agent_new j (d ∷ ds) v h i k = go (λ a e. agent_new a ds v e i k) (is_party d.1.kind) (bytes_eq d.0 v) h
    where
      go : ((a : ℕ) → look_up ds v ≡ None → agent_from a (More ds) v ≡ Some (a + parties_in ds)) → (b c : Bool) → cond c (Some d.1) (look_up ds v) ≡ None
          → cond b (cond c (Some j) (agent_from (j + 1) (More ds) v)) (agent_from j (More ds) v) ≡ Some (j + (one_if b + parties_in ds))
      go rest b true e = cc
      go rest true false e = rest (j + 1) e ∙ ap Some (omega arith)
      go rest false false e = rest j e ∙ ap Some (omega arith)

-- a party's word has an agent
agent_found : (j : ℕ) (ds : Known) (v : List ℕ) (m : Named) → look_up ds v ≡ Some m → is_party m.kind ≡ true → (p : ℕ) × (agent_from j ds v ≡ Some p)
agent_found j [] v m h i = cc
agent_found j (d ∷ ds) v m h i = go (λ a e. agent_found a ds v m e i) (is_party d.1.kind) (bytes_eq d.0 v) refl h
  where
    go : ((a : ℕ) → look_up ds v ≡ Some m → (p : ℕ) × (agent_from a ds v ≡ Some p)) → (b c : Bool) → is_party d.1.kind ≡ b → cond c (Some d.1) (look_up ds v) ≡ Some m → (p : ℕ) × (cond b (cond c (Some j) (agent_from (j + 1) ds v)) (agent_from j ds v) ≡ Some p)
    go rest true true q e = (j, refl)
    go rest true false q e = rest (j + 1) e
    go rest false true q e =
        let f : d.1 ≡ m = cc in
        let g : true ≡ false = sym i ∙ ap (λ z. is_party z.kind) (sym f) ∙ q in
        cc
    go rest false false q e = rest j e

-- kinds

one_party : (k : Kind) → histories.is_party (kind_of k) ≡ one_if (is_party k)
one_party Party = refl
one_party Number = refl
one_party Shared = refl
one_party Public = refl
one_party Table = refl
one_party Function = refl

party_kind : (k : Kind) → is_party k ≡ true → kind_of k ≡ party
party_kind Party e = refl
party_kind Number e = cc
party_kind Shared e = cc
party_kind Public e = cc
party_kind Table e = cc
party_kind Function e = cc

-- which calls name a party

abbrev Unopened : Outcome → Type 0
Unopened o = opens o.told ≡ 0

placed_unopened : (st : State) (c : Call) (t : Tree) (told : ℕ → Told) (o : Option ℕ) → ((n : ℕ) → opens (told n) ≡ 0) → Unopened (placed st c t told o)
placed_unopened st c t told (Some n) h = h n
placed_unopened st c t told None h = cond_both Unopened (ltb (length st.terms) 512) _ _ (h (length st.terms)) refl

unopened : (st : State) (c : Call) → Nameless c → Unopened (perform st c)
unopened st (NAME k) h = absurd h
unopened st (BUILD f a b) h =
    let c : Call = BUILD f a b in
    cond_both Unopened (eqb f 4) _ _
    (with_both (nth st.terms a) _ _ Unopened (λ i. refl)
    (λ x ex. cond_both Unopened (is_key x) _ _ (placed_unopened st c (mate_of x) (mated a) (place_of st.terms (mate_of x)) (λ n. refl)) refl))
    (with_both (form_of f) _ _ Unopened (λ i. refl)
    (λ form ef. with_both (nth st.terms a) _ _ Unopened (λ i. refl)
    (λ x ex. with_both (nth st.terms b) _ _ Unopened (λ i. refl)
    (λ y ey. cond_both Unopened (parts_fit form x y) _ _ (placed_unopened st c (built form x y) (formed form a b) (place_of st.terms (built form x y)) (λ n. refl)) refl))))
unopened st (KNOW p n) h =
    with_both (nth st.scripts p) _ _ Unopened (λ i. refl)
    (λ s es. with_both (nth st.terms n) _ _ Unopened (λ i. refl)
    (λ t et. cond_both Unopened (has_no_steps st.steps) _ _ (cond_both Unopened (too_many (knows s t)) _ _ refl refl) refl))
unopened st (STEP a b n) h = go (step_told st a b n)
  where
    go : ((l : ℕ) × ((perform st (STEP a b n)).told ≡ stepped a b n l)) ⊎ ((r : rules.Refusal) × ((perform st (STEP a b n)).told ≡ refused (STEP a b n) r)) → Unopened (perform st (STEP a b n))
    go (inl e) = ap opens e.1
    go (inr e) = ap opens e.1
unopened st (CAN p n) h = go (can_told st p n)
  where
    go : ((b : Bool) × ((perform st (CAN p n)).told ≡ asked p n b)) ⊎ ((perform st (CAN p n)).told ≡ refused (CAN p n) rules.Unknown) → Unopened (perform st (CAN p n))
    go (inl e) = ap opens e.1
    go (inr e) = ap opens e

refused_opens : (d : Told) (e : Refusal) → answer_of d ≡ Err e → opens d ≡ 0
refused_opens (is_named k n) e h = cc
refused_opens (formed f a b n) e h = refl
refused_opens (mated a n) e h = refl
refused_opens (known p n) e h = refl
refused_opens (stepped a b n l) e h = refl
refused_opens (asked p n b) e h = refl
refused_opens (refused c r) e h = refl

-- a granted name tells its kind and its number

tested_told : (st : State) (c : ℕ) (k : TreeKind) (n : ℕ) (b d : Bool)
    → Ok (a_term n) ≡ answer_of (cond b (refuses st (NAME c) rules.NoRoom) (cond d (refuses st (NAME c) rules.EighthParty) (names st k))).told
    → (cond b (refuses st (NAME c) rules.NoRoom) (cond d (refuses st (NAME c) rules.EighthParty) (names st k))).told ≡ is_named k n
tested_told st c k n true d h = cc
tested_told st c k n false true h = cc
tested_told st c k n false false h = let e : length st.terms ≡ n = cc in ap (is_named k) e

named_told : (k : Kind) (st : State) (n : ℕ) (mid : State) → Names k st (Ok n) mid → (perform st (NAME (kind_number k))).told ≡ is_named (kind_of k) n
named_told k st n mid h = go k h.answer
  where
    tests : (c : ℕ) (t : TreeKind) → Ok (a_term n) ≡ answer_of (name_tests st c t).told → (name_tests st c t).told ≡ is_named t n
    tests c t e = tested_told st c t n (ltb 512 (length st.terms + length (new_terms t (length st.terms)))) (ltb 8 (length st.scripts + length (new_scripts t (length st.terms)))) e

    go : (k : Kind) → Ok (a_term n) ≡ answer_of (perform st (NAME (kind_number k))).told → (perform st (NAME (kind_number k))).told ≡ is_named (kind_of k) n
    go Party e = tests 0 party e
    go Number e = tests 1 a_number e
    go Shared e = tests 2 shared e
    go Public e = tests 3 public e
    go Table e = tests 4 table e
    go Function e = tests 5 function e

-- the state came about by calls that named as many parties as are declared, and every word stands for its term, a party's also for its agent
pub record Sound (ds : Known) (st : State) : Type 0 where
  pub past : History
  pub came : Came past st
  pub count : parties past ≡ parties_in ds
  pub terms : (w : List ℕ) (n : Named) → look_up ds w ≡ Some n → nth st.terms n.term ≡ Some (name (kind_of n.kind) n.term)
  pub agents : (w : List ℕ) (n : Named) → look_up ds w ≡ Some n → is_party n.kind ≡ true → name_at st.terms (agent_in ds w) ≡ Some (name party n.term)

sound_blank : Sound [] blank_state
sound_blank = record { past = []; came = refl; count = refl; terms = λ w n h. cc; agents = λ w n h q. cc }

-- the name of an agent stays
agent_stays : (past : History) (st : State) → Came past st → (d : Told) (st' : State) → Came (d ∷ past) st' → (p : ℕ) (t : Tree) → name_at st.terms p ≡ Some t → name_at st'.terms p ≡ Some t
agent_stays past st came d st' now p t h = (came_stable (d ∷ past) st' now).numbers.names_to p t (inl ((came_stable past st came).numbers.names_from p t h))

call_sound : (ds : Known) (st : State) (c : Call) → Unopened (perform st c) → Sound ds st → Sound ds (perform st c).state
call_sound ds st c u s =
    let d = (perform st c).told in
    let now : Came (d ∷ s.past) (perform st c).state = (st, s.came, (c, refl, refl)) in
    record {
      past = d ∷ s.past;
      came = now;
      count = let e = s.count in omega (arith, e, u);
      terms = λ w n h. (calls_only_add_lem st c).numbers n.term _ (s.terms w n h);
      agents = λ w n h q. agent_stays s.past st s.came d (perform st c).state now (agent_in ds w) _ (s.agents w n h q);
    }

module _ (k : Kind) (w : List ℕ) (ds : Known) (st : State) (n : ℕ) (mid : State) (h : Names k st (Ok n) mid) (s : Sound ds st) where
  abbrev New : Named
  New = record { kind = k; term = n }

  now : Came (is_named (kind_of k) n ∷ s.past) mid
  now = (st, s.came, (NAME (kind_number k), named_told k st n mid h, sym h.after))

  terms_now : (v : List ℕ) (m : Named) → Either w New v m (look_up ds v) → nth mid.terms m.term ≡ Some (name (kind_of m.kind) m.term)
  terms_now v m (inl e) =
      subst (λ z. nth z.terms m.term ≡ Some (name (kind_of m.kind) m.term)) (sym h.after) ((calls_only_add_lem st (NAME (kind_number k))).numbers m.term _ (s.terms v m e))
  terms_now v m (inr (e, f, g)) =
      subst (λ z. nth mid.terms z.term ≡ Some (name (kind_of z.kind) z.term)) g ((numbers_stand (is_named (kind_of k) n ∷ s.past) mid now n (name (kind_of k) n)).0 (inr (inl (refl, refl))))

  agents_now : (v : List ℕ) (m : Named) → Either w New v m (look_up ds v) → is_party m.kind ≡ true → name_at mid.terms (agent_in (More w New ds) v) ≡ Some (name party m.term)
  agents_now v m (inl e) q =
      let a = agent_found 1 ds v m e q in
      let f : agent_in ds v ≡ agent_in (More w New ds) v = ap agent_number (a.1 ∙ sym (agent_more w New 1 ds v a.0 a.1)) in
      subst (λ z. name_at mid.terms z ≡ Some (name party m.term)) f (agent_stays s.past st s.came (is_named (kind_of k) n) mid now (agent_in ds v) _ (s.agents v m e q))
  agents_now v m (inr (e, f, g)) q =
      let is : is_party k ≡ true = ap (λ z. is_party z.kind) g ∙ q in
      let a : agent_in (More w New ds) v ≡ 1 + parties_in ds = ap agent_number (agent_new w New 1 ds v e is f) in
      let c = s.count in
      let b : agent_in (More w New ds) v ≡ parties s.past + 1 = omega (arith, a, c) in
      let at = (came_stable (is_named (kind_of k) n ∷ s.past) mid now).numbers.names_to (agent_in (More w New ds) v) (name party n) (inr (party_kind k is, b, refl)) in
      subst (λ z. name_at mid.terms (agent_in (More w New ds) v) ≡ Some (name party z.term)) g at

  name_sound : Sound (More w New ds) mid
  name_sound = record {
    past = is_named (kind_of k) n ∷ s.past;
    came = now;
    count = let e = s.count in let f = one_party k in let g = parties_more w New ds in omega (arith, e, f, g);
    terms = λ v m e. terms_now v m (found_more w New ds v m e);
    agents = λ v m e q. agents_now v m (found_more w New ds v m e) q;
  }

named_sound : (k : Kind) (ws : List (List ℕ)) (ds : Known) (st : State) (r : Result (Unit {0}) Refusal) (es : Known) (st' : State) → AllNamed k ws ds st r es st' → Sound ds st → Sound es st'
named_sound k [] ds st r es st' (e, f, g) s = subst (λ z. Sound z st') (sym f) (subst (Sound ds) (sym g) s)
named_sound k (w ∷ ws) ds st r es st' (inl (n, mid, h, m)) s = named_sound k ws _ mid r es st' m (name_sound k w ds st n mid h s)
named_sound k (w ∷ ws) ds st r es st' (inr (e, h, q, f)) s =
    subst (λ z. Sound z st') (sym f) (subst (Sound ds) (sym h.after) (call_sound ds st (NAME (kind_number k)) (refused_opens (perform st (NAME (kind_number k))).told e (sym h.answer)) s))

module _ (ds : Known) where
  abbrev Both : State → State → Type 0
  Both st st' = Sound ds st → Sound ds st'

  both_none : (st : State) → Both st st
  both_none st s = s

  both_on : (x y z : State) → Both x y → Both y z → Both x z
  both_on x y z f g s = g (f s)

  both_call : (st : State) (c : Call) → Nameless c → Both st (perform st c).state
  both_call st c n s = call_sound ds st c (unopened st c n) s

  pub made_sound : (t : Term) (st : State) (r : Result ℕ Refusal) (st' : State) → Made ds t st r st' → Sound ds st → Sound ds st'
  made_sound t st r st' m = made_keeps Both both_none both_on both_call ds t st r st' m

  owns_sound : (p : List ℕ) (t : Term) (st : State) (r : Result (Unit {0}) Refusal) (st' : State) → Owns ds p t st r st' → Sound ds st → Sound ds st'
  owns_sound p t st r st' m = owns_keep Both both_none both_on both_call ds p t st r st' m

  sends_sound : (p q : List ℕ) (t : Term) (st : State) (r : Result (Unit {0}) Refusal) (st' : State) → Sends ds p q t st r st' → Sound ds st → Sound ds st'
  sends_sound p q t st r st' m = sends_keep Both both_none both_on both_call ds p q t st r st' m

line_sound : (l : Line) (ds : Known) (st : State) (r : Result (Unit {0}) Refusal) (es : Known) (st' : State) → LineMade l ds st r es st' → Sound ds st → Sound es st'
line_sound blank ds st r es st' (e, f, g) s = subst (λ z. Sound z st') (sym f) (subst (Sound ds) (sym g) s)
line_sound (declares k n ns) ds st r es st' m s = named_sound k (n ∷ ns) ds st r es st' m s
line_sound (owns p t) ds st r es st' (m, f) s = subst (λ z. Sound z st') (sym f) (owns_sound ds p t st r st' m s)
line_sound (sends p q t) ds st r es st' (m, f) s = subst (λ z. Sound z st') (sym f) (sends_sound ds p q t st r st' m s)

granted_sound : (text : List ℕ) (ls : List Line) (p : ℕ) (ds : Known) (st : State) (q : ℕ) (es : Known) (st' : State) → Granted text ls p ds st q es st' → Sound ds st → Sound es st'
granted_sound text [] p ds st q es st' (e, f, g) s = subst (λ z. Sound z st') (sym f) (subst (Sound ds) (sym g) s)
granted_sound text (l ∷ ls) p ds st q es st' (m, fs, mid, lt, is, made, rest) s = granted_sound text ls m fs mid q es st' rest (line_sound l ds st (Ok tt) fs mid made s)

pub begun_sound : (text : List ℕ) (ls : List Line) (p : ℕ) (ds : Known) (st : State) → Begun text ls p ds st → Sound ds st
begun_sound text ls p ds st g = granted_sound text ls 0 [] blank_state p ds st g sound_blank

reads_sound : {text : List ℕ} {r : Result (Unit {0}) TextFault} {ds : Known} {st : State} → Reads text r ds st → Sound ds st
reads_sound {text} (whole ls ds st a h) = begun_sound text ls (length text) ds st h
reads_sound {text} (too_long a) = sound_blank
reads_sound {text} (wrong_token ls p ds st e q a h l w) = begun_sound text ls p ds st h
reads_sound {text} (refused_call ls p ds es st st' k q f a h l is made) = line_sound k ds st (Err f) es st' made (begun_sound text ls p ds st h)

pub names_stand : (ds : Known) (st : State) → Sound ds st → NamesStand ds st
names_stand ds st s w n h = record { term = s.terms w n h; agent = λ e. s.agents w n h (ap is_party e) }

pub declared_stand : DeclaredNamesStand
declared_stand text = ((λ ls p ds st h. names_stand ds st (begun_sound text ls p ds st h)), (λ r ds st h. names_stand ds st (reads_sound h)))
