-- The machine reads every line of the grammar to its end.
use Rattle.std.proofs.Common.{◌≡◌, ℕ, List, [], ◌∷◌, ◌++◌, sym, refl, ap, ◌∙◌}
use Rattle.syntax.specs.Grammar.{sign, Tok, name, keyword, opens, closes, tick, end, stray, Key, named, entry, mate, Term, key, tuple, sealed, digest, Parts, final, more, key_tokens, term_tokens, part_tokens, name_tokens}
use Rattle.scan.specs.declared.byte.Shape.TheVariants.{Round, Curly, Square, Angle}
use Rattle.syntax.specs.declared.mode.Frame.{Frame}
use Rattle.syntax.specs.declared.mode.Frame.TheVariants.{First, Later, Content, Digested}
use Rattle.syntax.specs.declared.mode.Mode.{Mode}
use Rattle.syntax.specs.declared.mode.Mode.TheVariants.{Listing, Start, AfterName, AfterSealer, AfterKey, After, Sealer, Done}
use Rattle.syntax.specs.Machine.{State, at, stuck, run, step}

-- the tokens go on after a whole key
abbrev pub calm : Tok → Type 0
calm (name w) = Unit {0}
calm (keyword k) = Unit {0}
calm (opens Round) = Unit {0}
calm (opens Curly) = Unit {0}
calm (opens Square) = ⊥
calm (opens Angle) = ⊥
calm (closes s) = Unit {0}
calm tick = ⊥
calm end = Unit {0}
calm stray = Unit {0}

abbrev pub Calm : List Tok → Type 0
Calm [] = ⊥
Calm (t ∷ r) = calm t

-- the tokens begin a term
abbrev pub starter : Tok → Type 0
starter (name w) = Unit {0}
starter (keyword k) = ⊥
starter (opens Round) = Unit {0}
starter (opens Curly) = Unit {0}
starter (opens Square) = ⊥
starter (opens Angle) = ⊥
starter (closes s) = ⊥
starter tick = ⊥
starter end = ⊥
starter stray = ⊥

abbrev pub Starts : List Tok → Type 0
Starts [] = ⊥
Starts (t ∷ r) = starter t

starter_calm : (t : Tok) → starter t → calm t
starter_calm (name w) h = tt
starter_calm (keyword k) h = tt
starter_calm (opens Round) h = tt
starter_calm (opens Curly) h = tt
starter_calm (opens Square) h = h
starter_calm (opens Angle) h = h
starter_calm (closes s) h = tt
starter_calm tick h = h
starter_calm end h = tt
starter_calm stray h = tt

pub starts_calm : (r : List Tok) → Starts r → Calm r
starts_calm [] h = h
starts_calm (t ∷ r) h = starter_calm t h

key_starts : (k : Key) (r : List Tok) → Starts (key_tokens k r)
key_starts (named n) r = tt
key_starts (entry t a) r = tt
key_starts (mate k) r = key_starts k (tick ∷ r)

term_starts : (t : Term) (r : List Tok) → Starts (term_tokens t r)
term_starts (key k) r = key_starts k r
term_starts (tuple t ps) r = tt
term_starts (sealed t k) r = tt
term_starts (digest f t) r = tt

pub parts_start : (ps : Parts) (r : List Tok) → Starts (part_tokens ps r)
parts_start (final t) r = term_starts t (closes Round ∷ r)
parts_start (more t ps) r = term_starts t (part_tokens ps r)

-- where the machine is after a key
abbrev ending : Key → Mode
ending (named n) = AfterName
ending (entry t a) = AfterKey
ending (mate k) = AfterKey

abbrev seal_ending : Key → Mode
seal_ending (named n) = AfterSealer
seal_ending (entry t a) = AfterKey
seal_ending (mate k) = AfterKey

ticked : (k : Key) (fs : List Frame) → step (ending k) fs (sign tick) ≡ at AfterKey fs
ticked (named n) fs = refl
ticked (entry t a) fs = refl
ticked (mate k) fs = refl

seal_ticked : (k : Key) (fs : List Frame) → step (seal_ending k) fs (sign tick) ≡ at AfterKey fs
seal_ticked (named n) fs = refl
seal_ticked (entry t a) fs = refl
seal_ticked (mate k) fs = refl

reads_key : (k : Key) (fs : List Frame) (r : List Tok) → run (at Start fs) (key_tokens k r) ≡ run (at (ending k) fs) r
reads_key (named n) fs r = refl
reads_key (entry t a) fs r = refl
reads_key (mate k) fs r = reads_key k fs (tick ∷ r) ∙ ap (λ s. run s r) (ticked k fs)

reads_sealer : (k : Key) (fs : List Frame) (r : List Tok) → run (at Sealer fs) (key_tokens k r) ≡ run (at (seal_ending k) fs) r
reads_sealer (named n) fs r = refl
reads_sealer (entry t a) fs r = refl
reads_sealer (mate k) fs r = reads_sealer k fs (tick ∷ r) ∙ ap (λ s. run s r) (seal_ticked k fs)

calm_name : (t : Tok) (fs : List Frame) → calm t → step AfterName fs (sign t) ≡ step After fs (sign t)
calm_name (name w) fs h = refl
calm_name (keyword k) fs h = refl
calm_name (opens Round) fs h = refl
calm_name (opens Curly) fs h = refl
calm_name (opens Square) fs h = absurd h
calm_name (opens Angle) fs h = absurd h
calm_name (closes s) fs h = refl
calm_name tick fs h = absurd h
calm_name end fs h = refl
calm_name stray fs h = refl

calm_sealer : (t : Tok) (fs : List Frame) → calm t → step AfterSealer fs (sign t) ≡ step After fs (sign t)
calm_sealer (name w) fs h = refl
calm_sealer (keyword k) fs h = refl
calm_sealer (opens Round) fs h = refl
calm_sealer (opens Curly) fs h = refl
calm_sealer (opens Square) fs h = absurd h
calm_sealer (opens Angle) fs h = absurd h
calm_sealer (closes s) fs h = refl
calm_sealer tick fs h = absurd h
calm_sealer end fs h = refl
calm_sealer stray fs h = refl

calm_key : (t : Tok) (fs : List Frame) → calm t → step AfterKey fs (sign t) ≡ step After fs (sign t)
calm_key (name w) fs h = refl
calm_key (keyword k) fs h = refl
calm_key (opens s) fs h = refl
calm_key (closes s) fs h = refl
calm_key tick fs h = absurd h
calm_key end fs h = refl
calm_key stray fs h = refl

settles : (k : Key) (fs : List Frame) (r : List Tok) → Calm r → run (at (ending k) fs) r ≡ run (at After fs) r
settles k fs [] h = absurd h
settles (named n) fs (t ∷ r) h = ap (λ s. run s r) (calm_name t fs h)
settles (entry a b) fs (t ∷ r) h = ap (λ s. run s r) (calm_key t fs h)
settles (mate k) fs (t ∷ r) h = ap (λ s. run s r) (calm_key t fs h)

seal_settles : (k : Key) (fs : List Frame) (r : List Tok) → Calm r → run (at (seal_ending k) fs) r ≡ run (at After fs) r
seal_settles k fs [] h = absurd h
seal_settles (named n) fs (t ∷ r) h = ap (λ s. run s r) (calm_sealer t fs h)
seal_settles (entry a b) fs (t ∷ r) h = ap (λ s. run s r) (calm_key t fs h)
seal_settles (mate k) fs (t ∷ r) h = ap (λ s. run s r) (calm_key t fs h)

-- a further part of a tuple
second : (fs : List Frame) (r : List Tok) → Starts r → run (at After (First ∷ fs)) r ≡ run (at Start (Later ∷ fs)) r
second fs [] h = absurd h
second fs (t ∷ r) h = refl

further : (fs : List Frame) (r : List Tok) → Starts r → run (at After (Later ∷ fs)) r ≡ run (at Start (Later ∷ fs)) r
further fs [] h = absurd h
further fs (name w ∷ r) h = refl
further fs (keyword k ∷ r) h = refl
further fs (opens s ∷ r) h = refl
further fs (closes s ∷ r) h = absurd h
further fs (tick ∷ r) h = refl
further fs (end ∷ r) h = refl
further fs (stray ∷ r) h = refl

mutual
  pub reads : (t : Term) (fs : List Frame) (r : List Tok) → Calm r → run (at Start fs) (term_tokens t r) ≡ run (at After fs) r
  reads (key k) fs r h = reads_key k fs r ∙ settles k fs r h
  reads (tuple t ps) fs r h =
      reads t (First ∷ fs) (part_tokens ps r) (starts_calm (part_tokens ps r) (parts_start ps r))
      ∙ second fs (part_tokens ps r) (parts_start ps r) ∙ reads_parts ps fs r
  reads (sealed t k) fs r h =
      reads t (Content ∷ fs) (closes Curly ∷ key_tokens k r) tt ∙ reads_sealer k fs r ∙ seal_settles k fs r h
  reads (digest f t) fs r h = reads t (Digested ∷ fs) (closes Angle ∷ r) tt

  pub reads_parts : (ps : Parts) (fs : List Frame) (r : List Tok) → run (at Start (Later ∷ fs)) (part_tokens ps r) ≡ run (at After fs) r
  reads_parts (final t) fs r = reads t (Later ∷ fs) (closes Round ∷ r) tt
  reads_parts (more t ps) fs r =
      reads t (Later ∷ fs) (part_tokens ps r) (starts_calm (part_tokens ps r) (parts_start ps r))
      ∙ further fs (part_tokens ps r) (parts_start ps r) ∙ reads_parts ps fs r

pub reads_names : (ns : List (List ℕ)) → run (at Listing []) (name_tokens ns (end ∷ [])) ≡ at Done []
reads_names [] = refl
reads_names (n ∷ ns) = reads_names ns

pub run_stuck : (ts : List Tok) → run stuck ts ≡ stuck
run_stuck [] = refl
run_stuck (t ∷ ts) = refl

pub run_append : (s : State) (ts us : List Tok) → run s (ts ++ us) ≡ run (run s ts) us
run_append s [] us = refl
run_append (at m fs) (t ∷ ts) us = run_append (step m fs (sign t)) ts us
run_append stuck (t ∷ ts) us = sym (run_stuck us)
