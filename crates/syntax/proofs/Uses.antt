-- The mode tells what a name is for.
use Rattle.std.proofs.Common.{◌≡◌, ◌⊎◌, List, [], ◌∷◌, ◌++◌, sym, refl, ap, ◌∙◌, subst, inl, inr, append_assoc, append-nil}
use Rattle.scan.specs.declared.byte.Shape.TheVariants.{Round, Curly, Square, Angle}
use Rattle.terms.specs.declared.node.Kind.{Kind}
use Rattle.syntax.specs.declared.sign.Keyword.{Keyword}
use Rattle.syntax.specs.declared.sign.Keyword.TheVariants as words
use Rattle.syntax.specs.declared.mode.NameUse.TheVariants as uses
use Rattle.syntax.specs.declared.mode.Frame.{Frame}
use Rattle.syntax.specs.declared.mode.Frame.TheVariants.{First, Later, Content, Digested}
use Rattle.syntax.specs.declared.mode.Mode.{Mode}
use Rattle.syntax.specs.declared.mode.Mode.TheVariants.{Fresh, Kinded, Listing, Owner, Sender, Receiver, Start, AfterName, AfterSealer, AfterKey, After, Sealer, Party, EntryEnd, Done}
use Rattle.syntax.specs.declared.machine.Machine.{Machine}
use Rattle.syntax.specs.Grammar.{sign, Tok, name, keyword, opens, closes, tick, end, stray, GoesOn}
use Rattle.syntax.specs.Machine.{State, at, stuck, heads, headed, begins, follows, step, run, use_in}
use Rattle.syntax.specs.States.{stack_of, state_of, HasRead}
use Rattle.syntax.specs.Uses.{use_after}
use Rattle.syntax.proofs.Finishing.{by_name, by_opens, by_closes, by_tick, by_end}
use Rattle.syntax.proofs.Tied.{over}

-- the tokens reach into the term of a line
abbrev InTerm : List Tok → Type 0
InTerm ts = ((t : Tok) × (r : List Tok) × (ts ≡ keyword words.Own ∷ t ∷ r)) ⊎ ((t u : Tok) × (r : List Tok) × (ts ≡ keyword words.Line ∷ t ∷ u ∷ r))

-- what the tokens are in each mode
abbrev Knows : Mode → List Tok → Type 0
Knows Fresh ts = ts ≡ []
Knows Kinded ts = (k : Kind) × (ts ≡ keyword (words.Kind k) ∷ [])
Knows Listing ts = (k : Kind) × (r : List Tok) × (ts ≡ keyword (words.Kind k) ∷ r)
Knows Owner ts = ts ≡ keyword words.Own ∷ []
Knows Sender ts = ts ≡ keyword words.Line ∷ []
Knows Receiver ts = (t : Tok) × (ts ≡ keyword words.Line ∷ t ∷ [])
Knows Start ts = InTerm ts
Knows AfterName ts = InTerm ts
Knows AfterSealer ts = InTerm ts
Knows AfterKey ts = InTerm ts
Knows After ts = InTerm ts
Knows Sealer ts = InTerm ts
Knows Party ts = InTerm ts
Knows EntryEnd ts = InTerm ts
Knows Done ts = Unit {0}

-- after the tokens ts and one more
abbrev K : List Tok → Tok → State → Type 0
K ts t (at m fs) = Knows m (ts ++ t ∷ [])
K ts t stuck = Unit {0}

in_term : (ts : List Tok) (t : Tok) → InTerm ts → InTerm (ts ++ t ∷ [])
in_term ts t (inl (u, r, e)) = inl (u, r ++ t ∷ [], ap (λ z. z ++ t ∷ []) e)
in_term ts t (inr (u, v, r, e)) = inr (u, v, r ++ t ∷ [], ap (λ z. z ++ t ∷ []) e)

begins_known : (fs : List Frame) (ts : List Tok) (t : Tok) → InTerm ts → K ts t (begins fs (sign t))
begins_known fs ts t h =
    by_name (K ts) _ _ t (λ w. in_term ts (name w) h) (by_opens (K ts) _ _ Round t (in_term ts (opens Round) h) (by_opens (K ts) _ _ Curly t (in_term ts (opens Curly) h) tt))

follows_known : (fs : List Frame) (ts : List Tok) (t : Tok) → InTerm ts → K ts t (follows fs (sign t))
follows_known [] ts t h = by_end (K ts) _ _ t tt tt
follows_known (First ∷ fs) ts t h = begins_known (Later ∷ fs) ts t h
follows_known (Later ∷ fs) ts t h = by_closes (K ts) _ _ Round t (in_term ts (closes Round) h) (begins_known (Later ∷ fs) ts t h)
follows_known (Content ∷ fs) ts t h = by_closes (K ts) _ _ Curly t (in_term ts (closes Curly) h) tt
follows_known (Digested ∷ fs) ts t h = by_closes (K ts) _ _ Angle t (in_term ts (closes Angle) h) tt

head_known : (ts : List Tok) (k : Keyword) → ts ≡ [] → K ts (keyword k) (headed k)
head_known ts (words.Kind k) e = (k, ap (λ z. z ++ keyword (words.Kind k) ∷ []) e)
head_known ts words.Own e = ap (λ z. z ++ keyword words.Own ∷ []) e
head_known ts words.Line e = ap (λ z. z ++ keyword words.Line ∷ []) e

heads_known : (ts : List Tok) (t : Tok) → ts ≡ [] → K ts t (heads (sign t))
heads_known ts (name w) e = tt
heads_known ts (keyword k) e = head_known ts k e
heads_known ts (opens s) e = tt
heads_known ts (closes s) e = tt
heads_known ts tick e = tt
heads_known ts end e = tt
heads_known ts stray e = tt

key_known : (fs : List Frame) (ts : List Tok) (t : Tok) → InTerm ts → K ts t (step AfterKey fs (sign t))
key_known fs ts t h = by_tick (K ts) _ _ t (in_term ts tick h) (follows_known fs ts t h)

step_known : (m : Mode) (fs : List Frame) (ts : List Tok) (t : Tok) → Knows m ts → K ts t (step m fs (sign t))
step_known Fresh fs ts t h = heads_known ts t h
step_known Kinded fs ts t (k, e) = by_name (K ts) _ _ t (λ w. (k, name w ∷ [], ap (λ z. z ++ name w ∷ []) e)) tt
step_known Listing fs ts t (k, r, e) = by_name (K ts) _ _ t (λ w. (k, r ++ name w ∷ [], ap (λ z. z ++ name w ∷ []) e)) (by_end (K ts) _ _ t tt tt)
step_known Owner fs ts t e = by_name (K ts) _ _ t (λ w. inl (name w, [], ap (λ z. z ++ name w ∷ []) e)) tt
step_known Sender fs ts t e = by_name (K ts) _ _ t (λ w. (name w, ap (λ z. z ++ name w ∷ []) e)) tt
step_known Receiver fs ts t (u, e) = by_name (K ts) _ _ t (λ w. inr (u, name w, [], ap (λ z. z ++ name w ∷ []) e)) tt
step_known Start fs ts t h = begins_known fs ts t h
step_known AfterName fs ts t h =
    by_opens (K ts) _ _ Square t (in_term ts (opens Square) h) (by_opens (K ts) _ _ Angle t (in_term ts (opens Angle) h) (key_known fs ts t h))
step_known AfterSealer fs ts t h = by_opens (K ts) _ _ Square t (in_term ts (opens Square) h) (key_known fs ts t h)
step_known AfterKey fs ts t h = key_known fs ts t h
step_known After fs ts t h = follows_known fs ts t h
step_known Sealer fs ts t h = by_name (K ts) _ _ t (λ w. in_term ts (name w) h) tt
step_known Party fs ts t h = by_name (K ts) _ _ t (λ w. in_term ts (name w) h) tt
step_known EntryEnd fs ts t h = by_closes (K ts) _ _ Square t (in_term ts (closes Square) h) tt
step_known Done fs ts t h = tt

abbrev KnownAt : State → List Tok → Type 0
KnownAt (at m fs) ts = Knows m ts
KnownAt stuck ts = Unit {0}

after_step : (s : State) (ts : List Tok) (t : Tok) → K ts t s → KnownAt s (ts ++ t ∷ [])
after_step (at m fs) ts t h = h
after_step stuck ts t h = tt

run_known : (s : State) (ts us : List Tok) → KnownAt s ts → KnownAt (run s us) (ts ++ us)
run_known s ts [] h = subst (KnownAt s) (sym (append-nil ts)) h
run_known (at m fs) ts (t ∷ us) h =
    subst (KnownAt (run (step m fs (sign t)) us)) (append_assoc ts (t ∷ []) us)
    (run_known (step m fs (sign t)) (ts ++ t ∷ []) us (after_step (step m fs (sign t)) ts t (step_known m fs ts t h)))
run_known stuck ts (t ∷ us) h = tt

term_use : (ts : List Tok) → InTerm ts → uses.Part ≡ use_after ts
term_use ts (inl (t, r, e)) = sym (ap use_after e)
term_use ts (inr (t, u, r, e)) = sym (ap use_after e)

use_known : (m : Mode) (ts : List Tok) → Knows m ts → (m ≡ Done → ⊥) → use_in m ≡ use_after ts
use_known Fresh ts h n = sym (ap use_after h)
use_known Kinded ts (k, e) n = sym (ap use_after e)
use_known Listing ts (k, r, e) n = sym (ap use_after e)
use_known Owner ts e n = sym (ap use_after e)
use_known Sender ts e n = sym (ap use_after e)
use_known Receiver ts (t, e) n = sym (ap use_after e)
use_known Start ts h n = term_use ts h
use_known AfterName ts h n = term_use ts h
use_known AfterSealer ts h n = term_use ts h
use_known AfterKey ts h n = term_use ts h
use_known After ts h n = term_use ts h
use_known Sealer ts h n = term_use ts h
use_known Party ts h n = term_use ts h
use_known EntryEnd ts h n = term_use ts h
use_known Done ts h n = absurd (n refl)

pub named_use : (m : Machine) (ts : List Tok) → HasRead m ts → GoesOn ts → use_in m.mode ≡ use_after ts
named_use m ts h g =
    let known : KnownAt (state_of m) ts = subst (λ s. KnownAt s ts) h.reached (run_known (at Fresh []) [] ts refl) in
    use_known m.mode ts known (λ e. over ts (stack_of m) (h.reached ∙ ap (λ z. at z (stack_of m)) e) g)
