-- The brackets that the machine has open are those that the tokens open.
use Rattle.std.proofs.Common.{◌≡◌, ℕ, ◌+◌, List, [], ◌∷◌, length, sym, refl, ap, ◌∙◌, subst, arith}
use Rattle.scan.specs.declared.byte.Shape.TheVariants.{Round, Curly, Square, Angle}
use Rattle.syntax.specs.declared.sign.Keyword.{Keyword}
use Rattle.syntax.specs.declared.sign.Keyword.TheVariants as words
use Rattle.syntax.specs.declared.mode.Frame.{Frame}
use Rattle.syntax.specs.declared.mode.Frame.TheVariants.{First, Later, Content, Digested}
use Rattle.syntax.specs.declared.mode.Mode.{Mode}
use Rattle.syntax.specs.declared.mode.Mode.TheVariants.{Fresh, Kinded, Listing, Owner, Sender, Receiver, Start, AfterName, AfterSealer, AfterKey, After, Sealer, Party, EntryEnd, Done}
use Rattle.syntax.specs.Grammar.{sign, Tok, name, keyword, opens, closes, tick, end, stray}
use Rattle.syntax.specs.Machine.{State, at, stuck, heads, headed, begins, follows, step, run}
use Rattle.syntax.specs.Machine.{depth}
use Rattle.syntax.specs.Levels.{level, opened}
use Rattle.syntax.proofs.Finishing.{by_name, by_opens, by_closes, by_tick, by_end}

-- before a term no bracket is open
abbrev pub Sane : Mode → List Frame → Type 0
Sane Fresh fs = fs ≡ []
Sane Kinded fs = fs ≡ []
Sane Listing fs = fs ≡ []
Sane Owner fs = fs ≡ []
Sane Sender fs = fs ≡ []
Sane Receiver fs = fs ≡ []
Sane Start fs = Unit {0}
Sane AfterName fs = Unit {0}
Sane AfterSealer fs = Unit {0}
Sane AfterKey fs = Unit {0}
Sane After fs = Unit {0}
Sane Sealer fs = Unit {0}
Sane Party fs = Unit {0}
Sane EntryEnd fs = Unit {0}
Sane Done fs = Unit {0}

abbrev pub Levels : ℕ → State → Type 0
Levels n (at m fs) = (depth (at m fs) ≡ n) × Sane m fs
Levels n stuck = Unit {0}

abbrev Q : ℕ → Tok → State → Type 0
Q n t s = Levels (level n t) s

begins_level : (fs : List Frame) (n : ℕ) (t : Tok) → length fs ≡ n → Q n t (begins fs (sign t))
begins_level fs n t e =
    by_name (Q n) _ _ t (λ w. (omega arith, tt))
    (by_opens (Q n) _ _ Round t (omega arith, tt) (by_opens (Q n) _ _ Curly t (omega arith, tt) tt))

follows_level : (fs : List Frame) (n : ℕ) (t : Tok) → length fs ≡ n → Q n t (follows fs (sign t))
follows_level [] n t e = by_end (Q n) _ _ t (omega arith, tt) tt
follows_level (First ∷ fs) n t e = begins_level (Later ∷ fs) n t e
follows_level (Later ∷ fs) n t e = by_closes (Q n) _ _ Round t (omega arith, tt) (begins_level (Later ∷ fs) n t e)
follows_level (Content ∷ fs) n t e = by_closes (Q n) _ _ Curly t (omega arith, tt) tt
follows_level (Digested ∷ fs) n t e = by_closes (Q n) _ _ Angle t (omega arith, tt) tt

head_level : (k : Keyword) → Levels 0 (headed k)
head_level (words.Kind k) = (refl, refl)
head_level words.Own = (refl, refl)
head_level words.Line = (refl, refl)

heads_level : (t : Tok) → Q 0 t (heads (sign t))
heads_level (name w) = tt
heads_level (keyword k) = head_level k
heads_level (opens s) = tt
heads_level (closes s) = tt
heads_level tick = tt
heads_level end = (refl, tt)
heads_level stray = tt

key_level : (fs : List Frame) (n : ℕ) (t : Tok) → length fs ≡ n → Q n t (step AfterKey fs (sign t))
key_level fs n t e = by_tick (Q n) _ _ t (omega arith, tt) (follows_level fs n t e)

sealer_level : (fs : List Frame) (n : ℕ) (t : Tok) → length fs ≡ n → Q n t (step AfterSealer fs (sign t))
sealer_level fs n t e = by_opens (Q n) _ _ Square t (omega arith, tt) (key_level fs n t e)

name_level : (fs : List Frame) (n : ℕ) (t : Tok) → length fs ≡ n → Q n t (step AfterName fs (sign t))
name_level fs n t e = by_opens (Q n) _ _ Square t (omega arith, tt) (by_opens (Q n) _ _ Angle t (omega arith, tt) (key_level fs n t e))

pub step_level : (m : Mode) (fs : List Frame) (n : ℕ) (t : Tok) → depth (at m fs) ≡ n → Sane m fs → Q n t (step m fs (sign t))
step_level Fresh fs n t e s = subst (λ k. Q k t (heads (sign t))) (sym (ap (λ z. length z + 0) s) ∙ e) (heads_level t)
step_level Kinded fs n t e s = let z = ap length s in by_name (Q n) _ _ t (λ w. (omega arith, refl)) tt
step_level Listing fs n t e s = let z = ap length s in by_name (Q n) _ _ t (λ w. (omega arith, refl)) (by_end (Q n) _ _ t (omega arith, tt) tt)
step_level Owner fs n t e s = let z = ap length s in by_name (Q n) _ _ t (λ w. (omega arith, tt)) tt
step_level Sender fs n t e s = let z = ap length s in by_name (Q n) _ _ t (λ w. (omega arith, refl)) tt
step_level Receiver fs n t e s = let z = ap length s in by_name (Q n) _ _ t (λ w. (omega arith, tt)) tt
step_level Start fs n t e s = begins_level fs n t (omega arith)
step_level AfterName fs n t e s = name_level fs n t (omega arith)
step_level AfterSealer fs n t e s = sealer_level fs n t (omega arith)
step_level AfterKey fs n t e s = key_level fs n t (omega arith)
step_level After fs n t e s = follows_level fs n t (omega arith)
step_level Sealer fs n t e s = by_name (Q n) _ _ t (λ w. (omega arith, tt)) tt
step_level Party fs n t e s = by_name (Q n) _ _ t (λ w. (omega arith, tt)) tt
step_level EntryEnd fs n t e s = by_closes (Q n) _ _ Square t (omega arith, tt) tt
step_level Done fs n t e s = tt

-- the brackets open after some tokens
pub run_level : (s : State) (ts : List Tok) (n : ℕ) → Levels n s → Levels (opened n ts) (run s ts)
run_level s [] n h = h
run_level (at m fs) (t ∷ ts) n h = run_level (step m fs (sign t)) ts (level n t) (step_level m fs n t h.0 h.1)
run_level stuck (t ∷ ts) n h = tt
