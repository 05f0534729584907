-- Numbers that stand in scripts and steps are numbers of terms.
use Rattle.std.proofs.Common.{◌≡◌, ℕ, zero, suc, ◌<◌, Bool, true, false, ◌&&◌, ltb, List, [], ◌∷◌, ◌++◌, length, set, Some, None, Option, sym, refl, ap, ◌∙◌, arith, ltb-true, lt-ltb}
use mathlib.Core.Bool.{false≢true}
use Rattle.terms.specs.Listed.{listed}
use Rattle.scripts.specs.declared.instruction.Instruction.{Instruction}
use Rattle.scripts.specs.declared.instruction.Instruction.TheVariants.{Given, Fresh, From, To, Recv, Mate, Left, Right, Join, Seal, Digest, Entry, Open, Same, Send}
use Rattle.scripts.specs.declared.instruction.Line.{Line}
use Rattle.scripts.specs.Composing.{Below, OpBelow, AllNamed}
use Rattle.rules.specs.State.{nth}
use Rattle.rules.proofs.Find.{some_none}
use Rattle.rules.proofs.Nth.{some_is}
use Rattle.protocol.specs.declared.protocol.Protocol.{Protocol}
use Rattle.protocol.specs.declared.step.Step.{Step}
use Rattle.protocol.specs.States.{holds_known, op_known, lines_known, scripts_known, steps_known}
use Rattle.protocol.specs.View.{lines_of, steps_of}

pub and_first : (a b : Bool) → (a && b) ≡ true → a ≡ true
and_first true b e = refl
and_first false b e = e

pub and_second : (a b : Bool) → (a && b) ≡ true → b ≡ true
and_second true b e = e
and_second false b e = absurd (false≢true e)

pub and_both : (a b : Bool) → a ≡ true → b ≡ true → (a && b) ≡ true
and_both true b e f = f
and_both false b e f = e

holds_to : (n : ℕ) (h : Option ℕ) → holds_known n h ≡ true → Below n h
holds_to n None e = tt
holds_to n (Some t) e = ltb-true t n e

holds_from : (n : ℕ) (h : Option ℕ) → Below n h → holds_known n h ≡ true
holds_from n None b = refl
holds_from n (Some t) b = lt-ltb t n b

op_to : (n : ℕ) (o : Instruction) → op_known n o ≡ true → OpBelow n o
op_to n (Given t) e = ltb-true t n e
op_to n (Fresh t) e = ltb-true t n e
op_to n (From t) e = ltb-true t n e
op_to n (To t) e = ltb-true t n e
op_to n (Recv t) e = ltb-true t n e
op_to n (Mate i) e = tt
op_to n (Left i) e = tt
op_to n (Right i) e = tt
op_to n (Join i j) e = tt
op_to n (Seal i j) e = tt
op_to n (Digest i j) e = tt
op_to n (Entry i j) e = tt
op_to n (Open i j) e = tt
op_to n (Same i j) e = tt
op_to n (Send i j) e = tt

op_from : (n : ℕ) (o : Instruction) → OpBelow n o → op_known n o ≡ true
op_from n (Given t) b = lt-ltb t n b
op_from n (Fresh t) b = lt-ltb t n b
op_from n (From t) b = lt-ltb t n b
op_from n (To t) b = lt-ltb t n b
op_from n (Recv t) b = lt-ltb t n b
op_from n (Mate i) b = refl
op_from n (Left i) b = refl
op_from n (Right i) b = refl
op_from n (Join i j) b = refl
op_from n (Seal i j) b = refl
op_from n (Digest i j) b = refl
op_from n (Entry i j) b = refl
op_from n (Open i j) b = refl
op_from n (Same i j) b = refl
op_from n (Send i j) b = refl

pub known_lines : (n : ℕ) (ls : List Line) → lines_known n ls ≡ true → AllNamed n ls
known_lines n [] e = tt
known_lines n (l ∷ ls) e =
    let a = and_first (holds_known n l.holds && op_known n l.op) (lines_known n ls) e in (
      (holds_to n l.holds (and_first (holds_known n l.holds) (op_known n l.op) a), op_to n l.op (and_second (holds_known n l.holds) (op_known n l.op) a)),
      known_lines n ls (and_second (holds_known n l.holds && op_known n l.op) (lines_known n ls) e),
    )

pub lines_known_lem : (n : ℕ) (ls : List Line) → AllNamed n ls → lines_known n ls ≡ true
lines_known_lem n [] k = refl
lines_known_lem n (l ∷ ls) k =
    and_both (holds_known n l.holds && op_known n l.op) (lines_known n ls)
    (and_both (holds_known n l.holds) (op_known n l.op) (holds_from n l.holds k.0.0) (op_from n l.op k.0.1)) (lines_known_lem n ls k.1)

-- the lines of one script
pub script_known : (n : ℕ) (ps : List (List Line)) (p : ℕ) (ls : List Line) → scripts_known n ps ≡ true → nth ps p ≡ Some ls → AllNamed n ls
script_known n [] p ls e q = absurd (some_none None q refl)
script_known n (x ∷ ps) zero ls e q = known_lines n ls (ap (lines_known n) (sym (some_is q)) ∙ and_first (lines_known n x) (scripts_known n ps) e)
script_known n (x ∷ ps) (suc p) ls e q = script_known n ps p ls (and_second (lines_known n x) (scripts_known n ps) e) q

-- another script in one place
pub set_known : (n : ℕ) (ps : List (List Line)) (p : ℕ) (ls : List Line) → scripts_known n ps ≡ true → AllNamed n ls → scripts_known n (set ps p ls) ≡ true
set_known n [] p ls e k = refl
set_known n (x ∷ ps) zero ls e k = and_both (lines_known n ls) (scripts_known n ps) (lines_known_lem n ls k) (and_second (lines_known n x) (scripts_known n ps) e)
set_known n (x ∷ ps) (suc p) ls e k =
    and_both (lines_known n x) (scripts_known n (set ps p ls)) (and_first (lines_known n x) (scripts_known n ps) e) (set_known n ps p ls (and_second (lines_known n x) (scripts_known n ps) e) k)

-- one step more
pub step_known : (n : ℕ) (ss : List Step) (s : Step) → steps_known n ss ≡ true → s.message < n → steps_known n (ss ++ (s ∷ [])) ≡ true
step_known n [] s e l = and_both (ltb s.message n) true (lt-ltb s.message n l) refl
step_known n (x ∷ ss) s e l =
    and_both (ltb x.message n) (steps_known n (ss ++ (s ∷ []))) (and_first (ltb x.message n) (steps_known n ss) e) (step_known n ss s (and_second (ltb x.message n) (steps_known n ss) e) l)

pub message_known : (n : ℕ) (ss : List Step) (i : ℕ) (s : Step) → steps_known n ss ≡ true → nth ss i ≡ Some s → s.message < n
message_known n [] i s e q = absurd (some_none None q refl)
message_known n (x ∷ ss) zero s e q = let l = ltb-true x.message n (and_first (ltb x.message n) (steps_known n ss) e) in omega (arith, l, ap (λ y. y.message) (some_is q))
message_known n (x ∷ ss) (suc i) s e q = message_known n ss i s (and_second (ltb x.message n) (steps_known n ss) e) q

module _ (c : Protocol) where
  pub all_scripts : scripts_known (length (listed c.terms)) (lines_of c) ≡ true
  all_scripts = and_first (scripts_known (length (listed c.terms)) (lines_of c)) (steps_known (length (listed c.terms)) (steps_of c)) c.known

  pub all_steps : steps_known (length (listed c.terms)) (steps_of c) ≡ true
  all_steps = and_second (scripts_known (length (listed c.terms)) (lines_of c)) (steps_known (length (listed c.terms)) (steps_of c)) c.known
