-- What is wrong with a word as a name.
use Rattle.std.proofs.Common.{◌≡◌, ℕ, Bool, true, false, cond, List, Some, None, Option, sym, refl, ap, ◌∙◌}
use Rattle.names.specs.declared.names.Named.{Named}
use Rattle.names.specs.Names.{look_up}
use Rattle.std.specs.Prelude.{codes}
use Rattle.std.specs.Str.{bytes_eq}
use Rattle.terms.specs.declared.node.Kind.TheVariants.{Party, Number, Shared, Public, Table, Function}
use Rattle.syntax.specs.declared.sign.Keyword.{Keyword}
use Rattle.syntax.specs.declared.sign.Keyword.TheVariants as words
use Rattle.syntax.specs.declared.mode.NameUse.{NameUse}
use Rattle.syntax.specs.declared.mode.NameUse.TheVariants.{Declared, Agent, Part}
use Rattle.syntax.specs.Grammar.{sign, Tok, name, keyword, opens, closes, tick, end, stray}
use Rattle.syntax.specs.Machine.{is_name}
use Rattle.syntax.specs.Uses.{use_after}
use Rattle.syntax.specs.Words.{of_word, may_be_name}
use Rattle.line_check.specs.declared.fault.LineFault.{LineFault}
use Rattle.line_check.specs.declared.fault.LineFault.TheVariants.{Outside, Undeclared, DeclaredTwice, TooDeep}
use Rattle.line_check.specs.Faults.{is_again, is_earlier, is_party, name_fault, fault_after}

name_or : (b : Bool) (k : Keyword) (t u : Tok) → (is_name (sign t) ≡ true → t ≡ u) → is_name (sign (cond b (keyword k) t)) ≡ true → cond b (keyword k) t ≡ u
name_or true k t u f h = cc
name_or false k t u f h = f h

name_at_last : (b : Bool) (w : List ℕ) → is_name (sign (cond b (name w) stray)) ≡ true → cond b (name w) stray ≡ name w
name_at_last true w h = refl
name_at_last false w h = cc

-- a word that is a name is that name
pub word_is_name : (w : List ℕ) → is_name (sign (of_word w)) ≡ true → of_word w ≡ name w
word_is_name w =
    (name_or (bytes_eq w (codes "party")) (words.Kind Party) _ (name w)
    (name_or (bytes_eq w (codes "number")) (words.Kind Number) _ (name w)
    (name_or (bytes_eq w (codes "shared")) (words.Kind Shared) _ (name w)
    (name_or (bytes_eq w (codes "public")) (words.Kind Public) _ (name w)
    (name_or (bytes_eq w (codes "table")) (words.Kind Table) _ (name w)
    (name_or (bytes_eq w (codes "function")) (words.Kind Function) _ (name w)
    (name_or (bytes_eq w (codes "own")) (words.Own) _ (name w)
    (name_or (bytes_eq w (codes "line")) (words.Line) _ (name w)
    (name_at_last (may_be_name w) w)))))))))

-- where it does not count that a name stands earlier in its line, it alters nothing
again_counts : (u : NameUse) (k : Option Named) (b : Bool) → name_fault u k (is_again u b) ≡ name_fault u k b
again_counts Declared k b = refl
again_counts Agent k b = refl
again_counts Part k b = refl

pub named_fault : (ds : List (List ℕ × Named)) (ts : List Tok) (w : List ℕ) (u : NameUse) (b : Bool)
    → is_name (sign (of_word w)) ≡ true → u ≡ use_after ts → b ≡ is_again u (is_earlier ts w) → name_fault u (look_up ds w) b ≡ fault_after ds ts (of_word w)
named_fault ds ts w u b is e f =
    ap (name_fault u (look_up ds w)) f ∙ again_counts u (look_up ds w) (is_earlier ts w) ∙ ap (λ z. name_fault z (look_up ds w) (is_earlier ts w)) e
    ∙ ap (fault_after ds ts) (sym (word_is_name w is))

-- nothing but these is wrong with a name
abbrev pub IsOfName : Option LineFault → Type 0
IsOfName None = Unit {0}
IsOfName (Some Outside) = ⊥
IsOfName (Some Undeclared) = Unit {0}
IsOfName (Some DeclaredTwice) = Unit {0}
IsOfName (Some TooDeep) = ⊥

either_of : (b : Bool) (x y : Option LineFault) → IsOfName x → IsOfName y → IsOfName (cond b x y)
either_of true x y h k = h
either_of false x y h k = k

name_faults : (u : NameUse) (known : Option Named) (b : Bool) → IsOfName (name_fault u known b)
name_faults Declared None b = either_of b (Some DeclaredTwice) None tt tt
name_faults Declared (Some n) b = tt
name_faults Agent None b = tt
name_faults Agent (Some n) b = either_of (is_party n.kind) None (Some Undeclared) tt tt
name_faults Part None b = tt
name_faults Part (Some n) b = tt

pub faults_of_names : (ds : List (List ℕ × Named)) (ts : List Tok) (t : Tok) → IsOfName (fault_after ds ts t)
faults_of_names ds ts (name w) = name_faults (use_after ts) (look_up ds w) (is_earlier ts w)
faults_of_names ds ts (keyword k) = tt
faults_of_names ds ts (opens s) = tt
faults_of_names ds ts (closes s) = tt
faults_of_names ds ts tick = tt
faults_of_names ds ts end = tt
faults_of_names ds ts stray = tt
