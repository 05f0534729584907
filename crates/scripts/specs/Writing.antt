-- What a rule writes into a script, and when that is refused.
use Rattle.std.specs.Prelude.{◌≡◌, ℕ, ◌<◌, Bool, true, false, cond, ◌⊎◌, List, length, Some, None, Ok, Err, Option, Result, slice_index_or}
use Rattle.deduction.specs.Term.{Term, opener, In}
use Rattle.terms.specs.declared.node.TermNode.{TermNode}
use Rattle.terms.specs.Outcome.{Opens}
use Rattle.terms.specs.Tree.{tree}
use Rattle.rules.specs.Script.{Op, LEFT, RIGHT, Script as RuleScript, line, ◌then◌, held}
use Rattle.rules.specs.Compose.{Composed, composed_at, compose, composes}
use Rattle.rules.specs.Saturate.{opened}
use Rattle.scripts.specs.declared.instruction.ScriptError.{ScriptError}
use Rattle.scripts.specs.declared.instruction.ScriptError.TheVariants.{Full, Missing}
use Rattle.scripts.specs.declared.instruction.Taking.{Taking}
use Rattle.scripts.specs.declared.instruction.Taking.TheVariants.{LeftHalf, RightHalf, Content}
use Rattle.scripts.specs.declared.script.Script.{Script}
use Rattle.scripts.specs.Composing.{view, NamesTerms}
use Rattle.scripts.specs.View.{written}

-- w is written, or it is longer than 512 and then what is written is of no concern
abbrev pub Writes : {A : Type 0} → List TermNode → RuleScript → Result A ScriptError → Script → Type 0
Writes ts w (Ok x) s' = (view ts s' ≡ w) × NamesTerms ts s'
Writes ts w (Err Full) s' = 512 < length w
Writes ts w (Err (Missing m)) s' = ⊥

-- Writing by a rule that makes w of a script, whole: w is written; refused exactly where w is longer than 512, and then nothing is.
abbrev pub Wrote : {A : Type 0} → List TermNode → Script → RuleScript → Result A ScriptError → Script → Type 0
Wrote ts s w (Ok x) s' = (view ts s' ≡ w) × NamesTerms ts s'
Wrote ts s w (Err Full) s' = (512 < length w) × (written s' ≡ written s)
Wrote ts s w (Err (Missing m)) s' = ⊥

-- an answered slot makes the script longer
abbrev pub Longer : {A : Type 0} → Script → Result A ScriptError → Script → Type 0
Longer s (Ok x) s' = length (written s) < length (written s')
Longer s (Err e) s' = Unit {0}

-- for each term whether it can be composed
abbrev pub Judged : List TermNode → RuleScript → List Bool → Type 0
Judged ts v js = (i : ℕ) → i < length ts → slice_index_or js i false ≡ composes v (tree ts i)

-- the script after what is taken
abbrev pub taken : List TermNode → RuleScript → Taking → Option RuleScript
taken ts v (LeftHalf n a) = Some (v then line (LEFT n) (Some (tree ts a)))
taken ts v (RightHalf n b) = Some (v then line (RIGHT n) (Some (tree ts b)))
taken ts v (Content n o c) = opened n (tree ts c) (compose v (tree ts o))

-- the terms that are taken or needed for it are among the first n
abbrev pub TakingKnown : ℕ → Taking → Type 0
TakingKnown n (LeftHalf s a) = a < n
TakingKnown n (RightHalf s b) = b < n
TakingKnown n (Content s o c) = (o < n) × (c < n)

-- the half of a pair that is taken, where x and y say whether the left and the right half can be composed
abbrev pub half_taken : ℕ → ℕ → ℕ → Bool → Bool → Option Taking
half_taken n a b x y = cond x (cond y None (Some (RightHalf n b))) (Some (LeftHalf n a))

-- the content of a sealed term is taken where it cannot be composed and its opener is a term that can
abbrev pub ContentTaken : List TermNode → List Bool → ℕ → ℕ → ℕ → Option Taking → Type 0
ContentTaken ts js n c k None =
    (slice_index_or js c false ≡ true) ⊎ (Opens ts k None ⊎ ((o : ℕ) × Opens ts k (Some o) × (slice_index_or js o false ≡ false)))
ContentTaken ts js n c k (Some t) =
    (slice_index_or js c false ≡ false) × ((o : ℕ) × Opens ts k (Some o) × (slice_index_or js o false ≡ true) × (t ≡ Content n o c))

-- every held term is one of the table's
abbrev pub HeldIn : List TermNode → RuleScript → Type 0
HeldIn ts v = (u : Term) → In u (held v) → (m : ℕ) × (m < length ts) × (tree ts m ≡ u)

-- what is taken next leads to the script o; nothing exactly where there is none
abbrev pub Takes : List TermNode → RuleScript → Option RuleScript → Option Taking → Type 0
Takes ts v o None = o ≡ None
Takes ts v o (Some t) = (o ≡ taken ts v t) × TakingKnown (length ts) t × ((w : RuleScript) × (o ≡ Some w))

-- the script after an instruction whose slot holds nothing
abbrev pub brought : RuleScript → Op → RuleScript
brought v op = v then line op None

-- composing the opener of a key: the slot of it, or none where it cannot be composed
abbrev pub Unlocks : List TermNode → Script → ℕ → Result (Option ℕ) ScriptError → Script → Type 0
Unlocks ts s key (Ok None) s' = (compose (view ts s) (opener (tree ts key)) ≡ None) × (s' ≡ s)
Unlocks ts s key (Ok (Some n)) s' = (compose (view ts s) (opener (tree ts key)) ≡ Some (composed_at n (view ts s'))) × NamesTerms ts s'
Unlocks ts s key (Err Full) s' = (c : Composed) × (compose (view ts s) (opener (tree ts key)) ≡ Some c) × (512 < length c.script)
Unlocks ts s key (Err (Missing m)) s' = ⊥
