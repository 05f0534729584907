-- The statements that the contracts name.
use Rattle.std.specs.Prelude.{◌≡◌, ℕ, ◌<◌, ◌≤◌, length, take, Some}
use Rattle.rules.specs.State.{Step, State, Call, STEP, stepped, nth, perform}
use Rattle.rules.specs.History.{History, Came}
use Rattle.parts.specs.Limits.{WithinLimits}
use Rattle.parts.specs.Parts.{script_of, begin, StepWrote, PartyWrote}
use Rattle.parts.specs.Granted.{StepsGranted}

-- every state that came about is within the limits
abbrev pub StatesWithinLimits : Type 0
StatesWithinLimits = (past : History) (st : State) → Came past st → WithinLimits st

-- every granted step wrote its two parts, and they and the initial parts are all of the parties' scripts
pub record Wrote (st : State) : Type 0 where
  pub steps : (l : ℕ) (x : Step) → nth st.steps l ≡ Some x → StepWrote st (take l st.steps) x
  pub parties : (p : ℕ) → 1 ≤ p → p < length st.scripts → PartyWrote st p

abbrev pub StepsWrote : Type 0
StepsWrote = (past : History) (st : State) → Came past st → Wrote st

-- A granted step's parts begin where the scripts of its sender and its receiver ended, and no later call changes where they begin.
pub record Follows (st : State) : Type 0 where
  pub new : (a b n l : ℕ) → (perform st (STEP a b n)).told ≡ stepped a b n l
      → (begin (perform st (STEP a b n)).state l a ≡ length (script_of st a)) × (begin (perform st (STEP a b n)).state l b ≡ length (script_of st b))
  pub old : (c : Call) (l p : ℕ) → l < length st.steps → 1 ≤ p → p < length st.scripts → begin (perform st c).state l p ≡ begin st l p

abbrev pub PartsFollow : Type 0
PartsFollow = (past : History) (st : State) → Came past st → Follows st

-- the state's steps are those that the history granted
abbrev pub StepsAreGranted : Type 0
StepsAreGranted = (past : History) (st : State) → Came past st → StepsGranted past st
