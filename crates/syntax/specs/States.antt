-- The machine in the code, and what it tells of the tokens that it has read.
use Rattle.std.specs.Prelude.{◌≡◌, ◌<◌, ◌≤◌, Bool, true, false, List, [], ◌∷◌, ◌++◌, reverse, Ok, Err, Result}
use Rattle.bounded.specs.Items.{items}
use Rattle.syntax.specs.declared.mode.Frame.{Frame}
use Rattle.syntax.specs.declared.mode.Mode.TheVariants.{Fresh}
use Rattle.syntax.specs.declared.sign.Sign.{Sign}
use Rattle.syntax.specs.declared.machine.TokenFault.{TokenFault}
use Rattle.syntax.specs.declared.machine.TokenFault.TheVariants.{Outside, TooDeep}
use Rattle.syntax.specs.declared.machine.Machine.{Machine}
use Rattle.syntax.specs.Grammar.{Tok, sign, Begins, GoesOn, IsLine}
use Rattle.syntax.specs.Levels.{opened, Shallow}
use Rattle.syntax.specs.Machine.{State, at, stuck, run, depth}

-- the open brackets, the last one on top
abbrev pub stack_of : Machine → List Frame
stack_of m = reverse (items m.frames)

abbrev pub state_of : Machine → State
state_of m = at m.mode (stack_of m)

-- a step to the state s: taken if s is a state of at most 64 brackets
abbrev pub Taken : State → Result (Unit {0}) TokenFault → Machine → Type 0
Taken s (Ok x) m = (state_of m ≡ s) × (depth s ≤ 64)
Taken s (Err Outside) m = s ≡ stuck
Taken s (Err TooDeep) m = 64 < depth s

-- the same as a record, from which antt reads the state, the answer and the machine
pub record Takes (s : State) (r : Result (Unit {0}) TokenFault) (m : Machine) : Type 0 where
  pub taken : Taken s r m

-- the machine has read these tokens, which begin a line and never have more than 64 brackets open
pub record HasRead (m : Machine) (ts : List Tok) : Type 0 where
  pub reached : run (at Fresh []) ts ≡ state_of m
  pub begins : Begins ts
  pub shallow : Shallow 0 ts

-- what is said of the token t after the tokens ts: it may stand there; no line can have it there; or else it opens a 65th bracket
abbrev pub Judged : List Tok → Tok → Result (Unit {0}) TokenFault → Type 0
Judged ts t (Ok x) = Begins (ts ++ t ∷ []) × Shallow 0 (ts ++ t ∷ [])
Judged ts t (Err Outside) = Begins (ts ++ t ∷ []) → ⊥
Judged ts t (Err TooDeep) = Begins (ts ++ t ∷ []) × (opened 0 (ts ++ t ∷ []) ≡ 65)

-- whatever the machine has read, and whichever token has this sign
abbrev pub Steps : Machine → Sign → Result (Unit {0}) TokenFault → Machine → Type 0
Steps m s (Ok x) n = (ts : List Tok) (t : Tok) → HasRead m ts → s ≡ sign t → HasRead n (ts ++ t ∷ [])
Steps m s (Err e) n = (ts : List Tok) (t : Tok) → HasRead m ts → s ≡ sign t → Judged ts t (Err e)

-- the tokens that were read are a whole line, or more follow
abbrev pub Tells : Machine → Bool → Type 0
Tells m true = (ts : List Tok) → HasRead m ts → IsLine ts
Tells m false = (ts : List Tok) → HasRead m ts → GoesOn ts
