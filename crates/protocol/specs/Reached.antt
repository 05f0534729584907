-- States that came about by calls.
use Rattle.rules.specs.State.{State}
use Rattle.rules.specs.History.{History, Came}

-- some list of calls from blank leads to the state
abbrev pub Reached : State → Type 0
Reached st = ∥ ((past : History) × Came past st) ∥₁
