-- How large a state becomes.
use Rattle.std.specs.Prelude.{◌≡◌, ℕ, ◌≤◌, length, Some}
use Rattle.rules.specs.Script.{Script}
use Rattle.rules.specs.State.{State, nth}

-- at most 512 terms, 8 scripts of at most 512 instructions each, and 64 steps; the listener's script is always there
pub record WithinLimits (st : State) : Type 0 where
  pub terms : length st.terms ≤ 512
  pub listener : 1 ≤ length st.scripts
  pub agents : length st.scripts ≤ 8
  pub steps : length st.steps ≤ 64
  pub scripts : (p : ℕ) (s : Script) → nth st.scripts p ≡ Some s → length s ≤ 512
