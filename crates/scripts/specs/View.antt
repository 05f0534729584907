-- What a script holds, and what writing an instruction does.
use Rattle.std.specs.Prelude.{◌≡◌, ℕ, ◌<◌, List, [], ◌∷◌, ◌++◌, length, Ok, Err, Result}
use Rattle.bounded.specs.Items.{items}
use Rattle.scripts.specs.declared.instruction.Line.{Line}
use Rattle.scripts.specs.declared.instruction.ScriptError.{ScriptError}
use Rattle.scripts.specs.declared.instruction.ScriptError.TheVariants.{Full, Missing}
use Rattle.scripts.specs.declared.script.Script.{Script}

-- the instructions in order; what unused places hold is no part of it
abbrev pub written : Script → List Line
written s = items s.lines

-- one instruction more under the next slot, or none past 512 and nothing altered
abbrev pub Pushed : Script → Line → Result ℕ ScriptError → Script → Type 0
Pushed s l (Ok n) s' = (n ≡ length (written s)) × (n < 512) × (written s' ≡ written s ++ (l ∷ []))
Pushed s l (Err Full) s' = (length (written s) ≡ 512) × (s' ≡ s)
Pushed s l (Err (Missing m)) s' = ⊥
