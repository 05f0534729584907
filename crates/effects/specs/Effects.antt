-- What an effect on one agent's script answers.
use Rattle.std.specs.Prelude.{◌≡◌, ◌<◌, List, length, Ok, Err, Result}
use Rattle.terms.specs.declared.node.TermNode.{TermNode}
use Rattle.rules.specs.Script.{Script as RuleScript}
use Rattle.scripts.specs.declared.instruction.ScriptError.{ScriptError}
use Rattle.scripts.specs.declared.instruction.ScriptError.TheVariants.{Full, Missing}
use Rattle.scripts.specs.declared.script.Script.{Script}
use Rattle.scripts.specs.Composing.{view, NamesTerms}

-- the script after an effect that makes w by the rules; refused exactly where w is longer than 512
abbrev pub Effects : List TermNode → RuleScript → Result Script ScriptError → Type 0
Effects ts w (Ok s) = (view ts s ≡ w) × NamesTerms ts s
Effects ts w (Err Full) = 512 < length w
Effects ts w (Err (Missing m)) = ⊥
