use Rattle.std.proofs.Common.{◌-◌, length}
use Rattle.terms.specs.Listed.{listed}
use Rattle.rules.specs.Script.{Script as RuleScript}
use Rattle.rules.specs.Saturate.{Saturates}
use Rattle.scripts.specs.Composing.{view, NamesTerms, Grows}
use Rattle.scripts.specs.View.{written}
use Rattle.scripts.proofs.script.Script.take_all.Given as goal

-- whatever saturates the script as it is now saturates it as it was
abbrev pub invariant-loop-taking : goal.invariant-loop-taking
invariant-loop-taking l = record {
  grows : Grows l.initial.self l.self;
  saturates : NamesTerms (listed l.terms) l.initial.self
      → NamesTerms (listed l.terms) l.self
      × ((u : RuleScript) → Saturates (view (listed l.terms) l.self) u → Saturates (view (listed l.terms) l.initial.self) u);
}

abbrev pub decreases-loop-taking : goal.decreases-loop-taking
decreases-loop-taking l = 512 - length (written l.self)
