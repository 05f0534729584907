use Rattle.std.proofs.Common.{◌≡◌, ◌-◌, length}
use Rattle.terms.specs.Listed.{listed}
use Rattle.rules.specs.Effects.{freshens}
use Rattle.scripts.specs.Composing.{view, NamesTerms}
use Rattle.effects.specs.Sending.{marked_from, marked_trees, MatesKnown}
use Rattle.effects.proofs.fresh.freshen_all.Given as goal

-- the names that are left make of the script as it is now what all make of it as it was
abbrev pub invariant-loop-name : goal.invariant-loop-name
invariant-loop-name l =
    NamesTerms (listed l.terms) l.initial.script → MatesKnown (listed l.terms) l.fresh
    → NamesTerms (listed l.terms) l.script
    × (freshens (view (listed l.terms) l.initial.script) (marked_trees (listed l.terms) l.fresh)
    ≡ freshens (view (listed l.terms) l.script) (marked_from (listed l.terms) l.fresh l.name (length (listed l.terms) - l.name)))
