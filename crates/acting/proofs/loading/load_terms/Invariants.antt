use Rattle.std.proofs.Common.{length, take, drop}
use Rattle.terms.specs.Listed.{listed}
use Rattle.acting.specs.Loading.{node_act, one, itself}
use Rattle.acting.proofs.Rests.{Rest}
use Rattle.acting.proofs.loading.load_terms.Given as goal

abbrev pub invariant-loop-term : goal.invariant-loop-term
invariant-loop-term g l =
    Rest g.P.Provider.algebra g.P.Provider.meaning node_act one itself
    (drop l.term-counter (take (length l.initial.readings) (listed l.terms))) l.term-counter l.term-counter l.provider l.readings
    (take (length l.initial.readings) (listed l.terms)) 0 l.initial.provider l.initial.readings
