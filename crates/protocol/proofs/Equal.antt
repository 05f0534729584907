-- Protocols with the same terms, scripts and steps are the same.
use Rattle.std.proofs.Common.{◌≡◌, true, map}
use mathlib.Core.Bool.{Bool-set}
use mathlib.Core.HLevel.{is_prop→PathP}
use mathlib.Core.Logic.{∥∥₁_prop}
use Rattle.bounded.specs.Items.{items}
use Rattle.scripts.specs.View.{written}
use Rattle.terms.specs.Listed.{listed}
use Rattle.protocol.specs.declared.protocol.Protocol.{Protocol}
use Rattle.protocol.specs.States.{are_all_known, state_by}
use Rattle.protocol.specs.Reached.{Reached}

pub same_protocol : (p q : Protocol) → q.terms ≡ p.terms → q.scripts ≡ p.scripts → q.steps ≡ p.steps → q ≡ p
same_protocol p q e f g = λ i. record {
  terms = e i;
  scripts = f i;
  steps = g i;
  known = is_prop→PathP (λ j. are_all_known (listed (e j)) (map written (items (f j))) (items (g j)) ≡ true)
      (λ j. Bool-set (are_all_known (listed (e j)) (map written (items (f j))) (items (g j))) true) q.known p.known i;
  came = is_prop→PathP (λ j. Reached (state_by (listed (e j)) (map written (items (f j))) (items (g j)))) (λ j. ∥∥₁_prop) q.came p.came i;
}
