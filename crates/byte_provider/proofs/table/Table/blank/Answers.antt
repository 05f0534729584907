use Rattle.byte_provider.proofs.Writing.{zeros_small}
use Rattle.byte_provider.proofs.table.Table.blank.Goals as goal

pub invariant_of-result-clause-small : goal.invariant_of-result-clause-small
invariant_of-result-clause-small c = zeros_small 32768
