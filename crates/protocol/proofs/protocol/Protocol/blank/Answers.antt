use Rattle.protocol.proofs.Reaching.{blank_parts, blank_reached, blank_known}
use Rattle.protocol.proofs.protocol.Protocol.blank.Goals as goal

pub invariant_of-result : goal.invariant_of-result
invariant_of-result c = record {
  known = blank_known _ _ _ c.blank.ensures c.one_script.ensures c.new.ensures;
  came = blank_reached _ (blank_parts _ _ _ c.blank.ensures c.one_script.ensures c.new.ensures);
}

pub returns : goal.returns
returns c = blank_parts _ _ _ c.blank.ensures c.one_script.ensures c.new.ensures
