use Rattle.std.proofs.Common.{◌-◌, length}
use Rattle.scan.specs.Tokens.{text_of, pos_of}
use Rattle.table_words.proofs.protocol_faults.RefusedCalls.undeclared.Given as goal

abbrev pub decreases-loop-word : goal.decreases-loop-word
decreases-loop-word l = length (text_of l.words) - pos_of l.words
