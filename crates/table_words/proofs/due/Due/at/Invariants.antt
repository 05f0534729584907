use Rattle.std.proofs.Common.{◌-◌, length}
use Rattle.scan.specs.Tokens.{text_of, pos_of}
use Rattle.table_words.proofs.due.Due.at.Given as goal

abbrev pub decreases-loop-token : goal.decreases-loop-token
decreases-loop-token l = length (text_of l.scanner) - pos_of l.scanner
