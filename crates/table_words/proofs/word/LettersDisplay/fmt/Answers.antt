use Rattle.std.proofs.Common.{rules}
use Rattle.std.proofs.Output.{has_written_append, has_written_of_eq}
use Rattle.table_words.proofs.Letters.{take_letter}
use Rattle.table_words.proofs.word.LettersDisplay.fmt.Goals as goal

pub loop-byte-preserved : goal.loop-byte-preserved
loop-byte-preserved g c =
    λ plain.
    has_written_of_eq _ _ _ _ _ (take_letter _ _ (search rules)) (has_written_append _ _ _ _ _ _ (c.loop-byte.invariant plain) (search rules))
