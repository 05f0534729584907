use Rattle.table_words.proofs.notation.TermText.+write.Given as goal

abbrev pub decreases-write : goal.decreases-write
decreases-write t l = l.self.term
