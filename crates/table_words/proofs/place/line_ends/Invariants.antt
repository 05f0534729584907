use Rattle.std.proofs.Common.{◌≡◌, count_by, take}
use Rattle.table_words.specs.Place.{is_end}
use Rattle.table_words.proofs.place.line_ends.Given as goal

abbrev pub invariant-loop-byte : goal.invariant-loop-byte
invariant-loop-byte l = l.ends ≡ count_by is_end (take l.byte-index l.text)
