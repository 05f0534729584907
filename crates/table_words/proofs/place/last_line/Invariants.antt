use Rattle.std.proofs.Common.{take}
use Rattle.table_words.specs.Place.{BeginsLast}
use Rattle.table_words.proofs.place.last_line.Given as goal

abbrev pub invariant-loop-place : goal.invariant-loop-place
invariant-loop-place l = BeginsLast (take l.place l.text) l.begin
