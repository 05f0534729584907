use Rattle.std.specs.Io.KnownBytes.{Appends}
use Rattle.protocol.specs.View.{lines_of}
use Rattle.exchange.specs.Printed.{listings}
use Rattle.exchange.proofs.printing.write_listings.Given as goal

abbrev pub invariant-loop-agent : goal.invariant-loop-agent
invariant-loop-agent g l = Appends (g.W.Write.contents l.initial.out) (g.W.Write.contents l.out) (listings (lines_of l.protocol) l.agent)
