use Rattle.std.proofs.Common.{◌≡◌, rules}
use Rattle.symbolic_provider.specs.Makings.{answer_of}
use Rattle.symbolic_provider.proofs.Parts.{mate_done}
use Rattle.symbolic_provider.proofs.store.SymbolicProvider.make_mate.Goals as goal

pub returns : goal.returns
returns c =
    let is : c.map_err.result ≡ answer_of c.mate.result = search rules in
    rw is (mate_done c.args.self.now (record { terms = c.mate.new.self }) c.args.key c.mate.result c.mate.ensures)
