use Rattle.std.proofs.Common.{◌≡◌, rules}
use Rattle.provider.specs.declared.Making.TheVariants.{Atom}
use Rattle.terms.specs.declared.node.TermNode.TheVariants.{Name}
use Rattle.symbolic_provider.specs.Makings.{answer_of}
use Rattle.symbolic_provider.proofs.Making.{inserted, atom_makes}
use Rattle.symbolic_provider.proofs.store.SymbolicProvider.make_atom.Goals as goal

pub returns-in-Ok : goal.returns-in-Ok
returns-in-Ok c =
    let s = c.args.self.now in
    let k = c.in-Ok.known in
    let is : c.map_err.result ≡ answer_of c.name.result = search rules in
    rw is (inserted s (record { terms = c.name.new.self }) (Atom c.args.kind c.args.id) (Name k c.args.id) c.name.result (atom_makes s c.args.kind c.args.id k c.in-Ok.ensures c.if-id-le65535.true) c.name.ensures)
