use Rattle.std.proofs.Common.{◌≡◌, rules}
use Rattle.terms.specs.declared.node.TermNode.TheVariants.{Built}
use Rattle.symbolic_provider.specs.Makings.{answer_of, form_making}
use Rattle.symbolic_provider.proofs.Making.{inserted, form_makes}
use Rattle.symbolic_provider.proofs.store.SymbolicProvider.make_form.Goals as goal

pub returns : goal.returns
returns c =
    let s = c.args.self.now in
    let g = c.args.form in
    let is : c.map_err.result ≡ answer_of c.build.result = search rules in
    rw is (inserted s (record { terms = c.build.new.self }) (form_making g c.args.a c.args.b) (Built g c.args.a c.args.b) c.build.result (form_makes s c.args.a c.args.b g) c.build.ensures)
