use Rattle.rules.specs.State.{BUILD}
use Rattle.protocol.proofs.Performing.{adds_known, adds_came}
use Rattle.protocol.proofs.protocol.Protocol.perform_build.Goals as goal

pub invariant_of-self : goal.invariant_of-self
invariant_of-self c =
    let call = BUILD c.args.form c.args.a c.args.b in
    record {
      known = adds_known c.args.self.now call c.build_term.result c.build_term.new.terms c.build_term.ensures;
      came = adds_came c.args.self.now call c.build_term.result c.build_term.new.terms c.build_term.ensures;
    }
