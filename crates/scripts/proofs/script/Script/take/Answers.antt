use Rattle.std.proofs.Common.{length, refl, subst}
use Rattle.terms.specs.Listed.{listed}
use Rattle.scripts.specs.Writing.{TakingKnown}
use Rattle.scripts.proofs.Composing.{pushed_begins}
use Rattle.scripts.proofs.Writing.{half_writes}
use Rattle.scripts.proofs.script.Script.take.Goals as goal

pub returns-in-LeftHalf-clause-takes : goal.returns-in-LeftHalf-clause-takes
returns-in-LeftHalf-clause-takes c = λ lt k w e.
    half_writes (listed c.args.terms.now) c.args.self.now c.push.new.self c.args.taking _ _ c.push.result c.in-LeftHalf.is c.push.ensures k
    (subst (TakingKnown (length (listed c.args.terms.now))) c.in-LeftHalf.is lt, tt) refl w e

pub returns-in-RightHalf-clause-grows : goal.returns-in-RightHalf-clause-grows
returns-in-RightHalf-clause-grows c = pushed_begins _ _ _ _ c.push-in-RightHalf.ensures

pub returns-in-RightHalf-clause-takes : goal.returns-in-RightHalf-clause-takes
returns-in-RightHalf-clause-takes c = λ lt k w e.
    half_writes (listed c.args.terms.now) c.args.self.now c.push-in-RightHalf.new.self c.args.taking _ _ c.push-in-RightHalf.result c.in-RightHalf.is c.push-in-RightHalf.ensures k
    (subst (TakingKnown (length (listed c.args.terms.now))) c.in-RightHalf.is lt, tt) refl w e
