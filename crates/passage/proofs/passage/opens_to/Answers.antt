use Rattle.passage.proofs.Arriving.{opened_is}
use Rattle.passage.proofs.passage.opens_to.Goals as goal

pub returns-in-Ok : goal.returns-in-Ok
returns-in-Ok g c =
    let p = g.P.Provider in
    let a = c.in-Ok.ensures.answers in
    record {
      answer = opened_is p.algebra p.meaning c.args.provider.now c.open.new.self c.args.sealed c.args.opener c.args.plan c.in-Ok.opened c.same.result a c.same.ensures;
      kept = a.kept;
    }
