use Rattle.std.proofs.Common.{◌≡◌, Ok, Err, MatchResult, rules}
use Rattle.terms.specs.declared.node.TermError.TheVariants.{Full}
use Rattle.terms.proofs.Insert.{orderly_pushed, inserted_pushed}
use Rattle.terms.proofs.table.Terms.push.Goals as goal

pub invariant_of-self : goal.invariant_of-self
invariant_of-self g c =
    let ok = orderly_pushed c.args.self.now c.args.node c.requires.known c.requires.proper c.requires.absent _ c.push.result c.push.ensures.ok c.push.ensures.same in
    record { lower = ok.lower; fitting = ok.fitting; once = ok.once }

pub returns : goal.returns
returns g c =
    let is : MatchResult c.push.result (λ n. c.map_err.result ≡ Ok n) (λ e. c.map_err.result ≡ Err Full) = search rules in
    inserted_pushed c.args.self.now c.args.node c.requires.known c.requires.proper c.requires.absent _ c.push.result c.map_err.result
    c.push.ensures.ok c.push.ensures.place c.push.ensures.full c.push.ensures.same is
