use Rattle.std.proofs.Common.{sym, ap, ◌∙◌}
use Rattle.terms.specs.Listed.{listed}
use Rattle.terms.proofs.Listed.{orderly}
use Rattle.effects.specs.Sending.{is_public}
use Rattle.effects.proofs.Freshening.{public_opener, private_none}
use Rattle.effects.proofs.fresh.public_mate.Goals as goal

pub returns-then-is_public : goal.returns-then-is_public
returns-then-is_public c =
    let ts = c.args.terms.now in
    let n = c.in_ok-node.ensures.reads in
    public_opener (listed ts) (orderly ts) c.args.name n.0 (ap is_public n.1 ∙ sym c.is_public.ensures ∙ c.if-is_public.true) c.opener.result c.opener.ensures

pub returns-else-is_public : goal.returns-else-is_public
returns-else-is_public c =
    let ts = c.args.terms.now in
    let n = c.in_ok-node.ensures.reads in
    private_none (listed ts) (orderly ts) c.args.name n.0 (ap is_public n.1 ∙ sym c.is_public.ensures ∙ c.if-is_public.false)
