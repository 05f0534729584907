use Rattle.std.proofs.Common.{◌≡◌, None, Some, length, ap, ◌∙◌, rules}
use Rattle.std.specs.Slice.Iter.{iter_rest}
use Rattle.terms.specs.Listed.{listed}
use Rattle.terms.specs.Tree.{tree}
use Rattle.rules.specs.Saturate.{take_held}
use Rattle.scripts.specs.Composing.{view, Below}
use Rattle.scripts.specs.Lines.{held_of}
use Rattle.scripts.specs.Writing.{Takes}
use Rattle.scripts.specs.Holding.{no_line}
use Rattle.scripts.specs.View.{written}
use Rattle.scripts.proofs.Judging.{held_in}
use Rattle.scripts.proofs.Searching.{found}
use Rattle.scripts.proofs.Taking.{lowest_taking}
use Rattle.scripts.proofs.script.Script.next_taking.Goals as goal

pub returns : goal.returns
returns c = λ k.
    let ts = listed c.args.terms.now in
    let s = c.args.self.now in
    let h = held_in ts s k in
    let j = c.judged-judged.ensures k in
    lowest_taking ts s k c.find_map.result
    (found _ _ c.enumerate.result (written s) (ap iter_rest c.enumerate.ensures.source ∙ c.iter.ensures.rest ∙ c.lines.ensures) c.enumerate.ensures.count
    (λ i l. Below (length ts) l.holds → take_held (view ts s) i (held_of (tree ts) l.holds) ≡ None)
    (λ i l t. Below (length ts) l.holds → Takes ts (view ts s) (take_held (view ts s) i (held_of (tree ts) l.holds)) (Some t))
    (λ a r f q. search rules) (λ i x q b. search rules) (λ i x t q b. search rules) no_line c.find_map.result c.find_map.ensures.runs)
