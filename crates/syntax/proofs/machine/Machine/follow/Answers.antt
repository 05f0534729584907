use Rattle.std.proofs.Common.{sym, ap, ◌∙◌, ◌∷◌, ◌≡◌, List}
use Rattle.syntax.specs.declared.mode.Frame.{Frame}
use Rattle.syntax.specs.declared.mode.Frame.TheVariants.{First, Later}
use Rattle.syntax.specs.States.{stack_of}
use Rattle.syntax.proofs.Turns.{on_top, if_not}
use Rattle.syntax.proofs.machine.Machine.follow.Goals as goal

pub returns-in-Some-First : goal.returns-in-Some-First
returns-in-Some-First c =
    let h : (fs : List Frame) × (stack_of c.args.self.now ≡ c.in-Some-First.field-0 ∷ fs) = c.in-Some-First.ensures in
    let (fs, e) = h in
    let top = e ∙ ap (λ f. f ∷ fs) c.in-Some-First.field-0-is in
    on_top c.args.sign top (c.part.ensures First fs top)

pub returns-in-Some-Later-2 : goal.returns-in-Some-Later-2
returns-in-Some-Later-2 c =
    let h : (fs : List Frame) × (stack_of c.args.self.now ≡ c.in-Some-Later.field-0 ∷ fs) = c.in-Some-Later.ensures in
    let (fs, e) = h in
    let top = e ∙ ap (λ f. f ∷ fs) c.in-Some-Later-2.field-0-is in
    on_top c.args.sign top (if_not _ _ (sym c.closes.ensures ∙ c.if-closes.false) (c.part-in-Some-Later-2.ensures Later fs top))
