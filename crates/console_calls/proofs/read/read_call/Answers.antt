use Rattle.std.proofs.Common.{◌∷◌, sym, ap, ◌∙◌}
use Rattle.console_calls.specs.Calls.{call_of}
use Rattle.console_calls.proofs.Splitting.{rest_is, too_many}
use Rattle.console_calls.proofs.read.read_call.Goals as goal

pub returns-in_default-Some : goal.returns-in_default-Some
returns-in_default-Some c =
    let a = c.cut.result.0.now in
    let b = c.cut-2.result.0.now in
    let d = c.cut-3.result.0.now in
    let e = c.cut-4.result.0.now in
    let one = rest_is c.args.line.now a c.cut.result.1 c.in-Some.rest c.cut.ensures c.in-Some.is in
    let two = rest_is c.in-Some.rest.now b c.cut-2.result.1 c.in-Some-rest.rest c.cut-2.ensures c.in-Some-rest.is in
    let three = rest_is c.in-Some-rest.rest.now d c.cut-3.result.1 c.in-Some-rest-2.rest c.cut-3.ensures c.in-Some-rest-2.is in
    let four = rest_is c.in-Some-rest-2.rest.now e c.cut-4.result.1 c.in_default-Some.field-0-1 c.cut-4.ensures c.in_default-Some.is-1 in
    too_many a b d e c.in_default-Some.field-0-1.now
    ∙ sym (ap call_of (one ∙ ap (λ v. a ∷ v) (two ∙ ap (λ v. b ∷ v) (three ∙ ap (λ v. d ∷ v) four))))
