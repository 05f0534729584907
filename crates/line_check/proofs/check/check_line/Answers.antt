use Rattle.std.proofs.Common.{◌≡◌, ◌+◌, ◌-◌, ◌<◌, List, length, refl, subst, sym, ◌∙◌}
use Rattle.scan.specs.Tokens.{text_of, pos_of, lexeme, Next}
use Rattle.names.specs.Names.{known}
use Rattle.syntax.specs.Grammar.{Tok}
use Rattle.syntax.specs.Uses.{use_after}
use Rattle.syntax.specs.Check.{Comes, Come}
use Rattle.syntax.specs.Words.{tok}
use Rattle.syntax.proofs.Lines.{left}
use Rattle.line_check.proofs.Lines.{wrong, right}
use Rattle.line_check.proofs.check.check_line.Goals as goal

pub returns-in-Some-clause-checks : goal.returns-in-Some-clause-checks
returns-in-Some-clause-checks c =
    let i = c.loop-line.invariant in
    let t = c.next_token-place in
    let next = subst (λ z. Next z (pos_of c.loop-line.scanner) (lexeme t.result.0) t.result.1 (pos_of t.new.scanner)) i.text t.ensures.next in
    let comes : Comes (text_of c.args.scanner.now) (pos_of c.loop-line.scanner) (tok (lexeme t.result.0)) t.result.1 (pos_of t.new.scanner) = record { lexeme = lexeme t.result.0; next = next; is = refl } in
    let faulty = λ (ts : List Tok) (come : Come (text_of c.args.scanner.now) (pos_of c.args.scanner.now) ts (pos_of c.loop-line.scanner)) (e : c.name_use-usage.result ≡ use_after ts).
    c.token_fault-named.ensures ts (subst (Come (text_of c.args.scanner.now) (pos_of c.args.scanner.now) ts) (sym c.pos-end.ensures.is) come) e in
    wrong (known c.args.names.now) (text_of c.args.scanner.now) _ _ c.loop-line.machine i.read c.loop-line-test.ensures _ _ _ comes c.sign_of_found.result c.sign_of_found.ensures c.step-judged.new.self c.step-judged.result c.step-judged.ensures.steps c.name_use-usage.result c.name_use-usage.ensures c.token_fault-named.result faulty c.in-Some.fault (sym c.first_fault.ensures ∙ c.in-Some.is)

pub loop-line-smaller : goal.loop-line-smaller
loop-line-smaller c =
    let i = c.loop-line.invariant in
    let t = c.next_token-place in
    let next = subst (λ z. Next z (pos_of c.loop-line.scanner) (lexeme t.result.0) t.result.1 (pos_of t.new.scanner)) i.text t.ensures.next in
    let comes : Comes (text_of c.args.scanner.now) (pos_of c.loop-line.scanner) (tok (lexeme t.result.0)) t.result.1 (pos_of t.new.scanner) = record { lexeme = lexeme t.result.0; next = next; is = refl } in
    let faulty = λ (ts : List Tok) (come : Come (text_of c.args.scanner.now) (pos_of c.args.scanner.now) ts (pos_of c.loop-line.scanner)) (e : c.name_use-usage.result ≡ use_after ts).
    c.token_fault-named.ensures ts (subst (Come (text_of c.args.scanner.now) (pos_of c.args.scanner.now) ts) (sym c.pos-end.ensures.is) come) e in
    let less = (right (known c.args.names.now) (text_of c.args.scanner.now) _ _ c.loop-line.machine i.read c.loop-line-test.ensures _ _ _ comes c.sign_of_found.result c.sign_of_found.ensures c.step-judged.new.self c.step-judged.result c.step-judged.ensures.steps c.name_use-usage.result c.name_use-usage.ensures c.token_fault-named.result faulty (sym c.first_fault.ensures ∙ c.in_default.is)).1 in
    subst (λ z. length z - pos_of t.new.scanner + left c.step-judged.new.self.mode < length (text_of c.loop-line.scanner) - pos_of c.loop-line.scanner + left c.loop-line.machine.mode)
    (sym (t.ensures.text ∙ i.text))
    (subst (λ z. length (text_of c.args.scanner.now) - pos_of t.new.scanner + left c.step-judged.new.self.mode < length z - pos_of c.loop-line.scanner + left c.loop-line.machine.mode)
    (sym i.text)
    less)

pub loop-line-preserved : goal.loop-line-preserved
loop-line-preserved c =
    let i = c.loop-line.invariant in
    let t = c.next_token-place in
    let next = subst (λ z. Next z (pos_of c.loop-line.scanner) (lexeme t.result.0) t.result.1 (pos_of t.new.scanner)) i.text t.ensures.next in
    let comes : Comes (text_of c.args.scanner.now) (pos_of c.loop-line.scanner) (tok (lexeme t.result.0)) t.result.1 (pos_of t.new.scanner) = record { lexeme = lexeme t.result.0; next = next; is = refl } in
    let faulty = λ (ts : List Tok) (come : Come (text_of c.args.scanner.now) (pos_of c.args.scanner.now) ts (pos_of c.loop-line.scanner)) (e : c.name_use-usage.result ≡ use_after ts).
    c.token_fault-named.ensures ts (subst (Come (text_of c.args.scanner.now) (pos_of c.args.scanner.now) ts) (sym c.pos-end.ensures.is) come) e in
    record {
      read = (right (known c.args.names.now) (text_of c.args.scanner.now) _ _ c.loop-line.machine i.read c.loop-line-test.ensures _ _ _ comes c.sign_of_found.result c.sign_of_found.ensures c.step-judged.new.self c.step-judged.result c.step-judged.ensures.steps c.name_use-usage.result c.name_use-usage.ensures c.token_fault-named.result faulty (sym c.first_fault.ensures ∙ c.in_default.is)).0;
      text = t.ensures.text ∙ i.text;
    }
