use Rattle.std.proofs.Common.{◌<◌, ◌≤◌, subst, sym, ◌∙◌, arith}
use Rattle.scan.specs.Tokens.{text_of, pos_of, lexeme, Next}
use Rattle.line_check.proofs.Searching.{left_none, left_true, left_more}
use Rattle.line_check.proofs.earlier.is_earlier.Goals as goal

pub returns-then-is_word : goal.returns-then-is_word
returns-then-is_word c = λ ts e come.
    let i = c.loop-scanner.invariant in
    let t = c.next_token in
    let text = text_of c.args.line.now in
    let next = subst (λ z. Next z (pos_of c.loop-scanner.scanner) (lexeme t.result.0) t.result.1 (pos_of t.new.scanner)) i.text t.ensures.next in
    let lt : pos_of c.loop-scanner.scanner < c.args.end = omega (arith, c.pos.ensures.is, c.loop-scanner-test.true) in
    sym (left_true text _ c.args.word.now ts c.args.end (i.left ts e come) (lexeme t.result.0) t.result.1 _ next lt (sym (c.is_word.ensures e) ∙ c.if-is_word.true))

pub loop-scanner-preserved : goal.loop-scanner-preserved
loop-scanner-preserved c =
    let i = c.loop-scanner.invariant in
    let t = c.next_token in
    let text = text_of c.args.line.now in
    let next = subst (λ z. Next z (pos_of c.loop-scanner.scanner) (lexeme t.result.0) t.result.1 (pos_of t.new.scanner)) i.text t.ensures.next in
    let lt : pos_of c.loop-scanner.scanner < c.args.end = omega (arith, c.pos.ensures.is, c.loop-scanner-test.true) in
    record {
      text = t.ensures.text ∙ i.text;
      left = λ ts e come. left_more text _ c.args.word.now ts c.args.end (i.left ts e come) (lexeme t.result.0) t.result.1 _ next lt (sym (c.is_word.ensures e) ∙ c.if-is_word.false);
    }

pub returns : goal.returns
returns c = λ ts e come.
    let i = c.loop-scanner.invariant in
    let le : c.args.end ≤ pos_of c.loop-scanner.scanner = omega (arith, c.pos.ensures.is, c.loop-scanner-test.false) in
    sym (left_none (text_of c.args.line.now) _ c.args.word.now ts c.args.end (i.left ts e come) le)
