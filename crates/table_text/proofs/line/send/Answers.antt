use Rattle.std.proofs.Common.{[], ◌∷◌, refl, sym, subst}
use Rattle.std.proofs.lemmas.Result.{err_from_is_err_and}
use Rattle.bounded.specs.Items.{items}
use Rattle.names.specs.Names.{known}
use Rattle.scan.specs.Tokens.{text_of, pos_of}
use Rattle.syntax.specs.Grammar.{name, end, term_tokens}
use Rattle.protocol.specs.View.{view_of}
use Rattle.table_text.specs.Ahead.{Ahead}
use Rattle.table_text.specs.Calls.{ended}
use Rattle.table_text.proofs.Calling.{roomy_in, sends_granted, sends_refused}
use Rattle.table_text.proofs.line.send.Goals as goal

pub returns-in_err-message : goal.returns-in_err-message
returns-in_err-message c = λ p q t h room.
    let a = c.agent-sender.ensures in
    let b = c.agent-receiver.ensures in
    let g = a.agent p (name q ∷ term_tokens t (end ∷ [])) h in
    let k = b.agent q (term_tokens t (end ∷ [])) (subst (λ z. Ahead z (pos_of c.agent-sender.new.scanner) (name q ∷ term_tokens t (end ∷ []))) (sym a.text) g.1) in
    let there = roomy_in (text_of c.args.scanner.now) _ (items c.args.parts.now) _ _ a.text room a.low in
    let made = c.in_err-message.ensures.made t (end ∷ []) tt (subst (λ z. Ahead z (pos_of c.agent-receiver.new.scanner) (term_tokens t (end ∷ []))) (sym b.text) k.1)
    (roomy_in (text_of c.agent-sender.new.scanner) _ (items c.args.parts.now) _ _ b.text there b.low) in
    let e = err_from_is_err_and c.from_residual.result c.from_residual.ensures.1 in
    rw (e.1, e.2) (ended c.in_err-message.field-0.0 made.0.made refl, tt)

pub returns-in_err-step : goal.returns-in_err-step
returns-in_err-step c = λ p q t h room.
    let a = c.agent-sender.ensures in
    let b = c.agent-receiver.ensures in
    let g = a.agent p (name q ∷ term_tokens t (end ∷ [])) h in
    let k = b.agent q (term_tokens t (end ∷ [])) (subst (λ z. Ahead z (pos_of c.agent-sender.new.scanner) (name q ∷ term_tokens t (end ∷ []))) (sym a.text) g.1) in
    let there = roomy_in (text_of c.args.scanner.now) _ (items c.args.parts.now) _ _ a.text room a.low in
    let made = c.in_ok-message.ensures.made t (end ∷ []) tt (subst (λ z. Ahead z (pos_of c.agent-receiver.new.scanner) (term_tokens t (end ∷ []))) (sym b.text) k.1)
    (roomy_in (text_of c.agent-sender.new.scanner) _ (items c.args.parts.now) _ _ b.text there b.low) in
    let e = err_from_is_err_and c.from_residual-in_err-step.result c.from_residual-in_err-step.ensures.1 in
    let done = sends_refused (known c.args.names.now) t (view_of c.args.protocol.now) (view_of c.term.new.protocol) p q c.agent-sender.result c.agent-receiver.result c.in_ok-message.message c.in_err-step.field-0.0 (view_of c.step.new.protocol)
    g.0 k.0 made.0.made c.in_err-step.ensures in
    rw (e.1, e.2) (done, tt)

pub returns : goal.returns
returns c = λ p q t h room.
    let a = c.agent-sender.ensures in
    let b = c.agent-receiver.ensures in
    let g = a.agent p (name q ∷ term_tokens t (end ∷ [])) h in
    let k = b.agent q (term_tokens t (end ∷ [])) (subst (λ z. Ahead z (pos_of c.agent-sender.new.scanner) (name q ∷ term_tokens t (end ∷ []))) (sym a.text) g.1) in
    let there = roomy_in (text_of c.args.scanner.now) _ (items c.args.parts.now) _ _ a.text room a.low in
    let made = c.in_ok-message.ensures.made t (end ∷ []) tt (subst (λ z. Ahead z (pos_of c.agent-receiver.new.scanner) (term_tokens t (end ∷ []))) (sym b.text) k.1)
    (roomy_in (text_of c.agent-sender.new.scanner) _ (items c.args.parts.now) _ _ b.text there b.low) in (
      sends_granted (known c.args.names.now) t (view_of c.args.protocol.now) (view_of c.term.new.protocol) p q c.agent-sender.result c.agent-receiver.result c.in_ok-message.message c.in_ok-step.field-0 (view_of c.step.new.protocol)
          g.0 k.0 made.0.made c.in_ok-step.ensures,
      made.1,
    )
