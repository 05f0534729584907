use Rattle.std.proofs.Common.{◌≡◌, [], ◌∷◌, Some, None, refl, sym, ap, ◌∙◌, subst}
use Rattle.bounded.specs.Items.{items}
use Rattle.names.specs.Names.{known}
use Rattle.scan.specs.Tokens.{text_of, pos_of}
use Rattle.syntax.specs.declared.sign.Keyword.TheVariants as words
use Rattle.syntax.specs.Grammar.{name, end, name_tokens, term_tokens}
use Rattle.protocol.specs.View.{view_of}
use Rattle.table_text.specs.Ahead.{Ahead}
use Rattle.table_text.proofs.Calling.{roomy_in}
use Rattle.table_text.proofs.Heading.{headed, declared, owned, sent, nothing}
use Rattle.table_text.proofs.line.make_calls.Goals as goal

pub returns-in-Some-Kind : goal.returns-in-Some-Kind
returns-in-Some-Kind c = λ l h room fewer.
    let s = c.next_sign.ensures in
    let q = pos_of c.next_sign.new.scanner in
    let head = headed (text_of c.args.scanner.now) (pos_of c.args.scanner.now) q c.next_sign.result (Some (words.Kind c.in-Some-Kind.kind)) s.next (ap Some (sym c.in-Some-Kind.field-0-is) ∙ c.in-Some-Kind.ensures) l h in
    declared (text_of c.args.scanner.now) q (known c.args.names.now) (view_of c.args.protocol.now) c.declare.result (view_of c.declare.new.protocol) (items c.args.parts.now ≡ items c.args.parts.now) c.in-Some-Kind.kind (known c.declare.new.names)
    (λ ws a. c.declare.ensures ws (subst (λ z. Ahead z q (name_tokens ws (end ∷ []))) (sym s.text) a) fewer) refl l head

pub returns-in-Some-Own : goal.returns-in-Some-Own
returns-in-Some-Own c = λ l h room fewer.
    let s = c.next_sign.ensures in
    let q = pos_of c.next_sign.new.scanner in
    let head = headed (text_of c.args.scanner.now) (pos_of c.args.scanner.now) q c.next_sign.result (Some words.Own) s.next (ap Some (sym c.in-Some-Own.field-0-is) ∙ c.in-Some-Own.ensures) l h in
    owned (text_of c.args.scanner.now) q (known c.args.names.now) (view_of c.args.protocol.now) c.own.result (view_of c.own.new.protocol) (items c.own.new.parts ≡ items c.args.parts.now)
    (λ p t a. c.own.ensures p t (subst (λ z. Ahead z q (name p ∷ term_tokens t (end ∷ []))) (sym s.text) a) (roomy_in (text_of c.args.scanner.now) _ (items c.args.parts.now) _ _ s.text room s.low)) l head

pub returns-in-Some-Line : goal.returns-in-Some-Line
returns-in-Some-Line c = λ l h room fewer.
    let s = c.next_sign.ensures in
    let q = pos_of c.next_sign.new.scanner in
    let head = headed (text_of c.args.scanner.now) (pos_of c.args.scanner.now) q c.next_sign.result (Some words.Line) s.next (ap Some (sym c.in-Some-Line.field-0-is) ∙ c.in-Some-Line.ensures) l h in
    sent (text_of c.args.scanner.now) q (known c.args.names.now) (view_of c.args.protocol.now) c.send.result (view_of c.send.new.protocol) (items c.send.new.parts ≡ items c.args.parts.now)
    (λ a b t k. c.send.ensures a b t (subst (λ z. Ahead z q (name a ∷ name b ∷ term_tokens t (end ∷ []))) (sym s.text) k) (roomy_in (text_of c.args.scanner.now) _ (items c.args.parts.now) _ _ s.text room s.low)) l head

pub returns-in-None : goal.returns-in-None
returns-in-None c = λ l h room fewer.
    let q = pos_of c.next_sign.new.scanner in
    let head = headed (text_of c.args.scanner.now) (pos_of c.args.scanner.now) q c.next_sign.result None c.next_sign.ensures.next c.in-None.ensures l h in
    nothing (text_of c.args.scanner.now) q (known c.args.names.now) (view_of c.args.protocol.now) (items c.args.parts.now ≡ items c.args.parts.now) refl l head
