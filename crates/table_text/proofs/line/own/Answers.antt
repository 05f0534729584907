use Rattle.std.proofs.Common.{[], ◌∷◌, refl, sym, subst}
use Rattle.std.proofs.lemmas.Result.{err_from_is_err_and}
use Rattle.bounded.specs.Items.{items}
use Rattle.names.specs.Names.{known}
use Rattle.scan.specs.Tokens.{text_of, pos_of}
use Rattle.syntax.specs.Grammar.{end, term_tokens}
use Rattle.protocol.specs.View.{view_of}
use Rattle.table_text.specs.Ahead.{Ahead}
use Rattle.table_text.specs.Calls.{ended}
use Rattle.table_text.proofs.Calling.{on_ok, roomy_in, owns}
use Rattle.table_text.proofs.line.own.Goals as goal

pub returns-in_err-known : goal.returns-in_err-known
returns-in_err-known c = λ p t h room.
    let a = c.agent-owner.ensures in
    let g = a.agent p (term_tokens t (end ∷ [])) h in
    let q = err_from_is_err_and c.from_residual.result c.from_residual.ensures.1 in
    let made = c.in_err-known.ensures.made t (end ∷ []) tt (subst (λ z. Ahead z (pos_of c.agent-owner.new.scanner) (term_tokens t (end ∷ []))) (sym a.text) g.1)
    (roomy_in (text_of c.args.scanner.now) _ (items c.args.parts.now) _ _ a.text room a.low) in
    rw (q.1, q.2) (ended c.in_err-known.field-0.0 made.0.made refl, tt)

pub returns : goal.returns
returns c = λ p t h room.
    let a = c.agent-owner.ensures in
    let g = a.agent p (term_tokens t (end ∷ [])) h in
    let made = c.in_ok-known.ensures.made t (end ∷ []) tt (subst (λ z. Ahead z (pos_of c.agent-owner.new.scanner) (term_tokens t (end ∷ []))) (sym a.text) g.1)
    (roomy_in (text_of c.args.scanner.now) _ (items c.args.parts.now) _ _ a.text room a.low) in (
      owns (known c.args.names.now) t (view_of c.args.protocol.now) (view_of c.term.new.protocol) p c.agent-owner.result c.in_ok-known.known c.know.result (view_of c.know.new.protocol) g.0 made.0.made c.know.ensures,
      on_ok c.know.result made.1,
    )
