use Rattle.std.proofs.Common.{List, ◌∷◌, Some, None, refl, subst, ◌∙◌}
use Rattle.std.proofs.lemmas.Result.{err_from_is_err_and}
use Rattle.names.specs.Names.{known}
use Rattle.scan.specs.Tokens.{text_of, pos_of}
use Rattle.syntax.specs.Grammar.{Tok}
use Rattle.protocol.specs.View.{view_of}
use Rattle.table_text.specs.Ahead.{Ahead}
use Rattle.table_text.specs.Lines.{IsWordOf}
use Rattle.table_text.proofs.Naming.{none_yet, none_found, name_refused, name_granted}
use Rattle.table_text.proofs.line.declare.Goals as goal

pub loop-word-init : goal.loop-word-init
loop-word-init c = record {
  text = refl;
  left = λ ws h d. none_yet c.args.kind ws (known c.args.names.now) (view_of c.args.protocol.now) (text_of c.args.scanner.now) (pos_of c.args.scanner.now) h d;
}

pub returns-in_err-named : goal.returns-in_err-named
returns-in_err-named c = λ ws h d.
    let i = c.loop-word.invariant in
    let q = err_from_is_err_and c.from_residual.result c.from_residual.ensures.1 in
    let found = subst (λ z. (t : Tok) (ts : List Tok) → Ahead z (pos_of c.loop-word.scanner) (t ∷ ts) → IsWordOf t (Some c.in-Some.word) × Ahead z (pos_of c.next_word.new.scanner) ts) i.text c.in-Some.ensures.word in
    let made = name_refused c.args.kind ws (known c.args.names.now) (view_of c.args.protocol.now) (text_of c.args.scanner.now) _ (known c.loop-word.names) (view_of c.loop-word.protocol) (i.left ws h d) c.in-Some.word _ found
    c.in_err-named.field-0.0 (view_of c.new_name.new.protocol) c.in_err-named.ensures in
    rw (q.1, q.2) made

pub loop-word-preserved : goal.loop-word-preserved
loop-word-preserved c =
    let i = c.loop-word.invariant in
    let found = subst (λ z. (t : Tok) (ts : List Tok) → Ahead z (pos_of c.loop-word.scanner) (t ∷ ts) → IsWordOf t (Some c.in-Some.word) × Ahead z (pos_of c.next_word.new.scanner) ts) i.text c.in-Some.ensures.word in
    record {
      text = c.next_word.ensures.text ∙ i.text;
      left = λ ws h d.
          name_granted c.args.kind ws (known c.args.names.now) (view_of c.args.protocol.now) (text_of c.args.scanner.now) _ (known c.loop-word.names) (view_of c.loop-word.protocol) (i.left ws h d) c.in-Some.word _ found
          c.in_ok-named.named (view_of c.new_name.new.protocol) (known c.declare-declared.new.self) c.declare-declared.result c.in_ok-named.ensures
          c.declare-declared.ensures.ok c.declare-declared.ensures.full;
    }

pub returns : goal.returns
returns c = λ ws h d.
    let i = c.loop-word.invariant in
    none_found c.args.kind ws (known c.args.names.now) (view_of c.args.protocol.now) (text_of c.args.scanner.now) _ (known c.loop-word.names) (view_of c.loop-word.protocol) (i.left ws h d) (pos_of c.next_word.new.scanner)
    (subst (λ z. (t : Tok) (ts : List Tok) → Ahead z (pos_of c.loop-word.scanner) (t ∷ ts) → IsWordOf t None × Ahead z (pos_of c.next_word.new.scanner) ts) i.text c.in_default.ensures.word)
