use Rattle.std.proofs.lemmas.Result.{err_from_is_err_and}
use Rattle.names.specs.Names.{known}
use Rattle.scan.specs.Tokens.{text_of, pos_of}
use Rattle.table_text.proofs.Heading.{granted_line}
use Rattle.table_text.proofs.line.read_line.Goals as goal

pub returns-in_err-make_calls-clause-reads : goal.returns-in_err-make_calls-clause-reads
returns-in_err-make_calls-clause-reads c = λ room fewer.
    let g = granted_line (known c.args.names.now) (text_of c.args.scanner.now) (pos_of c.args.scanner.now) (pos_of c.check_line.new.scanner) c.in_ok-check_line.ensures.checks in
    let m = c.in_err-make_calls.ensures g.line g.ahead room fewer in
    let e = err_from_is_err_and c.from_residual-in_err-make_calls.result c.from_residual-in_err-make_calls.ensures.1 in
    rw (e.1, e.2) (record { line = g.line; is = g.is; made = m.0 }, tt)

pub returns-clause-reads : goal.returns-clause-reads
returns-clause-reads c = λ room fewer.
    let g = granted_line (known c.args.names.now) (text_of c.args.scanner.now) (pos_of c.args.scanner.now) (pos_of c.check_line.new.scanner) c.in_ok-check_line.ensures.checks in
    let m = c.in_ok-make_calls.ensures g.line g.ahead room fewer in
    (record { line = g.line; is = g.is; made = m.0 }, m.1)
