use Rattle.std.proofs.Common.{◌<◌, ◌≤◌, Ok, Err, length, sym, ap, subst, ◌∙◌, arith}
use Rattle.std.proofs.lemmas.Result.{err_from_is_err_and}
use Rattle.bounded.specs.Items.{items}
use Rattle.scan.specs.Tokens.{text_of, pos_of}
use Rattle.names.specs.Names.{known}
use Rattle.protocol.specs.View.{view_of}
use Rattle.table_text.specs.Ahead.{Roomy}
use Rattle.table_text.specs.Lines.{ReadsNext}
use Rattle.table_text.specs.Tables.{too_long}
use Rattle.table_text.proofs.Looping.{line_granted, line_refused, all_granted}
use Rattle.table_text.proofs.table.read_lines.Goals as goal

pub returns-then-is_too_long : goal.returns-then-is_too_long
returns-then-is_too_long c = rw (c.new.ensures, c.blank.ensures) (too_long (c.is_too_long.ensures.0 c.if-is_too_long.true))

pub loop-scanner-smaller : goal.loop-scanner-smaller
loop-scanner-smaller c =
    let i = c.loop-scanner.invariant in
    let room : Roomy (text_of c.loop-scanner.scanner) (items c.loop-scanner.parts) (pos_of c.loop-scanner.scanner) =
    (subst (λ z. length z ≤ 32768) (sym i.text) i.short, let e = ap length i.parts in omega (arith, e)) in
    let read = subst (λ z. ReadsNext (known c.loop-scanner.names) z (pos_of c.loop-scanner.scanner) (view_of c.loop-scanner.protocol) (Ok tt) (pos_of c.read_next.new.scanner) (known c.read_next.new.names) (view_of c.read_next.new.protocol))
    i.text (c.in_ok-read_next.ensures.reads room i.sofar.fewer).0 in
    let within : pos_of c.loop-scanner.scanner < length c.args.text.now = omega (arith, c.pos.ensures.is, c.loop-scanner-test.true) in
    let past = (line_granted c.args.text.now _ (known c.loop-scanner.names) (view_of c.loop-scanner.protocol) i.short i.sofar within _ _ _ read).1 in
    let e = ap length (c.read_next.ensures.text ∙ i.text) in
    let f = ap length i.text in
    omega (arith, e, f, past, within)

pub loop-scanner-preserved : goal.loop-scanner-preserved
loop-scanner-preserved c =
    let i = c.loop-scanner.invariant in
    let room : Roomy (text_of c.loop-scanner.scanner) (items c.loop-scanner.parts) (pos_of c.loop-scanner.scanner) =
    (subst (λ z. length z ≤ 32768) (sym i.text) i.short, let e = ap length i.parts in omega (arith, e)) in
    let done = c.in_ok-read_next.ensures.reads room i.sofar.fewer in
    let read = subst (λ z. ReadsNext (known c.loop-scanner.names) z (pos_of c.loop-scanner.scanner) (view_of c.loop-scanner.protocol) (Ok tt) (pos_of c.read_next.new.scanner) (known c.read_next.new.names) (view_of c.read_next.new.protocol))
    i.text done.0 in
    let within : pos_of c.loop-scanner.scanner < length c.args.text.now = omega (arith, c.pos.ensures.is, c.loop-scanner-test.true) in
    record {
      text = c.read_next.ensures.text ∙ i.text;
      short = i.short;
      parts = done.1 ∙ i.parts;
      sofar = (line_granted c.args.text.now _ (known c.loop-scanner.names) (view_of c.loop-scanner.protocol) i.short i.sofar within _ _ _ read).0;
    }

pub returns-in_err-read_next : goal.returns-in_err-read_next
returns-in_err-read_next c =
    let i = c.loop-scanner.invariant in
    let room : Roomy (text_of c.loop-scanner.scanner) (items c.loop-scanner.parts) (pos_of c.loop-scanner.scanner) =
    (subst (λ z. length z ≤ 32768) (sym i.text) i.short, let e = ap length i.parts in omega (arith, e)) in
    let read = subst (λ z. ReadsNext (known c.loop-scanner.names) z (pos_of c.loop-scanner.scanner) (view_of c.loop-scanner.protocol) (Err c.in_err-read_next.field-0.0) (pos_of c.read_next.new.scanner) (known c.read_next.new.names) (view_of c.read_next.new.protocol))
    i.text (c.in_err-read_next.ensures.reads room i.sofar.fewer).0 in
    let within : pos_of c.loop-scanner.scanner < length c.args.text.now = omega (arith, c.pos.ensures.is, c.loop-scanner-test.true) in
    let e = err_from_is_err_and c.from_residual.result c.from_residual.ensures.1 in
    rw (e.1, e.2) (line_refused c.args.text.now _ (known c.loop-scanner.names) (view_of c.loop-scanner.protocol) i.short i.sofar within _ _ _ c.in_err-read_next.field-0.0 read)

pub returns : goal.returns
returns c =
    let i = c.loop-scanner.invariant in
    let low : length c.args.text.now ≤ pos_of c.loop-scanner.scanner = omega (arith, c.pos.ensures.is, c.loop-scanner-test.false) in
    let high : pos_of c.loop-scanner.scanner ≤ length c.args.text.now = let w = c.loop-scanner.scanner.within in let e = ap length i.text in omega (arith, w, e) in
    all_granted c.args.text.now (pos_of c.loop-scanner.scanner) (known c.loop-scanner.names) (view_of c.loop-scanner.protocol) i.short i.sofar (omega (arith, low, high))
