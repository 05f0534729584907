use Rattle.std.proofs.Common.{◌+◌, ◌*◌, drop, sym}
use Rattle.std.proofs.lemmas.List.{drop_all}
use Rattle.console_calls.proofs.Digits.{read_more, no_digit, not_digits, too_great, whole}
use Rattle.console_calls.proofs.number.digits.Goals as goal

pub returns-then-not-is_ascii_digit : goal.returns-then-not-is_ascii_digit
returns-then-not-is_ascii_digit c =
    let w = c.args.word.now in
    sym (not_digits w (no_digit w c.loop-b.n c.loop-b.b-index c.loop-b.invariant.1 c.loop-b-test.true (sym c.if-not-is_ascii_digit.ensures.value)))

pub returns-then-n-gt65535 : goal.returns-then-n-gt65535
returns-then-n-gt65535 c =
    let w = c.args.word.now in
    let r = read_more w c.loop-b.n c.loop-b.b-index c.loop-b.invariant.1 c.loop-b-test.true c.from.result c.from.ensures (sym c.if-not-is_ascii_digit.ensures.value) in
    sym (too_great w (drop (c.loop-b.b-index + 1) w) (c.loop-b.n * 10 + c.from.result) r c.if-n-gt65535.true)

pub loop-b-preserved : goal.loop-b-preserved
loop-b-preserved c =
    let w = c.args.word.now in (
      c.if-n-gt65535.false,
      read_more w c.loop-b.n c.loop-b.b-index c.loop-b.invariant.1 c.loop-b-test.true c.from.result c.from.ensures (sym c.if-not-is_ascii_digit.ensures.value),
    )

pub returns : goal.returns
returns c =
    let w = c.args.word.now in
    sym (whole w (drop c.loop-b.b-index w) c.loop-b.n c.loop-b.invariant.1 (drop_all c.loop-b.b-index w c.loop-b-test.false) c.loop-b.invariant.0)
