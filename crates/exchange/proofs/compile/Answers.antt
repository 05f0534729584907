use Rattle.std.proofs.lemmas.Result.{on_ok_weaker}
use Rattle.names.specs.Names.{known}
use Rattle.protocol.specs.View.{view_of}
use Rattle.exchange.proofs.Compiling.{law_of}
use Rattle.exchange.proofs.compile.Goals as goal

pub returns : goal.returns
returns g c =
    let p = c.read_lines-read.new.protocol in
    let ds = known c.read_lines-read.new.names in
    let read = c.read_lines-read.ensures in
    on_ok_weaker c.write_answer.result
    (λ w. record { answer = c.read_lines-read.result; declared = ds; protocol = p; read = read; refusals = law_of c.args.text.now c.read_lines-read.result ds (view_of p) read; written = w }) c.write_answer.ensures
