use Rattle.std.proofs.Common.{◌+◌, ◌≤◌, length, take, sym, ap, ◌∙◌, rules}
use Rattle.byte_provider.specs.Held.{held}
use Rattle.byte_provider.specs.Parts.{length_part}
use Rattle.byte_provider.proofs.Writing.{copied_to}
use Rattle.byte_provider.proofs.table.Table.copy.Goals as goal

pub returns : goal.returns
returns c =
    let t = c.args.self.now in
    let p = c.args.span in
    let l : t.used ≤ length t.bytes = search rules in
    record {
      bytes = ap (take (t.used + p.len)) c.copy_within.ensures.after ∙ copied_to t.bytes t.used p c.requires.inside (search rules);
      used = ap (λ n. t.used + n) (sym (length_part (held t) p c.requires.inside));
    }
