use Rattle.std.proofs.Common.{◌≤◌, length, refl, rules}
use Rattle.provider.specs.Meaning.{stands}
use Rattle.byte_provider.specs.State.{issued_of}
use Rattle.console.proofs.Showing.{shown_value, shown_none}
use Rattle.console.proofs.console.Console.show_bytes.Goals as goal

pub returns-in-Ok : goal.returns-in-Ok
returns-in-Ok c =
    let s = c.args.self.now in (
      shown_value (stands (issued_of s.bytes) c.args.handle) c.in-Ok.len s.shown c.read.new.out c.in-Ok.ensures,
      search rules,
      search rules,
    )

pub returns-in-Err : goal.returns-in-Err
returns-in-Err c =
    let s = c.args.self.now in
    let long : 32768 ≤ length s.shown = search rules in (
      shown_none s.bytes c.args.handle s.shown c.read.new.out c.in-Err.field-0 (stands (issued_of s.bytes) c.args.handle) refl long c.in-Err.ensures,
      search rules,
      search rules,
    )
