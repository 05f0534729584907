use Rattle.std.proofs.Common.{sym, ◌∙◌}
use Rattle.std.proofs.lemmas.List.{length-map}
use Rattle.names.specs.Names.{known}
use Rattle.protocol.specs.View.{view_of}
use Rattle.table_text.proofs.Law.{law_granted, law_refused}
use Rattle.table_text.proofs.table.read_table.Goals as goal

pub returns-in-Ok-clause-reads : goal.returns-in-Ok-clause-reads
returns-in-Ok-clause-reads c = (known c.read_lines.new.names, c.in-Ok.ensures, c.steps.ensures ∙ sym (length-map _ _))

pub returns-in-Ok-clause-law : goal.returns-in-Ok-clause-law
returns-in-Ok-clause-law c = law_granted c.args.text.now c.steps.result (known c.read_lines.new.names) (view_of c.read_lines.new.protocol) c.in-Ok.ensures

pub returns-in-Err-clause-law : goal.returns-in-Err-clause-law
returns-in-Err-clause-law c = law_refused c.args.text.now c.in-Err.fault (known c.read_lines.new.names) (view_of c.read_lines.new.protocol) c.in-Err.ensures
