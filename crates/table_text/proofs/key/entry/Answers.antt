use Rattle.names.specs.Names.{known}
use Rattle.table_text.proofs.Keys.{no_entry, an_entry}
use Rattle.table_text.proofs.key.entry.Goals as goal

pub returns-then-not-passes-clause-made : goal.returns-then-not-passes-clause-made
returns-then-not-passes-clause-made c = no_entry (known c.args.names.now) _ _ c.args.table _ _ c.if-not-passes.ensures.passes

pub returns-clause-made : goal.returns-clause-made
returns-clause-made c =
    an_entry (known c.args.names.now) _ _ c.args.table _ c.if-not-passes.ensures.passes _ c.if-not-passes.ensures.text c.name-party.result _ c.name-party.ensures.name
    _ c.name-party.ensures.text _ _ c.next-close.ensures.next _ _ _ c.table_entry.ensures
