use Rattle.std.proofs.lemmas.Result.{err_from_is_err_and}
use Rattle.std.proofs.Common.{refl}
use Rattle.names.specs.Names.{known}
use Rattle.table_text.proofs.Keys.{key_refused, key_done}
use Rattle.table_text.proofs.key.key.Goals as goal

pub returns-in_err-base-clause-made : goal.returns-in_err-base-clause-made
returns-in_err-base-clause-made c = λ k ts apart ahead is.
    let q = err_from_is_err_and c.from_residual.result c.from_residual.ensures.1 in
    rw (q.1, q.2) (key_refused (known c.args.names.now) _ _ c.args.name _ _ _ _ c.in_err-base.ensures.made k ts apart ahead is
    c.in_err-base.field-0.0 refl)

pub returns-clause-made : goal.returns-clause-made
returns-clause-made c = λ k ts apart ahead is.
    key_done (known c.args.names.now) _ _ c.args.name _ _ _ _ c.in_ok-base.ensures.made k ts apart ahead is c.in_ok-base.base refl
    _ c.entry.ensures.text _ _ _ c.mates.ensures.made
