use Rattle.std.proofs.lemmas.Result.{err_from_is_err_and}
use Rattle.provider.proofs.Reopening.{at_mate, at_opening}
use Rattle.provider.proofs.round_trip.Goals as goal

pub returns-in_err-opener : goal.returns-in_err-opener
returns-in_err-opener g c =
    let p = g.P.Provider in
    let q = err_from_is_err_and c.from_residual-in_err-opener.result c.from_residual-in_err-opener.ensures.1 in
    rw (q.1, q.2) (at_mate p.proper p.algebra p.meaning g.met.P.Provider.seals g.met.P.Provider.holds c.in_ok-sealed.ensures.answers c.in_err-opener.field-0.0 c.in_err-opener.ensures.answers)

pub returns : goal.returns
returns g c =
    let p = g.P.Provider in
    at_opening p.proper p.algebra p.meaning g.met.P.Provider.seals g.met.P.Provider.holds c.in_ok-sealed.ensures.answers c.in_ok-opener.ensures.answers c.open.result c.open.ensures.answers
