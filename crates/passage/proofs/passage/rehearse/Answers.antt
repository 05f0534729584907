use Rattle.std.proofs.Common.{◌≡◌, cond, Some, None, subst, lit≤}
use Rattle.provider.specs.Meaning.{is_atom, stands}
use Rattle.passage.proofs.Arriving.{opens_again, arrives}
use Rattle.passage.proofs.passage.rehearse.Goals as goal

pub returns : goal.returns
returns g c =
    let p = g.P.Provider in
    let met = g.met.P.Provider in
    let s1 = c.atom.new.self in
    let s2 = c.reopen.new.provider in
    let s3 = c.seal.new.self in
    let s4 = c.open.new.self in
    let plan = c.in_ok-plan.plan in
    let key = c.in_ok-key.key in
    let again = c.in_ok-again.again in
    let sealed = c.in_ok-sealed.sealed in
    let opened = c.in_ok-opened.opened in
    let ek : stands (p.meaning s1).issued key ≡ Some (p.algebra.atom 2 7) =
    subst (λ kind. stands (p.meaning s1).issued key ≡ cond (is_atom kind 7) (Some (p.algebra.atom kind 7)) None) c.from-shared.ensures c.in_ok-key.ensures.answers.answer in
    let re = c.in_ok-again.ensures in
    let se = c.in_ok-sealed.ensures.answers in
    let op = c.in_ok-opened.ensures.answers in (
      opens_again p.proper p.algebra p.meaning met.mates met.seals met.holds s1 s2 s3 s4 plan key again sealed opened 7 (lit≤ tt) ek re se op c.same-tried.result c.same-tried.ensures,
      arrives p.proper p.algebra p.meaning met.mates met.seals met.holds s1 s2 s3 s4 plan key again sealed opened 7 (lit≤ tt) ek re se op c.same-arrived.result c.same-arrived.ensures,
    )
