use Rattle.std.proofs.Common.{◌≡◌, ◌≢◌, Some, None, Err, rules}
use Rattle.provider.specs.declared.ProviderError.TheVariants.{Wrong}
use Rattle.terms.specs.Outcome.{Opens}
use Rattle.symbolic_provider.specs.State.{nodes_of}
use Rattle.symbolic_provider.proofs.Parts.{open_unsealed, open_done, open_other}
use Rattle.symbolic_provider.proofs.store.SymbolicProvider.make_open.Goals as goal

pub returns-in_err-content : goal.returns-in_err-content
returns-in_err-content c =
    let is : c.from_residual.result ≡ Err Wrong = search rules in
    let none : c.parts_at.result ≡ None = search rules in
    rw is (open_unsealed c.args.self.now c.args.sealed c.args.opener (rw none at c.parts_at.ensures))

pub returns-then-eq : goal.returns-then-eq
returns-then-eq c =
    let some : c.parts_at.result ≡ Some (c.in_ok-content.content, c.in_ok-content.key) = search rules in
    let opens : c.opener.result ≡ Some c.args.opener = search rules in
    let op : Opens (nodes_of c.args.self.now) c.in_ok-content.key (Some c.args.opener) = rw opens at c.opener.ensures in
    open_done c.args.self.now c.args.sealed _ (rw some at c.parts_at.ensures) c.args.opener op

pub returns-else-eq : goal.returns-else-eq
returns-else-eq c =
    let some : c.parts_at.result ≡ Some (c.in_ok-content.content, c.in_ok-content.key) = search rules in
    let other : c.opener.result ≢ Some c.args.opener = search rules in
    open_other c.args.self.now c.args.sealed _ (rw some at c.parts_at.ensures) c.args.opener c.opener.result c.opener.ensures other
