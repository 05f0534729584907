use Rattle.std.proofs.Common.{◌≡◌, ℕ, ◌<◌, ◌≤◌, ltb, length, sym, ◌∙◌, ⊎_elim, arith, le-ltb, lt-ltb, ne_eqb}
use Rattle.std.proofs.lemmas.Bool.{cases_lt}
use Rattle.provider.specs.Meaning.{Same}
use Rattle.terms.specs.Tree.{tree}
use Rattle.terms.proofs.Listed.{orderly}
use Rattle.terms.proofs.Trees.{numbers_apart}
use Rattle.symbolic_provider.specs.declared.store.SymbolicProvider.{SymbolicProvider}
use Rattle.symbolic_provider.specs.State.{nodes_of, issued_of}
use Rattle.symbolic_provider.specs.Issued.{stands_in, below}
use Rattle.symbolic_provider.proofs.store.SymbolicProvider.equals.Goals as goal

-- a handle is the same as itself where it was issued
same_self : (s : SymbolicProvider) (a n : ℕ) → n ≡ length (nodes_of s) → Same (issued_of s) a a (ltb a n)
same_self s a n e =
    ⊎_elim
    (λ (l : a < length (nodes_of s)).
    let st = stands_in (nodes_of s) (length (nodes_of s)) a l in
    rw (e, lt-ltb a (length (nodes_of s)) l) (tree (nodes_of s) a, st, st))
    (λ (g : length (nodes_of s) ≤ a).
    rw (e, le-ltb a (length (nodes_of s)) g) (λ x p q. let b = (below (nodes_of s) (length (nodes_of s)) a x p).0 in omega (arith, b, g)))
    (cases_lt a (length (nodes_of s)))

pub returns-then-a-b : goal.returns-then-a-b
returns-then-a-b c = rw (← c.if-a-b.true) (same_self c.args.self.now c.args.a c.len.result c.len.ensures.is)

pub returns-else-a-b : goal.returns-else-a-b
returns-else-a-b c =
    let s = c.args.self.now in
    let n = length (nodes_of s) in
    rw (ne_eqb c.args.a c.args.b c.if-a-b.false)
    (λ x p q.
    let u = below (nodes_of s) n c.args.a x p in
    let v = below (nodes_of s) n c.args.b x q in
    c.if-a-b.false (numbers_apart (nodes_of s) (orderly s.terms) c.args.a c.args.b u.0 v.0 (u.1 ∙ sym v.1)))
