-- What finding and adding a record owe.
use Rattle.std.proofs.Common.{◌≡◌, ℕ, ◌<◌, true, List, [], ◌∷◌, ◌++◌, length, Some, None, Ok, Err, Option, Result, MatchResult, IfOk, OnOk, OnErr, sym, refl, ap, ◌∙◌, subst, inr, arith}
use Rattle.std.proofs.lemmas.List.{length_push}
use Rattle.terms.specs.declared.node.Kind.TheVariants.{Party}
use Rattle.terms.specs.declared.node.TermNode.{TermNode}
use Rattle.terms.specs.declared.node.TermNode.TheVariants.{Name, Built, Mate}
use Rattle.bounded.specs.Items.{items}
use Rattle.bounded.specs.declared.list.BoundedVec.{BoundedVec}
use Rattle.bounded.specs.declared.list.Full.{Full as NoPlace}
use Rattle.terms.specs.declared.node.TermError.{TermError}
use Rattle.terms.specs.declared.node.TermError.TheVariants.{Full}
use Rattle.terms.specs.declared.table.Terms.{Terms}
use Rattle.terms.specs.Listed.{listed, Inserted}
use Rattle.terms.specs.Node.{PartsBelow, fits}
use Rattle.terms.specs.Tree.{tree, tree_of, Orderly}
use Rattle.terms.specs.Outcome.{Known, Proper, Absent, Keeps, Stands, FoundFirst, Found, FoundTree}
use Rattle.terms.proofs.Trees.{tree_at, numbers_apart, record_of}
use Rattle.terms.proofs.Formed.{fit_at, asymmetric_at}
use Rattle.terms.proofs.Grow.{tree_append, orderly_push, new_tree}
use Rattle.terms.proofs.Listed.{orderly, listed_few, same_nodes}

-- parts that are terms have numbers below the next one
pub known_below : (ts : List TermNode) (r : TermNode) → Known ts r → PartsBelow (length ts) r
known_below ts (Name k i) h = (omega arith, omega arith)
known_below ts (Built f a b) h = let ha = h.0 in let hb = h.1 in (omega arith, omega arith)
known_below ts (Mate a) h = (omega arith, omega arith)

-- parts of the right kinds pass the test on records
pub proper_fits : (ts : List TermNode) (r : TermNode) → Orderly ts → Known ts r → Proper ts r → fits ts r ≡ true
proper_fits ts (Name k i) ok h p = refl
proper_fits ts (Built f a b) ok h p = (fit_at ts ok f a b h.0 h.1).1 p
proper_fits ts (Mate a) ok h p = (asymmetric_at ts ok a h).1 p

pub keeps_push : (ts : List TermNode) (r : TermNode) → Orderly ts → Keeps ts (ts ++ r ∷ [])
keeps_push ts r ok i l = (omega (arith, length_push ts r), tree_append ts (r ∷ []) ok.lower i l)

-- the first number that has a record has it
pub found_first : (ts : List TermNode) (r : TermNode) (o : Option ℕ) → FoundFirst ts r o → Found ts r o
found_first ts r None none = λ k l. none k (Name Party 0) (omega arith) l
found_first ts r (Some n) w = (w.0, w.1 (Name Party 0))

-- the number that has a record is the one that stands for its tree
pub found_tree : (ts : List TermNode) (r : TermNode) (o : Option ℕ) → Orderly ts → Found ts r o → FoundTree ts r o
found_tree ts r None ok none = λ known i l e. none i l (record_of ts ok r i (known_below ts r known) l e)
found_tree ts r (Some n) ok (l, e) =
    let is = tree_at ts ok.lower n r l e in
    (is, λ i m q. numbers_apart ts ok i n m l (q ∙ sym is))

-- putting a record that may be added behind the others of a table
module _ {N : ℕ} (t : Terms N) (r : TermNode) (known : Known (listed t) r) (proper : Proper (listed t) r) (absent : Absent (listed t) r) where
  pub orderly_pushed : (v : BoundedVec TermNode N) (p : Result ℕ NoPlace) → OnOk p (items v ≡ listed t ++ r ∷ []) → OnErr p (v ≡ t.nodes) → Orderly (items v)
  orderly_pushed v (Ok n) more same = subst Orderly (sym more) (orderly_push (listed t) r (orderly t) (known_below (listed t) r known) (proper_fits (listed t) r (orderly t) known proper) absent)
  orderly_pushed v (Err e) more same = subst (λ w. Orderly (items w)) (sym same) (orderly t)

  stands_new : (us : List TermNode) → us ≡ listed t ++ r ∷ [] → Stands us (Ok (length (listed t))) (tree_of r (tree (listed t)))
  stands_new us e =
      subst (λ vs. Stands vs (Ok (length (listed t))) (tree_of r (tree (listed t)))) (sym e)
      (omega (arith, length_push (listed t) r), new_tree (listed t) r (orderly t) (known_below (listed t) r known) (proper_fits (listed t) r (orderly t) known proper) absent)

  pub inserted_pushed : (u : Terms N) (p : Result ℕ NoPlace) (o : Result ℕ TermError) → OnOk p (listed u ≡ listed t ++ r ∷ []) → IfOk p (λ n. n ≡ length (listed t))
      → OnErr p (length (listed t) ≡ N) → OnErr p (u.nodes ≡ t.nodes) → MatchResult p (λ n. o ≡ Ok n) (λ e. o ≡ Err Full) → Inserted t r o u
  inserted_pushed u (Ok n) o more place full same is =
      let room : length (listed t) < N = omega (arith, listed_few u, ap length more, length_push (listed t) r) in
      subst (λ q. Inserted t r q u) (sym (is ∙ ap Ok place)) (record {
        outcome = (known, proper, inr (absent, room, refl, more));
        stands = stands_new (listed u) more;
        keeps = subst (Keeps (listed t)) (sym more) (keeps_push (listed t) r (orderly t));
        unchanged = tt;
      })
  inserted_pushed u (Err e) o more place full same is =
      let kept = same_nodes t u same in
      subst (λ q. Inserted t r q u) (sym is) (record {
        outcome = ((known, proper, absent, full), ap listed kept);
        stands = tt;
        keeps = subst (λ w. Keeps (listed t) (listed w)) (sym kept) (λ i l. (l, refl));
        unchanged = kept;
      })
