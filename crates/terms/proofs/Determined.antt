-- The outcome of inserting a record is determined: one answer, and one list of records after it.
use Rattle.std.proofs.Common.{◌≡◌, ℕ, List, Ok, Err, Result, sym, refl, ap, ◌∙◌, inl, inr, arith}
use Rattle.terms.specs.declared.node.TermNode.{TermNode}
use Rattle.terms.specs.declared.node.TermError.{TermError}
use Rattle.terms.specs.declared.node.TermError.TheVariants.{Unknown, WrongKind, Full}
use Rattle.terms.specs.Tree.{Orderly}
use Rattle.terms.specs.Outcome.{Known, Proper, Refuses, Places, Inserts}
use Rattle.terms.proofs.Trees.{record_once}

module _ (N : ℕ) (ts : List TermNode) (ok : Orderly ts) (r : TermNode) where
  places_once : (m n : ℕ) (us vs : List TermNode) → Places N ts r m us → Places N ts r n vs → (m ≡ n) × (us ≡ vs)
  places_once m n us vs (inl (p, e)) (inl (q, f)) = (record_once ts ok m n p.0 q.0 (p.1 ∙ sym q.1), e ∙ sym f)
  places_once m n us vs (inl (p, e)) (inr q) = absurd (q.0 m p.0 p.1)
  places_once m n us vs (inr p) (inl (q, f)) = absurd (p.0 n q.0 q.1)
  places_once m n us vs (inr p) (inr q) = (p.2 ∙ sym q.2, p.3 ∙ sym q.3)

  refuses_once : (d e : TermError) → Refuses N ts r d → Refuses N ts r e → d ≡ e
  refuses_once Unknown Unknown p q = refl
  refuses_once Unknown WrongKind p q = absurd (p q.0)
  refuses_once Unknown Full p q = absurd (p q.0)
  refuses_once WrongKind Unknown p q = absurd (q p.0)
  refuses_once WrongKind WrongKind p q = refl
  refuses_once WrongKind Full p q = absurd (p.1 q.1)
  refuses_once Full Unknown p q = absurd (q p.0)
  refuses_once Full WrongKind p q = absurd (q.1 p.1)
  refuses_once Full Full p q = refl

  never_both : (n : ℕ) (us : List TermNode) (e : TermError) → Known ts r → Proper ts r → Places N ts r n us → Refuses N ts r e → ⊥
  never_both n us Unknown known proper p q = q known
  never_both n us WrongKind known proper p q = q.1 proper
  never_both n us Full known proper (inl (p, e)) q = q.2 n p.0 p.1
  never_both n us Full known proper (inr p) q = let room = p.1 in let full = q.3 in omega arith

  pub inserts_once : (o p : Result ℕ TermError) (us vs : List TermNode) → Inserts N ts r o us → Inserts N ts r p vs → (o ≡ p) × (us ≡ vs)
  inserts_once (Ok m) (Ok n) us vs (known, proper, x) y = let q = places_once m n us vs x y.2 in (ap Ok q.0, q.1)
  inserts_once (Ok m) (Err e) us vs (known, proper, x) y = absurd (never_both m us e known proper x y.0)
  inserts_once (Err d) (Ok n) us vs x (known, proper, y) = absurd (never_both n vs d known proper y x.0)
  inserts_once (Err d) (Err e) us vs x y = (ap Err (refuses_once d e x.0 y.0), x.1 ∙ sym y.1)
