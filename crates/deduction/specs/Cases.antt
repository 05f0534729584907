-- What opens a sealed term, as a table of four cases.
use Rattle.std.specs.Prelude.{ℕ, [], ◌∷◌}
use Rattle.deduction.specs.Term.{party, number, shared, public, table, sealed, entry, name, built, mate}
use Rattle.deduction.specs.Derive.{Derives}

-- for a number m, a shared or public key k, a table t and a party p: a shared key opens what it sealed, a public key does not,
-- a public key opens what its mate sealed, and so does an entry that can be looked up
pub record Cases (m k t p : ℕ) : Type 0 where
  pub shared_opens : Derives (name shared k ∷ built sealed (name number m) (name shared k) ∷ []) (name number m)
  pub public_does_not_open : Derives (name public k ∷ built sealed (name number m) (name public k) ∷ []) (name number m) → ⊥
  pub public_opens_mate : Derives (name public k ∷ built sealed (name number m) (mate (name public k)) ∷ []) (name number m)
  pub entry_opens_mate :
      Derives (name table t ∷ name party p ∷ built sealed (name number m) (mate (built entry (name table t) (name party p))) ∷ []) (name number m)
