-- What can be composed from held terms, and when held terms are saturated.
use Rattle.std.specs.Prelude.{◌⊎◌, List}
use Rattle.deduction.specs.Term.{pair, sealed, Term, name, built, mate, opener, among}
use Rattle.deduction.specs.Derive.{DerivesFrom}

-- a name or a mate is composable only if held, a two-part term if held or if both parts are composable
abbrev pub ComposableFrom : (Term → Type 0) → Term → Type 0
ComposableFrom Held (name k i) = Held (name k i)
ComposableFrom Held (built f a b) = Held (built f a b) ⊎ (ComposableFrom Held a × ComposableFrom Held b)
ComposableFrom Held (mate k) = Held (mate k)

-- composable from the listed terms
abbrev pub Composable : List Term → Term → Type 0
Composable held t = ComposableFrom (among held) t

-- no step that takes a held term apart is left: both halves of a held pair are composable,
-- and the content of a held sealed term is whenever the opener is
pub record SaturatedBy (Held : Term → Type 0) : Type 0 where
  pub lefts : (a b : Term) → Held (built pair a b) → ComposableFrom Held a
  pub rights : (a b : Term) → Held (built pair a b) → ComposableFrom Held b
  pub contents : (c k : Term) → Held (built sealed c k) → ComposableFrom Held (opener k) → ComposableFrom Held c

-- the listed terms are saturated
abbrev pub Saturated : List Term → Type 0
Saturated held = SaturatedBy (among held)

-- the held terms stand for what is given: each given is composable from them, each is derivable from the givens, and they are saturated
pub record Represents (Held Given : Term → Type 0) : Type 0 where
  pub covers : (t : Term) → Given t → ComposableFrom Held t
  pub sound : (t : Term) → Held t → DerivesFrom Given t
  pub saturated : SaturatedBy Held
