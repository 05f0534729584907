-- The statements that the contracts name.
use Rattle.std.specs.Prelude.{ℕ, ◌↔◌, List, ◌++◌}
use Rattle.deduction.specs.Term.{Kind, Term, Formed, Occurs, In}
use Rattle.deduction.specs.Derive.{Way, Derives, Fresh}
use Rattle.deduction.specs.Compose.{Composable, Saturated}
use Rattle.deduction.specs.Cases.{Cases}

-- with held terms that are saturated, cover the givens and are derivable from them, composable and derivable are the same
abbrev pub ComposableIffDerivable : Type 0
ComposableIffDerivable =
    (givens held : List Term)
    → ((g : Term) → In g givens → Composable held g)
    → ((h : Term) → In h held → Derives givens h)
    → Saturated held
    → (t : Term) → Formed t → Composable held t ↔ Derives givens t

-- fresh names, added to the givens and to the held terms, leave it so: nothing has to be saturated again
abbrev pub FreshNamesKeepEquivalence : Type 0
FreshNamesKeepEquivalence =
    (givens held fresh : List Term)
    → ((g : Term) → In g givens → Composable held g)
    → ((h : Term) → In h held → Derives givens h)
    → Saturated held
    → ((f : Term) → In f fresh → Fresh givens f)
    → (t : Term) → Formed t → Composable (held ++ fresh) t ↔ Derives (givens ++ fresh) t

-- what comes from derivable terms in one of the seven ways is derivable
abbrev pub WaysKeepDerivable : Type 0
WaysKeepDerivable = (givens : List Term) (t : Term) → Way (Derives givens) t → Derives givens t

-- more givens derive at least as much
abbrev pub DerivabilityGrows : Type 0
DerivabilityGrows = (givens more : List Term) → ((g : Term) → In g givens → In g more) → (t : Term) → Derives givens t → Derives more t

-- givens that others derive add nothing to what these derive
abbrev pub DerivabilityIsTransitive : Type 0
DerivabilityIsTransitive =
    (givens others : List Term) → ((g : Term) → In g givens → Derives others g) → (t : Term) → Derives givens t → Derives others t

-- every name that occurs in a derivable term occurs in some given
abbrev pub NamesComeFromGivens : Type 0
NamesComeFromGivens =
    (givens : List Term) (t : Term) → Derives givens t
    → (k : Kind) (i : ℕ) → Occurs k i t → (g : Term) × In g givens × Occurs k i g

-- from well-formed givens only well-formed terms are derivable
abbrev pub DerivableIsFormed : Type 0
DerivableIsFormed = (givens : List Term) → ((g : Term) → In g givens → Formed g) → (t : Term) → Derives givens t → Formed t

-- the four cases of opening, for all names
abbrev pub OpenerCases : Type 0
OpenerCases = (m k t p : ℕ) → Cases m k t p
