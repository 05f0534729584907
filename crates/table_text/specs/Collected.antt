-- The parts of a tuple as a list, and how they are put behind others.
use Rattle.std.specs.Prelude.{◌≡◌, ℕ, ◌++◌, List, [], ◌∷◌, Ok, Err, Result}
use Rattle.rules.specs.State.{State}
use Rattle.syntax.specs.Grammar.{Key, Term, Tok}
use Rattle.protocol.specs.declared.refusal.Refusal.{Refusal}
use Rattle.table_text.specs.Ahead.{Ahead}
use Rattle.table_text.specs.Calls.{Known, Is, Then, Made, KeyMade, Builds, Pairs, SEALED}

-- each of the terms from left to right; the answer is their numbers
abbrev pub EachMade : Known → List Term → State → Result (List ℕ) Refusal → State → Type 0
EachMade ds [] = Is []
EachMade ds (u ∷ us) = Then (Made ds u) (λ n. Then (EachMade ds us) (λ ns. Is (n ∷ ns)))

-- the tuple of these parts
abbrev pub TupleMade : Known → Term → List Term → State → Result ℕ Refusal → State → Type 0
TupleMade ds u us = Then (Made ds u) (λ a. Then (EachMade ds us) (λ bs. Pairs a bs))

-- the term t sealed with the key k
abbrev pub SealedMade : Known → Term → Key → State → Result ℕ Refusal → State → Type 0
SealedMade ds t k = Then (Made ds t) (λ a. Then (KeyMade ds k) (λ b. Builds SEALED a b))

-- each of the terms was made, and their numbers stand behind the others; or a call was refused
abbrev pub Collected : Known → List Term → List ℕ → List Tok → List ℕ → State → Result (Unit {0}) Refusal → ℕ → State → List ℕ → Type 0
Collected ds us text ts parts st (Ok x) q st' parts' = (ns : List ℕ) × EachMade ds us st (Ok ns) st' × (parts' ≡ parts ++ ns) × Ahead text q ts
Collected ds us text ts parts st (Err e) q st' parts' = EachMade ds us st (Err e) st'
