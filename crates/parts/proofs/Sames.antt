-- Comparisons are counted part by part.
use Rattle.std.proofs.Common.{◌≡◌, ℕ, ◌+◌, [], ◌∷◌, ◌++◌, take, drop, sym, ap, ◌∙◌, add_assoc, zero-add}
use Rattle.std.proofs.lemmas.List.{take-append-drop}
use Rattle.rules.specs.Script.{Script}
use Rattle.parts.specs.Sames.{is_same, sames}

pub sames_append : (s r : Script) → sames (s ++ r) ≡ sames s + sames r
sames_append [] r = sym (zero-add (sames r))
sames_append (l ∷ s) r = ap (λ n. is_same l.op + n) (sames_append s r) ∙ sym (add_assoc (is_same l.op) (sames s) (sames r))

-- up to a place, and from there on
pub sames_split : (s : Script) (k : ℕ) → sames (take k s) + sames (drop k s) ≡ sames s
sames_split s k = sym (sames_append (take k s) (drop k s)) ∙ ap sames (take-append-drop k s)
