-- What the first items of a list are lent for, and what is left of the others.
use Rattle.std.proofs.Common.{◌≡◌, ℕ, List, ◌++◌, length, take, drop, replicate, Result, sym, refl, ap, ◌∙◌, subst, arith}
use Rattle.std.proofs.lemmas.Slice.{drop-append-drop}
use Rattle.std.proofs.lemmas.List.{take_at}
use Rattle.provider.specs.Algebra.{Algebra}
use Rattle.provider.specs.Meaning.{Meaning}
use Rattle.protocol.specs.declared.protocol.Protocol.{Protocol}
use Rattle.runs.specs.declared.fault.Played.{Played}
use Rattle.runs.specs.declared.fault.RunFault.{RunFault}
use Rattle.runs.specs.Whole.{RanOf}
use Rattle.console.specs.declared.answer.Answer.TheVariants.{Run}
use Rattle.console.specs.declared.workspace.Workspace.{Workspace}
use Rattle.console.specs.Workspaces.{RunsOn, lent_of}

-- what was lent is written, and the rest is as it was
pub runs_on : {S X : Type 0} (f : Algebra X) (m : S → Meaning X) (p : Protocol) (w : Workspace) (s : S) (r : Result Played RunFault) (w' : Workspace) (s' : S) (ys slots : List ℕ) → length ys ≡ w.lent.readings → w'.readings ≡ ys ++ drop w.lent.readings w.readings → w'.sessions ≡ w.sessions → w'.lent ≡ w.lent → RanOf f m p s (lent_of w) (take w.lent.slots (replicate 4096 0)) r s' ys slots → RunsOn f m p w s (Run r) w' s'
runs_on f m p w s r w' s' ys slots len readings sessions lent ran =
    let n = w.lent.readings in
    let first : lent_of w' ≡ ys = ap (λ l. take l.readings w'.readings) lent ∙ ap (take n) readings ∙ take_at ys (drop n w.readings) n len in
    let rest : drop n w'.readings ≡ drop n w.readings = ap (drop n) readings ∙ drop-append-drop n w.readings ys n (omega arith) len in
    record {
      result = r;
      slots = slots;
      ran = subst (λ v. RanOf f m p s (lent_of w) (take w.lent.slots (replicate 4096 0)) r s' v slots) (sym first) ran;
      kept = record { rest = rest; sessions = sessions; lent = lent };
      told = refl;
    }
