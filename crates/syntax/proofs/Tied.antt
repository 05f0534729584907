-- The machine and the grammar agree.
use Rattle.std.proofs.Common.{◌≡◌, ℕ, List, [], ◌∷◌, sym, refl, ap, ◌∙◌, append-nil, arith}
use Rattle.syntax.specs.Grammar.{Tok, end, Line, blank, declares, owns, sends, line_tokens, Begins, GoesOn}
use Rattle.syntax.specs.declared.mode.Frame.{Frame}
use Rattle.syntax.specs.declared.mode.Mode.TheVariants.{Fresh, Done}
use Rattle.syntax.specs.Machine.{State, at, stuck, run, Runs}
use Rattle.syntax.proofs.Reading.{reads, reads_names, run_append, run_stuck}
use Rattle.syntax.proofs.Finishing.{backs, finish}

pub reads_line : (l : Line) → run (at Fresh []) (line_tokens l) ≡ at Done []
reads_line blank = refl
reads_line (declares k n ns) = reads_names ns
reads_line (owns p t) = reads t [] (end ∷ []) tt
reads_line (sends p q t) = reads t [] (end ∷ []) tt

pub begins_runs : (ts : List Tok) → Begins ts → Runs ts
begins_runs ts (l, r, e) = go (run (at Fresh []) ts) refl
  where
    go : (s : State) → run (at Fresh []) ts ≡ s → Runs ts
    go (at m fs) h = (m, fs, h)
    go stuck h =
        let a = sym (reads_line l) ∙ ap (run (at Fresh [])) e ∙ run_append (at Fresh []) ts r ∙ ap (λ s. run s r) h ∙ run_stuck r in
        let z : ◌≡◌ {A = ℕ} 0 1 = cc in
        absurd (omega arith)

pub runs_begins : (ts : List Tok) → Runs ts → Begins ts
runs_begins ts (m, fs, e) =
    let (q, f) = finish m fs in
    let (l, g) = backs (at Fresh []) ts m fs q e f in
    (l, q, sym g)

pub done_line : (ts : List Tok) (fs : List Frame) → run (at Fresh []) ts ≡ at Done fs → (l : Line) × (line_tokens l ≡ ts)
done_line ts fs e =
    let (l, g) = backs (at Fresh []) ts Done fs [] e refl in
    (l, sym g ∙ append-nil ts)

-- nothing follows a whole line
pub over : (ts : List Tok) (fs : List Frame) → run (at Fresh []) ts ≡ at Done fs → GoesOn ts → ⊥
over ts fs e (l, t, r, f) =
    let a : at Done [] ≡ stuck = sym (reads_line l) ∙ ap (run (at Fresh [])) f ∙ run_append (at Fresh []) ts (t ∷ r) ∙ ap (λ s. run s (t ∷ r)) e ∙ run_stuck r in
    cc

pub line_over : (ts : List Tok) → (l : Line) × (line_tokens l ≡ ts) → GoesOn ts → ⊥
line_over ts (l, e) g = over ts [] (ap (run (at Fresh [])) (sym e) ∙ reads_line l) g
