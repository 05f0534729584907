-- The law on runs.
use Rattle.std.specs.Prelude.{◌≡◌, ℕ, ◌+◌, ◌-◌, ◌<◌, ◌≤◌, ◌⊎◌, List, length, Some, Result, MatchResult, slice_index}
use Rattle.deduction.specs.Term.{Term}
use Rattle.provider.specs.declared.ProviderError.TheVariants.{Full}
use Rattle.provider.specs.Algebra.{Algebra}
use Rattle.provider.specs.Meaning.{Meaning}
use Rattle.terms.specs.declared.node.TermNode.{TermNode}
use Rattle.scripts.specs.declared.instruction.Line.{Line}
use Rattle.rules.specs.State.{nth}
use Rattle.rules.specs.History.{History, Came, Stands}
use Rattle.parts.specs.Granted.{granted}
use Rattle.parts.specs.Parts.{initial, begin}
use Rattle.parts.specs.Sames.{sames_of}
use Rattle.acting.specs.declared.halt.Halt.{Halt}
use Rattle.acting.specs.declared.instruction.Part.{Part}
use Rattle.acting.specs.declared.refusal.SessionRefusal.TheVariants.{ProviderFull}
use Rattle.acting.specs.Carrying.{line_act}
use Rattle.acting.specs.Loading.{node_act}
use Rattle.acting.specs.Standing.{StandsFor, NoRoom}
use Rattle.protocol.specs.declared.step.Step.{Step}
use Rattle.protocol.specs.States.{state_by}
use Rattle.runs.specs.declared.fault.Played.{Played}
use Rattle.runs.specs.declared.fault.RunFault.{RunFault}
use Rattle.runs.specs.Memory.{lines_at, base_of, Enough}

-- Step l, from a to b with the message of number n, which stands for the term t, was sent right: what the sender put into the slot of
-- its SEND stands for the value of t, and so does the reading of the message.
pub record Sent {S X : Type 0} (f : Algebra X) (m : S → Meaning X) (ps : List (List Line)) (ss : List Step) (s : S) (readings slots : List ℕ) (l a b n : ℕ) (t : Term) : Type 0 where
  pub step : Step
  pub stored : nth ss l ≡ Some step
  pub from : step.sender ≡ a
  pub to : step.receiver ≡ b
  pub message : StandsFor f (m s).issued (slice_index slots (base_of ps a + (step.sent - 1))) t
  pub reading : StandsFor f (m s).issued (slice_index readings n) t

-- Full, at the term or the instruction of this number
abbrev pub full_at : ℕ → Halt
full_at n = record { at = n; error = Full }

-- the instruction is in the part that the party carries out there: before the first step, or in the step as its sender or its receiver
abbrev pub InPart : List TermNode → List (List Line) → List Step → RunFault → ℕ → Type 0
InPart ts ps ss e n =
    ((e.step ≡ 64) × (n < initial (state_by ts ps ss) e.party))
    ⊎ ((x : Step) × (nth ss e.step ≡ Some x)
    × (((e.party ≡ x.sender) × (begin (state_by ts ps ss) e.step x.sender ≤ n) × (n < x.sent)) ⊎ ((e.party ≡ x.receiver) × (begin (state_by ts ps ss) e.step x.receiver ≤ n) × (n < x.received))))

-- what was asked for does not fit: the making of the named term, or that of the named instruction of the named party's script
abbrev pub Unfitting : {S X : Type 0} → (S → Meaning X) → List TermNode → List (List Line) → List Step → S → List ℕ → List ℕ → RunFault → ℕ → Type 0
Unfitting m ts ps ss s readings slots e n =
    ((e.step ≡ 64) × (e.party ≡ 0) × NoRoom m node_act ts s readings (full_at n))
    ⊎ ((1 ≤ e.party) × (e.party < length ps) × InPart ts ps ss e n
    × ((part : Part) × NoRoom m (line_act readings part (base_of ps e.party)) (lines_at ps e.party) s slots (full_at n)))

-- stopped by Full alone, where what was asked for does not fit
pub record Short {S X : Type 0} (m : S → Meaning X) (ts : List TermNode) (ps : List (List Line)) (ss : List Step) (s : S) (readings slots : List ℕ) (e : RunFault) : Type 0 where
  pub place : ℕ
  pub full : e.refusal ≡ ProviderFull place
  pub unfitting : Unfitting m ts ps ss s readings slots e place

-- a step with this receiver was sent before the stop: an earlier one than the named, or the named one if its receiver was stopped
abbrev pub SentBefore : RunFault → ℕ → ℕ → Type 0
SentBefore e l b = ((l < e.step) × (e.step < 64)) ⊎ ((l ≡ e.step) × (b ≡ e.party))

-- The run was right by its history. Unstopped: all granted steps were played, all comparisons of the parties' scripts done, and every
-- step was sent right. Stopped: by Full alone, where what was asked for does not fit, and every step before was sent right.
abbrev pub RanRight : {S X : Type 0} → Algebra X → (S → Meaning X) → History → List TermNode → List (List Line) → List Step → Result Played RunFault → S → List ℕ → List ℕ → Type 0
RanRight f m past ts ps ss r s readings slots =
    MatchResult r
    (λ p. (p.steps ≡ length (granted past)) × (p.sames ≡ sames_of (state_by ts ps ss))
    × ((l a b n : ℕ) (t : Term) → nth (granted past) l ≡ Some (a, b, n) → Stands past n t → Sent f m ps ss s readings slots l a b n t))
    (λ e. Short m ts ps ss s readings slots e
    × ((l a b n : ℕ) (t : Term) → nth (granted past) l ≡ Some (a, b, n) → Stands past n t → SentBefore e l b → Sent f m ps ss s readings slots l a b n t))

-- the law on runs: with enough memory, whatever history led to the protocol, the run was right
abbrev pub RunLaw : {S X : Type 0} → Algebra X → (S → Meaning X) → List TermNode → List (List Line) → List Step → List ℕ → List ℕ → Result Played RunFault → S → List ℕ → List ℕ → Type 0
RunLaw f m ts ps ss readings slots r s' readings' slots' =
    (past : History) → Came past (state_by ts ps ss) → Enough ts ps readings slots → RanRight f m past ts ps ss r s' readings' slots'
