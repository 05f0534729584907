use Rattle.std.proofs.Common.{◌≡◌, ℕ, ◌+◌, ◌<◌, false, ◌||◌, get_or, is_some, take, sym, ◌∙◌, ap, rules}
use Rattle.scripts.specs.Holding.{no_line}
use Rattle.scripts.specs.Lines.{is_number, slot_of}
use Rattle.scripts.proofs.Slots.{marked_more}
use Rattle.scripts.proofs.script.Script.held.Goals as goal
use Rattle.scripts.proofs.script.Script.held.Goals.{in-Some, in_default}

pub loop-line-init : goal.loop-line-init
loop-line-init c = record { marks = λ t l. c.none-marks.ensures.marks t; size = c.none-marks.ensures.size }

pub loop-line-preserved : goal.loop-line-preserved
loop-line-preserved c =
    let i = c.loop-line.invariant in
    let lines = c.lines-line-items.result.now in
    let n = c.loop-line.line-index in
    let more : (t : ℕ) → t < 512 → (get_or c.loop-line.marks t false || is_number t (get_or lines n no_line).holds) ≡ is_some (slot_of 0 (take (n + 1) lines) t) =
    λ t l. marked_more lines n t _ c.loop-line-test.true (i.marks t l) in
    elim c.match-line.branch [
      | in-Some w ↦ rw w.marks-is (record { marks = λ t l. w.insert.ensures.marks t l ∙ ap (λ h. get_or c.loop-line.marks t false || is_number t h) (sym w.in-Some.is) ∙ more t l; size = w.insert.ensures.size ∙ i.size })
      | in_default w ↦ rw w.marks-is (record { marks = λ t l. search rules; size = i.size })
    ]
