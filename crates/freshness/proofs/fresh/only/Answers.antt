use Rattle.std.proofs.Common.{nat_eq, ◌||◌, ap, ◌∙◌}
use Rattle.freshness.proofs.fresh.only.Goals as goal

pub returns : goal.returns
returns c = record {
  marks = λ u l. c.insert.ensures.marks u l ∙ ap (λ b. b || nat_eq c.args.term u) (c.none-marks.ensures.marks u);
  size = c.insert.ensures.size ∙ c.none-marks.ensures.size;
}
