use Rattle.rules.proofs.Theorems.{lines_fit}
use Rattle.rules.proofs.every_line_fits.Goals as goal

pub returns : goal.returns
returns c = lines_fit
