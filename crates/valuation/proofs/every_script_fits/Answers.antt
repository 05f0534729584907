use Rattle.valuation.proofs.States.{scripts_fit}
use Rattle.valuation.proofs.every_script_fits.Goals as goal

pub returns : goal.returns
returns c = scripts_fit
