use Rattle.deduction.proofs.Cases.{opener_cases_lem}
use Rattle.deduction.proofs.opener_cases.Goals as goal

pub returns : goal.returns
returns c = opener_cases_lem
