use Rattle.std.proofs.Common.{refl}
use Rattle.deduction.proofs.Cases.{opener_cases_lem}
use Rattle.cases.proofs.Cases.{late_key, still_fresh}
use Rattle.cases.proofs.known_cases.Goals as goal

pub returns : goal.returns
returns c = record {
  openers = opener_cases_lem;
  late_key = late_key;
  still_fresh = still_fresh;
  bytes = (refl, refl);
}
