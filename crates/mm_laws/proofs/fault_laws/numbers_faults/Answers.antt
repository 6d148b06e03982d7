use Rattle.mm_laws.proofs.FaultLaws.{number_none, number_too_large}
use Rattle.mm_laws.proofs.fault_laws.numbers_faults.Goals as goal

pub returns : goal.returns
returns c = record {
  none = number_none;
  too_large = number_too_large;
}
