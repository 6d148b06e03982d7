use Rattle.mm_laws.proofs.FaultLaws.{object_missing, object_other}
use Rattle.mm_laws.proofs.fault_laws.banner_object_faults.Goals as goal

pub returns : goal.returns
returns c = record {
  missing = object_missing;
  other = object_other;
}
