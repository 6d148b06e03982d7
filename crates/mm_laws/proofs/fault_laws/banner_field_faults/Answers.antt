use Rattle.mm_laws.proofs.FaultLaws.{field_missing, field_unsupported, field_other}
use Rattle.mm_laws.proofs.fault_laws.banner_field_faults.Goals as goal

pub returns : goal.returns
returns c = record {
  missing = field_missing;
  unsupported = field_unsupported;
  other = field_other;
}
