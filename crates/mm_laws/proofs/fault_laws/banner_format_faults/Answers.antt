use Rattle.mm_laws.proofs.FaultLaws.{format_missing, format_unsupported, format_other}
use Rattle.mm_laws.proofs.fault_laws.banner_format_faults.Goals as goal

pub returns : goal.returns
returns c = record {
  missing = format_missing;
  unsupported = format_unsupported;
  other = format_other;
}
