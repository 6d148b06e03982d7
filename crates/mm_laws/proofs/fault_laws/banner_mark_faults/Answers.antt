use Rattle.mm_laws.proofs.FaultLaws.{banner_empty, banner_blank, banner_other}
use Rattle.mm_laws.proofs.fault_laws.banner_mark_faults.Goals as goal

pub returns : goal.returns
returns c = record {
  missing = banner_empty;
  behind_blank = banner_blank;
  other = banner_other;
}
