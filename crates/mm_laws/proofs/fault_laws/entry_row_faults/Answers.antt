use Rattle.mm_laws.proofs.FaultLaws.{row_missing, row_number, row_range}
use Rattle.mm_laws.proofs.fault_laws.entry_row_faults.Goals as goal

pub returns : goal.returns
returns c = record {
  missing = row_missing;
  number = row_number;
  range = row_range;
}
