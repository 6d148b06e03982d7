use Rattle.mm_laws.proofs.FaultLaws.{rows_missing, rows_number, rows_range}
use Rattle.mm_laws.proofs.fault_laws.size_rows_faults.Goals as goal

pub returns : goal.returns
returns c = record {
  missing = rows_missing;
  number = rows_number;
  range = rows_range;
}
