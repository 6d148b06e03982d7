use Rattle.mm_laws.proofs.FaultLaws.{col_missing, col_number, col_range}
use Rattle.mm_laws.proofs.fault_laws.entry_column_faults.Goals as goal

pub returns : goal.returns
returns c = record {
  missing = λ rows cols line r i h re low high. col_missing rows cols line r i re low high h;
  number = λ rows cols line r w ws i k h re low high e. col_number rows cols line r i re low high w ws k h e;
  range = λ rows cols line r w ws i n h re low high e out. col_range rows cols line r i re low high w ws n h e out;
}
