use Rattle.mm_laws.proofs.FaultLaws.{cols_missing, cols_number, cols_range, cols_square}
use Rattle.mm_laws.proofs.fault_laws.size_columns_faults.Goals as goal

pub returns : goal.returns
returns c = record {
  missing = λ symmetric most line r rows h re rd. cols_missing symmetric most line r rows re rd h;
  number = λ symmetric most line r w ws rows k h re rd e. cols_number symmetric most line r rows re rd w ws k h e;
  range = λ symmetric most line r w ws rows n h re rd e out. cols_range symmetric most line r rows re rd w ws n h e out;
  square = cols_square;
}
