use Rattle.mm_laws.proofs.FaultLaws.{entries_missing, entries_number, entries_most, size_fourth}
use Rattle.mm_laws.proofs.fault_laws.size_entries_faults.Goals as goal

pub returns : goal.returns
returns c = record {
  missing = λ symmetric most line r c rows cols h re rd ce cd q. entries_missing symmetric most line r rows re rd c
      cols ce cd q h;
  number = λ symmetric most line r c w ws rows cols k h re rd ce cd q e. entries_number symmetric most line r rows re
      rd c cols ce cd q w ws k h e;
  most = λ symmetric most line r c w ws rows cols n h re rd ce cd q e many. entries_most symmetric most line r rows re
      rd c cols ce cd q w ws n h e many;
  fourth = λ symmetric most line r c w x ws rows cols n h re rd ce cd q e few. size_fourth symmetric most line r rows
      re rd c cols ce cd q w x ws n h e few;
}
