use Rattle.mm_laws.proofs.FaultLaws.{count_missing, count_negative, count_number, entry_fourth}
use Rattle.mm_laws.proofs.fault_laws.entry_count_faults.Goals as goal

pub returns : goal.returns
returns c = record {
  missing = λ rows cols line r c i j h re low high ce from to. count_missing rows cols line r i re low high c j ce from
      to h;
  negative = λ rows cols line r c w ws i j h re low high ce from to m. count_negative rows cols line r i re low high c
      j ce from to w ws h m;
  number = λ rows cols line r c w ws i j k h re low high ce from to m e. count_number rows cols line r i re low high c
      j ce from to w ws k h m e;
  fourth = λ rows cols line r c w x ws i j n h re low high ce from to e. entry_fourth rows cols line r i re low high c
      j ce from to w x ws n h e;
}
