-- Which faults of `sum` leave something written, and what the fault of one text is among several.
use Rattle.std.specs.Prelude.{ℕ}
use Rattle.mm_sum.specs.declared.fault.SumFault.{SumFault}
use Rattle.mm_sum.specs.declared.fault.SumFault.TheVariants.{BadCuts, Text, SumTooLarge, Memory, Output}
use Rattle.mm_sum.specs.declared.fault.TextsFault.{TextsFault}
use Rattle.mm_sum.specs.declared.fault.TextsFault.TheVariants as texts

abbrev pub IsOutput : SumFault → Type 0
IsOutput BadCuts = ⊥
IsOutput (Text fault) = ⊥
IsOutput SumTooLarge = ⊥
IsOutput Memory = ⊥
IsOutput (Output fault) = Unit {0}

-- the same of several texts
abbrev pub LeavesText : TextsFault → Type 0
LeavesText texts.BadCuts = ⊥
LeavesText (texts.File text fault) = ⊥
LeavesText (texts.Text text fault) = ⊥
LeavesText (texts.DimensionsDiffer text) = ⊥
LeavesText texts.SumTooLarge = ⊥
LeavesText texts.Memory = ⊥
LeavesText (texts.Output fault) = Unit {0}

-- a fault of the text of this number is its own, and every other that of all
abbrev pub fault_within : ℕ → SumFault → TextsFault
fault_within text BadCuts = texts.BadCuts
fault_within text (Text fault) = texts.Text text fault
fault_within text SumTooLarge = texts.SumTooLarge
fault_within text Memory = texts.Memory
fault_within text (Output fault) = texts.Output fault
