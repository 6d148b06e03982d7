-- What `export --compact` says and saves.
--     compact_parts rows cols n  the three files of a matrix whose rows and columns are numbered anew by these labels
--     CompactTells .. fault      what a fault says: of the sum, or of a save that comes after it
--     ReadsBack rows cols n p count
--                                at some place n has this count, and the labels of that place are those of p
use Rattle.std.specs.Prelude.{◌≡◌, ℕ, ◌<◌, List, length, Some, Result}
use Rattle.std.specs.FinMap.{get}
use Rattle.hyper_matrix.specs.Counts.{Counts, Place}
use Rattle.snap_file.specs.Snapshots.{Saved}
use Rattle.snap_report.specs.declared.fault.CheckFault.{CheckFault}
use Rattle.snap_export.specs.Labels.{label, label_lines}
use Rattle.snap_export.specs.Compact.{compact_text}
use Rattle.snap_export.specs.Saved.{FilePart}
use Rattle.snap_export.specs.Files.{parts_of}
use Rattle.snap_export.specs.Several.{TellsSum}
use Rattle.snap_export.specs.declared.fault.ExportFault.{ExportFault}
use Rattle.snap_export.specs.declared.fault.ExportFault.TheVariants as fault

abbrev pub compact_parts : List ℕ → List ℕ → Counts → List FilePart
compact_parts rows cols n = parts_of (label_lines rows) (label_lines cols) (compact_text rows cols n)

abbrev pub CompactTells : {F : Type 0} → (F → ℕ → Result Saved CheckFault → F → Type 0) → F → F → ℕ → ExportFault →
    Type 0
CompactTells loads s t count (fault.Save told) = Unit {0}
CompactTells loads s t count told = TellsSum loads s t count told

-- the only fault that may change a folder
abbrev pub LeavesFiles : ExportFault → Type 0
LeavesFiles (fault.Save told) = Unit {0}
LeavesFiles _ = ⊥

abbrev pub ReadsBack : List ℕ → List ℕ → Counts → Place → ℕ → Type 0
ReadsBack rows cols n p count = (i : ℕ) × (j : ℕ) × (i < length rows) × (j < length cols)
    × (p ≡ (label rows i, label cols j)) × (get n (i, j) ≡ Some count)
