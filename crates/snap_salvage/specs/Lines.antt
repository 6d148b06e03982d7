-- What `salvage` says.
--     kind_name kind      the name of a fault of a log
--     left_text left      the numbers of what is left out
--     end_text end left   what ends the batches, and what is left out
--     salvage_line batches total end left
--                         the line: so many batches, their total, what ends them, and what is left out
use Rattle.std.specs.Prelude.{ℕ, List, [], ◌∷◌, ◌++◌, codes, decimal}
use Rattle.log_blocks.specs.declared.fault.LogKind.{LogKind}
use Rattle.log_blocks.specs.declared.fault.LogKind.TheVariants as kind
use Rattle.snap_salvage.specs.declared.salvage_end.SalvageEnd.{SalvageEnd}
use Rattle.snap_salvage.specs.declared.salvage_end.SalvageEnd.TheVariants as until
use Rattle.snap_salvage.specs.declared.left.Left.{Left}

abbrev pub kind_name : LogKind → List ℕ
kind_name kind.Read = codes "Read"
kind_name kind.Memory = codes "Memory"
kind_name kind.Truncated = codes "Truncated"
kind_name kind.BadMark = codes "BadMark"
kind_name kind.BadVersion = codes "BadVersion"
kind_name kind.BadHead = codes "BadHead"
kind_name kind.HeadCheck = codes "HeadCheck"
kind_name kind.Damaged = codes "Damaged"
kind_name kind.BadBlock = codes "BadBlock"
kind_name kind.TooLong = codes "TooLong"

abbrev pub left_text : Left → List ℕ
left_text left =
    (codes " pages " ++ decimal left.pages) ++ (codes " whole " ++ decimal left.whole)
    ++ (codes " batches " ++ decimal left.batches)

abbrev pub end_text : SalvageEnd → Left → List ℕ
end_text until.Whole left = codes "the end"
end_text (until.Fault fault) left =
    kind_name fault.kind ++ (codes " at page " ++ decimal fault.page) ++ left_text left
end_text (until.Gap first) left = (codes "Gap at batch " ++ decimal first) ++ left_text left

abbrev pub salvage_line : ℕ → ℕ → SalvageEnd → Left → List ℕ
salvage_line batches total end left =
    (codes "salvaged " ++ decimal batches) ++ (codes " total " ++ decimal total) ++ codes " until " ++
    end_text end left ++ 10 ∷ []
