use Rattle.std.proofs.Common.{◌∙◌, sym}
use Rattle.std.specs.Cmp.Lexicographic.{nat_list_cmp_total}
use Rattle.std.specs.FinMap.{get-from_entries}
use Rattle.file_folder.specs.Memory.{listed}
use Rattle.file_folder.proofs.memory.MemoryFolder.file.Goals as goal

pub returns-in_err-at : goal.returns-in_err-at
returns-in_err-at c =
    rw c.from_residual.ensures (sym (get-from_entries nat_list_cmp_total (listed c.args.self.now.files.items)
    c.args.name.now ∙ rw (← c.deref.ensures.value) c.in_err-at.ensures.none))

pub returns : goal.returns
returns c =
    let read = get-from_entries nat_list_cmp_total (listed c.args.self.now.files.items) c.args.name.now in
    let found = rw c.deref.ensures.value at (c.in_ok-at.ensures.found c.index.result.now) in
    let item = c.index.ensures in
    let bytes = c.as_slice.ensures.value in
    sym (read ∙ rw bytes (rw (← item) at found))
