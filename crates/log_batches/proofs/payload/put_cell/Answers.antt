use Rattle.std.proofs.Common.{[], ◌++◌, ◌∙◌, ap, sym, take, List, ℕ}
use Rattle.std.proofs.lemmas.List.{append-nil}
use Rattle.std.specs.Int.{w64}
use Rattle.snap_file.specs.Spelling.{number_bytes}
use Rattle.log_batches.proofs.Filled.{three_fields}
use Rattle.log_batches.proofs.payload.put_cell.Goals as goal

pub returns-clause-bytes : goal.returns-clause-bytes
returns-clause-bytes c =
    let row = number_bytes w64 c.args.cell.row in
    let col = number_bytes w64 c.args.cell.col in
    let count = number_bytes w64 c.args.cell.count in
    three_fields (take c.args.at c.args.out.now) _ _ _ row col count c.put_number-at.ensures.bytes
    c.put_number-at-2.ensures.bytes c.put_number.ensures.bytes
    ∙ ap (λ (l : List ℕ). take c.args.at c.args.out.now ++ (row ++ (col ++ l))) (sym (append-nil count))
