use Rattle.std.proofs.Common.{◌≡◌, ◌+◌, ◌∙◌, ◌++◌, [], ℕ, List, ap, sym, take, length, arith}
use Rattle.std.proofs.lemmas.List.{append-nil}
use Rattle.std.specs.FinMap.{entries, len, len-entries}
use Rattle.std.specs.Int.{w64}
use Rattle.hyper_matrix.specs.Cells.{entry_of}
use Rattle.snap_file.specs.Spelling.{number_bytes, cell_bytes, cells_bytes, matrix_bytes}
use Rattle.log_batches.proofs.Sizes.{length-matrix, length-cells}
use Rattle.log_batches.proofs.Filled.{part_put, all_put, cells_begun}
use Rattle.log_batches.proofs.payload.put_matrix.Goals as goal

pub loop-cell-init : goal.loop-cell-init
loop-cell-init c =
    let order = c.into_iter-cell-iterator.ensures.into_iter_gives ∙ c.iter-cell-items.ensures.order in
    let counted : length c.into_iter-cell-iterator.result ≡ len c.args.m.now.counts = ap length order ∙
    sym (len-entries c.args.m.now.counts) in
    let all = length-matrix c.args.m.now.counts in
    record {
      can = tt;
      finite = tt;
      counted = omega (arith, c.put_number-end.ensures.place);
      long = c.put_number-end.ensures.len;
      written = cells_begun (take c.args.at c.args.out.now) _ c.entries.result c.args.m.now.counts
          c.into_iter-cell-iterator.result order c.entries.ensures c.put_number-end.ensures.bytes;
    }

pub put_cell-end-requires : goal.put_cell-end-requires
put_cell-end-requires c =
    let step = ap length c.in-Some.ensures.steps in
    omega (arith, step, c.loop-cell.invariant.counted, c.loop-cell.invariant.long)

pub loop-cell-preserved : goal.loop-cell-preserved
loop-cell-preserved c =
    let step = c.in-Some.ensures.steps in
    let old = c.loop-cell.invariant in
    record {
      can = tt;
      finite = tt;
      counted = omega (arith, c.put_cell-end.ensures.place, old.counted, ap length step);
      long = c.put_cell-end.ensures.len ∙ old.long;
      written = part_put (take c.args.at c.args.out.now) (take c.loop-cell.end c.loop-cell.out) _
          (matrix_bytes c.args.m.now.counts) (cell_bytes (entry_of c.in-Some.cell)) (cells_bytes c.next.new.self)
          c.put_cell-end.ensures.bytes
          (ap (λ l. take c.loop-cell.end c.loop-cell.out ++ cells_bytes l) (sym step) ∙ old.written);
    }

pub put_number-end-requires : goal.put_number-end-requires
put_number-end-requires c = let all = length-matrix c.args.m.now.counts in omega (arith, c.requires)

pub returns-clause-place : goal.returns-clause-place
returns-clause-place c =
    let none = ap length c.in-None.ensures.steps.0 in omega (arith, none, c.loop-cell.invariant.counted)

pub returns-clause-bytes : goal.returns-clause-bytes
returns-clause-bytes c =
    all_put (take c.args.at c.args.out.now) (take c.loop-cell.end c.loop-cell.out) (matrix_bytes c.args.m.now.counts)
    (cells_bytes c.loop-cell.cell-iterator) (ap cells_bytes c.in-None.ensures.steps.0) c.loop-cell.invariant.written
