use Rattle.std.proofs.Common.{◌∙◌, ◌≡◌, ◌++◌, ap, sym, length, arith}
use Rattle.std.specs.FinMap.{len-entries}
use Rattle.std.proofs.lemmas.Result.{err_from_is_err_and}
use Rattle.snap_file.specs.Spelling.{cells_bytes}
use Rattle.snap_file.proofs.WriteLemmas.{writing_more, cells_begin, cell_next, count_begun}
use Rattle.snap_file.proofs.write.write_pieces.Goals as goal

pub returns-in_err-make_room-clause-err : goal.returns-in_err-make_room-clause-err
returns-in_err-make_room-clause-err g c =
    let p = err_from_is_err_and c.from_residual.result c.from_residual.ensures.1 in rw (p.1, p.2) (λ s all left h.
    c.in_err-make_room.ensures.err s all _ h)

pub loop-cell-init : goal.loop-cell-init
loop-cell-init g c =
    let order = c.into_iter-cell-iterator.ensures.into_iter_gives ∙ c.cells-cell-items.ensures.order in
    let counted : length c.into_iter-cell-iterator.result ≡ c.entries.result = ap length order ∙
    sym (len-entries c.args.m.now.whole.counts) ∙ sym c.entries.ensures in
    record {
      can = tt;
      finite = tt;
      failures = c.in_ok-make_room.ensures.failures;
      counted = count_begun _ _ _ _ _ _ c.in_ok-make_room.ensures.count c.push_u64.ensures.taken
          c.push_u64.ensures.length (rw counted (omega arith));
      written = λ s all left h.
          cells_begin _ _ s _ all c.push_u64.new.self _ _ left
          (writing_more _ _ s _ all _ _ left c.make_room.new.self c.push_u64.new.self
          (c.in_ok-make_room.ensures.ok s all _ h)
          c.push_u64.ensures.taken (rw c.entries.ensures at c.push_u64.ensures.pending)
          (rw c.entries.ensures at c.push_u64.ensures.remainder)) order;
    }

pub loop-cell-preserved : goal.loop-cell-preserved
loop-cell-preserved g c =
    let step = c.in-Some.ensures.steps in
    let old = c.loop-cell.invariant in
    record {
      can = tt;
      finite = tt;
      failures = c.in_ok-write_cell.ensures.failures ∙ old.failures;
      counted = omega (arith, c.in_ok-write_cell.ensures.count, old.counted, ap length step);
      written = λ s all left h.
          c.in_ok-write_cell.ensures.ok s all (cells_bytes c.next.new.self ++ left)
          (cell_next _ _ s _ all c.loop-cell.writer c.loop-cell.cell-iterator c.in-Some.cell c.next.new.self left
          (old.written s all left h) step);
    }

pub returns-in_err-write_cell-clause-err : goal.returns-in_err-write_cell-clause-err
returns-in_err-write_cell-clause-err g c =
    let p = err_from_is_err_and c.from_residual-in_err-write_cell.result c.from_residual-in_err-write_cell.ensures.1 in
    rw (p.1, p.2) (λ s all left h.
    c.in_err-write_cell.ensures.err s all _ (c.loop-cell.invariant.written s all left h))
