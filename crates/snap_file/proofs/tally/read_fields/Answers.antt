use Rattle.std.proofs.Common.{append_assoc, List, ◌++◌, ◌+◌, ◌<◌, sym, subst, ap, ◌∙◌, arith}
use Rattle.std.proofs.lemmas.Result.{err_from_is_err_and}
use Rattle.cells.specs.Sums.{cell_total}
use Rattle.cells.specs.declared.cell.Cell.{Cell}
use Rattle.cells.proofs.SumLaws.{total-push}
use Rattle.snap_file.specs.Table.{Tally, cells_behind}
use Rattle.snap_file.specs.Outcomes.{IsOfBytes, HasJudged}
use Rattle.snap_file.specs.declared.fault.SnapFault.TheVariants.{BadBatch, OutOfOrder, TotalDiffers}
use Rattle.snap_file.proofs.StopLemmas.{stops_refused, stops_memory, read_passed}
use Rattle.snap_file.proofs.BehindLemmas.{behind_cells}
use Rattle.snap_file.proofs.BelowLemmas.{read_below, read_within}
use Rattle.snap_file.proofs.tally.read_fields.Goals as goal

order_judged : IsOfBytes OutOfOrder
order_judged = (λ e. absurd cc, λ e. absurd cc)

pub returns-in_err-row-clause-err : goal.returns-in_err-row-clause-err
unfolding cells_behind
returns-in_err-row-clause-err g c =
    let p = err_from_is_err_and c.from_residual.result c.from_residual.ensures.1 in
    let some : 0 < c.rows.result = let d = c.rows.ensures.kept.dims in let v = c.rows.ensures.value in omega arith in
    rw (p.1, p.2) (λ s m n done k b h. c.in_err-row.ensures.err s m _
    (read_below {S = g.row.R.Denot} g.R.Source.read_gives g.R.Source.failure_count m s c.args.r.now c.args.reader.now
    _ _ BadBatch _ c.rows.ensures.value some h))

pub returns-in_err-col-clause-err : goal.returns-in_err-col-clause-err
unfolding cells_behind
returns-in_err-col-clause-err g c =
    let p = err_from_is_err_and c.from_residual-in_err-col.result c.from_residual-in_err-col.ensures.1 in
    let some : 0 < c.rows.result = let d = c.rows.ensures.kept.dims in let v = c.rows.ensures.value in omega arith in
    let any : 0 < c.cols.result = let d = c.cols.ensures.kept.dims in let v = c.cols.ensures.value in omega arith in
    rw (p.1, p.2) (λ s m n done k b h. c.in_err-col.ensures.err s m _
    (read_below {S = g.row.R.Denot} g.R.Source.read_gives g.R.Source.failure_count m s c.next_u64_in.new.r
    c.next_u64_in.new.self _ _ BadBatch _ c.cols.ensures.value any
    (c.in_ok-row.ensures.ok s m _
    (read_below {S = g.row.R.Denot} g.R.Source.read_gives g.R.Source.failure_count m s c.args.r.now c.args.reader.now
    _ _ BadBatch _ c.rows.ensures.value some h))))

pub returns-in_err-refuse-clause-err : goal.returns-in_err-refuse-clause-err
unfolding cells_behind
returns-in_err-refuse-clause-err g c =
    let p = err_from_is_err_and c.from_residual-in_err-refuse.result c.from_residual-in_err-refuse.ensures.1 in
    let x = c.in_err-refuse.ensures.err in
    let some : 0 < c.rows.result = let d = c.rows.ensures.kept.dims in let v = c.rows.ensures.value in omega arith in
    let any : 0 < c.cols.result = let d = c.cols.ensures.kept.dims in let v = c.cols.ensures.value in omega arith in
    rw (p.1, p.2, x.0) (λ s m n done k b h.
    stops_refused {S = g.row.R.Denot} g.R.Source.read_gives g.R.Source.failure_count
    (g.R.Source.at_end c.next_u64_in-2.new.r) m s c.next_u64_in-2.new.r c.next_u64_in-2.new.self _ OutOfOrder _
    (c.in_ok-col.ensures.ok s m _
    (read_below {S = g.row.R.Denot} g.R.Source.read_gives g.R.Source.failure_count m s c.next_u64_in.new.r
    c.next_u64_in.new.self _ _ BadBatch _ c.cols.ensures.value any
    (c.in_ok-row.ensures.ok s m _
    (read_below {S = g.row.R.Denot} g.R.Source.read_gives g.R.Source.failure_count m s c.args.r.now c.args.reader.now
    _ _ BadBatch _ c.rows.ensures.value some h))))
    (sym c.stands_before-early.ensures ∙ x.1) order_judged)

pub returns-in_err-count-clause-err : goal.returns-in_err-count-clause-err
unfolding cells_behind
returns-in_err-count-clause-err g c =
    let p = err_from_is_err_and c.from_residual-in_err-count.result c.from_residual-in_err-count.ensures.1 in
    let some : 0 < c.rows.result = let d = c.rows.ensures.kept.dims in let v = c.rows.ensures.value in omega arith in
    let any : 0 < c.cols.result = let d = c.cols.ensures.kept.dims in let v = c.cols.ensures.value in omega arith in
    rw (p.1, p.2) (λ s m n done k b h. c.in_err-count.ensures.err s m _
    (read_within {S = g.row.R.Denot} g.R.Source.read_gives g.R.Source.failure_count m s c.next_u64_in-2.new.r
    c.next_u64_in-2.new.self _ _ TotalDiffers _ c.requires.counted
    (read_passed {S = g.row.R.Denot} g.R.Source.read_gives g.R.Source.failure_count m s c.next_u64_in-2.new.r
    c.next_u64_in-2.new.self _ OutOfOrder _ (c.in_ok-col.ensures.ok s m _
    (read_below {S = g.row.R.Denot} g.R.Source.read_gives g.R.Source.failure_count m s c.next_u64_in.new.r
    c.next_u64_in.new.self _ _ BadBatch _ c.cols.ensures.value any
    (c.in_ok-row.ensures.ok s m _
    (read_below {S = g.row.R.Denot} g.R.Source.read_gives g.R.Source.failure_count m s c.args.r.now c.args.reader.now
    _ _ BadBatch _ c.rows.ensures.value some h))))
    (sym c.stands_before-early.ensures ∙ c.in_ok-refuse.ensures.ok))))

pub returns-in-Err-clause-err : goal.returns-in-Err-clause-err
unfolding cells_behind
returns-in-Err-clause-err g c =
    let some : 0 < c.rows.result = let d = c.rows.ensures.kept.dims in let v = c.rows.ensures.value in omega arith in
    let any : 0 < c.cols.result = let d = c.cols.ensures.kept.dims in let v = c.cols.ensures.value in omega arith in
    λ s m n done k b h.
    stops_memory {S = g.row.R.Denot} g.R.Source.read_gives g.R.Source.failure_count
    (g.R.Source.at_end c.next_u64_in-3.new.r) m s c.next_u64_in-3.new.r c.next_u64_in-3.new.self _
    (c.in_ok-count.ensures.ok s m _
    (read_within {S = g.row.R.Denot} g.R.Source.read_gives g.R.Source.failure_count m s c.next_u64_in-2.new.r
    c.next_u64_in-2.new.self _ _ TotalDiffers _ c.requires.counted
    (read_passed {S = g.row.R.Denot} g.R.Source.read_gives g.R.Source.failure_count m s c.next_u64_in-2.new.r
    c.next_u64_in-2.new.self _ OutOfOrder _ (c.in_ok-col.ensures.ok s m _
    (read_below {S = g.row.R.Denot} g.R.Source.read_gives g.R.Source.failure_count m s c.next_u64_in.new.r
    c.next_u64_in.new.self _ _ BadBatch _ c.cols.ensures.value any
    (c.in_ok-row.ensures.ok s m _
    (read_below {S = g.row.R.Denot} g.R.Source.read_gives g.R.Source.failure_count m s c.args.r.now c.args.reader.now
    _ _ BadBatch _ c.rows.ensures.value some h))))
    (sym c.stands_before-early.ensures ∙ c.in_ok-refuse.ensures.ok))))
    (behind_cells c.args.head.now c.args.most n _ k b)

pub returns-in-Ok-clause-ok : goal.returns-in-Ok-clause-ok
unfolding cells_behind
returns-in-Ok-clause-ok g c =
    let some : 0 < c.rows.result = let d = c.rows.ensures.kept.dims in let v = c.rows.ensures.value in omega arith in
    let any : 0 < c.cols.result = let d = c.cols.ensures.kept.dims in let v = c.cols.ensures.value in omega arith in
    λ s m n done k h.
    subst (λ (l : List Cell). HasJudged {S = g.row.R.Denot} g.R.Source.read_gives g.R.Source.failure_count m s
    c.next_u64_in-3.new.r c.next_u64_in-3.new.self
    (cells_behind c.args.head.now c.args.most n (let y : Tally = record {
      cells = l;
      least_row = c.in_ok-row.row;
      least_col = c.in_ok-col.col + 1;
      counted = c.args.tally.now.counted + c.in_ok-count.count;
    } in y) k))
    (sym (ap (λ (l : List Cell). done ++ l) c.in-Ok.ensures.items ∙
    sym (append_assoc done c.args.tally.now.cells.items _)))
    (c.in_ok-count.ensures.ok s m _
    (read_within {S = g.row.R.Denot} g.R.Source.read_gives g.R.Source.failure_count m s c.next_u64_in-2.new.r
    c.next_u64_in-2.new.self _ _ TotalDiffers _ c.requires.counted
    (read_passed {S = g.row.R.Denot} g.R.Source.read_gives g.R.Source.failure_count m s c.next_u64_in-2.new.r
    c.next_u64_in-2.new.self _ OutOfOrder _ (c.in_ok-col.ensures.ok s m _
    (read_below {S = g.row.R.Denot} g.R.Source.read_gives g.R.Source.failure_count m s c.next_u64_in.new.r
    c.next_u64_in.new.self _ _ BadBatch _ c.cols.ensures.value any
    (c.in_ok-row.ensures.ok s m _
    (read_below {S = g.row.R.Denot} g.R.Source.read_gives g.R.Source.failure_count m s c.args.r.now c.args.reader.now
    _ _ BadBatch _ c.rows.ensures.value some h))))
    (sym c.stands_before-early.ensures ∙ c.in_ok-refuse.ensures.ok))))

pub returns-in-Ok-clause-added : goal.returns-in-Ok-clause-added
returns-in-Ok-clause-added g c =
    let cell : Cell = record { row = c.in_ok-row.row; col = c.in_ok-col.col; count = c.in_ok-count.count } in
    let more = total-push c.args.tally.now.cells.items cell in
    omega (arith, more, ap cell_total c.in-Ok.ensures.items)
