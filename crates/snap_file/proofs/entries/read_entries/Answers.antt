use Rattle.std.proofs.Common.{◌≡◌, List, [], refl, sym, subst, ◌∙◌}
use Rattle.std.proofs.lemmas.Result.{err_from_is_err_and}
use Rattle.cells.specs.declared.cell.Cell.{Cell}
use Rattle.snap_file.specs.Table.{Tally, cells_behind}
use Rattle.snap_file.specs.Outcomes.{HasJudged}
use Rattle.snap_file.specs.Tallies.{tally_of}
use Rattle.snap_file.proofs.ListLemmas.{tally_at}
use Rattle.snap_file.proofs.StopLemmas.{stops_memory}
use Rattle.snap_file.proofs.entries.read_entries.Goals as goal

pub returns-in_err-read_cells-clause-err : goal.returns-in_err-read_cells-clause-err
returns-in_err-read_cells-clause-err g c =
    let p = err_from_is_err_and c.from_residual.result c.from_residual.ensures.1 in
    let none : c.reserve_exact-room.new.self.items ≡ [] = c.reserve_exact-room.ensures.items ∙ c.clear.ensures.items in
    rw (p.1, p.2) (λ s m k b h. c.in_err-read_cells.ensures.err s m [] k b
    (subst (λ (l : List Cell). HasJudged {S = g.row.R.Denot} g.R.Source.read_gives g.R.Source.failure_count m s
    c.args.r.now c.args.reader.now (cells_behind c.args.head.now c.args.most c.args.count
    (tally_at l 0 0 c.args.tally.now.counted) k)) (sym none) h))

pub returns-in_err-m-clause-err : goal.returns-in_err-m-clause-err
returns-in_err-m-clause-err g c =
    let p = err_from_is_err_and c.from_residual-in_err-m.result c.from_residual-in_err-m.ensures.1 in
    let none : c.reserve_exact-room.new.self.items ≡ [] = c.reserve_exact-room.ensures.items ∙ c.clear.ensures.items in
    rw (p.1, p.2, c.in_err-m.ensures.err) (λ s m k b h. stops_memory {S = g.row.R.Denot} g.R.Source.read_gives
    g.R.Source.failure_count (g.R.Source.at_end c.read_cells.new.r) m s c.read_cells.new.r c.read_cells.new.reader _
    (c.in_ok-read_cells.ensures.ok s m [] k
    (subst (λ (l : List Cell). HasJudged {S = g.row.R.Denot} g.R.Source.read_gives g.R.Source.failure_count m s
    c.args.r.now c.args.reader.now (cells_behind c.args.head.now c.args.most c.args.count
    (tally_at l 0 0 c.args.tally.now.counted) k)) (sym none) h)) (b _))

pub returns-clause-ok : goal.returns-clause-ok
returns-clause-ok g c = λ s m k h.
    let none : c.reserve_exact-room.new.self.items ≡ [] = c.reserve_exact-room.ensures.items ∙ c.clear.ensures.items in
    let t : Tally = tally_of [] c.read_cells.new.tally in (
      t,
      rw c.replace-cells.ensures.value at c.in_ok-m.ensures.ok,
      refl,
      c.in_ok-read_cells.ensures.ok s m [] k
          (subst (λ (l : List Cell). HasJudged {S = g.row.R.Denot} g.R.Source.read_gives g.R.Source.failure_count m s
          c.args.r.now c.args.reader.now (cells_behind c.args.head.now c.args.most c.args.count
          (tally_at l 0 0 c.args.tally.now.counted) k)) (sym none) h),
    )
