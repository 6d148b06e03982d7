use Rattle.std.proofs.Common.{arith, refl, ◌<◌, ◌+◌, ap, ◌∙◌}
use Rattle.std.proofs.lemmas.Result.{err_from_is_err_and}
use Rattle.mm_text.proofs.TextReaderLemmas.{goes_none, goes_take, goes_fill, ends_fill, stops_here, stops_failed}
use Rattle.mm_text.proofs.TextReaderLemmas.{stops_end, same_size}
use Rattle.mm_text.proofs.text_reader.TextReader.read_block.Goals as goal

pub pieces-init : goal.pieces-init
pieces-init g c = record {
  room = c.requires.room;
  goes = goes_none {S = g.row.R.Denot} g.R.Source.read_gives c.args.r.now c.args.self.now c.args.block.now.items;
  failures = refl;
  grows = omega arith;
  size = λ s e. e;
}

pub returns-in_err-take_pending-clause-err : goal.returns-in_err-take_pending-clause-err
returns-in_err-take_pending-clause-err g c =
    let p = err_from_is_err_and c.from_residual.result c.from_residual.ensures.1 in
    rw (p.1, p.2) (stops_here {S = g.row.R.Denot} g.R.Source.read_gives c.args.r.now c.pieces.r c.args.self.now
    c.pieces.self c.args.block.now.items c.pieces.block.items c.pieces.invariant.goes
    _ _ c.take_pending.new.block.items _ _ c.in_err-take_pending.ensures.kept c.in_err-take_pending.ensures.err)

pub returns-then-most-len-le1-clause-ok : goal.returns-then-most-len-le1-clause-ok
returns-then-most-len-le1-clause-ok g c =
    goes_take {S = g.row.R.Denot} g.R.Source.read_gives c.args.r.now c.pieces.r c.args.self.now c.pieces.self
    c.args.block.now.items c.pieces.block.items c.pieces.invariant.goes
    c.take_pending.new.self c.take_pending.new.block.items c.in_ok-take_pending.ensures.ok

pub returns-in_err-fill-clause-err : goal.returns-in_err-fill-clause-err
returns-in_err-fill-clause-err g c =
    let p = err_from_is_err_and c.from_residual-in_err-fill.result c.from_residual-in_err-fill.ensures.1 in
    let go = goes_take {S = g.row.R.Denot} g.R.Source.read_gives c.args.r.now c.pieces.r c.args.self.now c.pieces.self
    c.args.block.now.items c.pieces.block.items c.pieces.invariant.goes
    c.take_pending.new.self c.take_pending.new.block.items c.in_ok-take_pending.ensures.ok in
    let e = c.in_err-fill.ensures.err in
    let failed = c.in_err-fill.ensures.failure ∙ ap (λ n. n + 1) c.pieces.invariant.failures in
    rw (p.1, p.2, e.0) (stops_failed {S = g.row.R.Denot} g.R.Source.read_gives c.args.r.now c.pieces.r c.args.self.now
    c.take_pending.new.self c.args.block.now.items c.take_pending.new.block.items go
    _ _ c.fill.new.r e.1.0 _ e.1.1 failed e.2)

pub returns-in_err-finish-clause-err : goal.returns-in_err-finish-clause-err
returns-in_err-finish-clause-err g c =
    let p = err_from_is_err_and c.from_residual-in_err-finish.result c.from_residual-in_err-finish.ensures.1 in
    let go = goes_take {S = g.row.R.Denot} g.R.Source.read_gives c.args.r.now c.pieces.r c.args.self.now c.pieces.self
    c.args.block.now.items c.pieces.block.items c.pieces.invariant.goes
    c.take_pending.new.self c.take_pending.new.block.items c.in_ok-take_pending.ensures.ok in
    let none = c.if-branch-eq0.true in
    let end = c.in_ok-fill.ensures.end none in
    rw (p.1, p.2) (stops_end {S = g.row.R.Denot} g.R.Source.read_gives c.args.r.now c.pieces.r c.args.self.now
    c.take_pending.new.self c.args.block.now.items c.take_pending.new.block.items go
    _ _ c.fill.new.r c.fill.new.self c.finish.new.block.items _ _ _ c.in_ok-fill.ensures.ok none end.0
    c.in_err-finish.ensures.kept c.in_err-finish.ensures.err)

pub returns-then-branch-eq0-clause-ok : goal.returns-then-branch-eq0-clause-ok
returns-then-branch-eq0-clause-ok g c =
    let go = goes_take {S = g.row.R.Denot} g.R.Source.read_gives c.args.r.now c.pieces.r c.args.self.now c.pieces.self
    c.args.block.now.items c.pieces.block.items c.pieces.invariant.goes
    c.take_pending.new.self c.take_pending.new.block.items c.in_ok-take_pending.ensures.ok in
    let none = c.if-branch-eq0.true in
    let end = c.in_ok-fill.ensures.end none in
    ends_fill {S = g.row.R.Denot} g.R.Source.read_gives c.args.r.now c.pieces.r c.args.self.now c.take_pending.new.self
    c.args.block.now.items c.take_pending.new.block.items go
    g.R.Source.at_end c.fill.new.r c.fill.new.self c.finish.new.self c.finish.new.block.items _ c.in_ok-fill.ensures.ok
    none end.0 c.in_ok-finish.ensures.ok

pub returns-then-branch-eq0-clause-size : goal.returns-then-branch-eq0-clause-size
returns-then-branch-eq0-clause-size g c = λ s e.
    c.in_ok-finish.ensures.ok.size_kept s (same_size c.take_pending.new.self c.fill.new.self c.in_ok-fill.ensures.same
    s (c.in_ok-take_pending.ensures.ok.size_kept s (c.pieces.invariant.size s e)))

pub pieces-preserved : goal.pieces-preserved
pieces-preserved g c =
    let go = goes_take {S = g.row.R.Denot} g.R.Source.read_gives c.args.r.now c.pieces.r c.args.self.now c.pieces.self
    c.args.block.now.items c.pieces.block.items c.pieces.invariant.goes
    c.take_pending.new.self c.take_pending.new.block.items c.in_ok-take_pending.ensures.ok in
    let some : 0 < c.in_ok-fill.field-0 = let n = c.if-branch-eq0.false in omega arith in
    record {
      room = c.in_ok-take_pending.ensures.room;
      goes = goes_fill {S = g.row.R.Denot} g.R.Source.read_gives c.args.r.now c.pieces.r c.args.self.now
          c.take_pending.new.self c.args.block.now.items c.take_pending.new.block.items go
          c.fill.new.r c.fill.new.self c.in_ok-fill.field-0 c.in_ok-fill.ensures.ok some;
      failures = c.in_ok-fill.ensures.no_failure ∙ c.pieces.invariant.failures;
      grows = let g = c.take_pending.ensures.grows in let h = c.pieces.invariant.grows in omega arith;
      size = λ s e. same_size c.take_pending.new.self c.fill.new.self c.in_ok-fill.ensures.same s
          (c.in_ok-take_pending.ensures.ok.size_kept s (c.pieces.invariant.size s e));
    }
