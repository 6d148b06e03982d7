use Rattle.std.proofs.Common.{◌≡◌, ap, sym, arith, ◌∙◌}
use Rattle.std.proofs.lemmas.List.{length-map}
use Rattle.std.specs.Arc.{arc_value}
use Rattle.layer_compaction.specs.Shared.{values}
use Rattle.batch_store.specs.Pieces.{Cut}
use Rattle.batch_store.proofs.PieceLaws.{piece_read, only_piece, cells_rise, cells_lie, cells_fit, cells_build}
use Rattle.batch_store.proofs.pieces.Pieces.sum.Goals as goal

pub returns-then-len-eq1 : goal.returns-then-len-eq1
returns-then-len-eq1 c =
    let items = c.self.inside.list.items in
    let whole = c.args.self.now in
    let one : whole.count ≡ 1 = sym (ap (λ (x : Cut). x.count) c.self.view_is) ∙ length-map items arc_value
    ∙ omega (arith, c.len.ensures, c.if-len-eq1.true) in
    c.in_ok-only.ensures ∙ c.deref.ensures
    ∙ piece_read 0 c.self.inside.rows c.self.inside.cols whole items c.index.result.now c.self.view_is
    (omega (arith, one)) c.self.invariant.pieces c.index.ensures
    ∙ only_piece whole.count whole.whole one

pub from_sorted-requires-clause-rises : goal.from_sorted-requires-clause-rises
from_sorted-requires-clause-rises c = cells_rise c.self.inside.rows c.self.inside.cols c.args.self.now
    (values c.self.inside.list.items) c.in_ok-list.list.items c.self.inside.entries c.self.inside.total c.self.view_is
    c.self.invariant c.in_ok-list.ensures

pub from_sorted-requires-clause-within : goal.from_sorted-requires-clause-within
from_sorted-requires-clause-within c = cells_lie c.self.inside.rows c.self.inside.cols c.args.self.now
    (values c.self.inside.list.items) c.in_ok-list.list.items c.self.inside.entries c.self.inside.total c.self.view_is
    c.self.invariant c.in_ok-list.ensures

pub from_sorted-requires-clause-fits : goal.from_sorted-requires-clause-fits
from_sorted-requires-clause-fits c = cells_fit c.self.inside.rows c.self.inside.cols c.args.self.now
    (values c.self.inside.list.items) c.in_ok-list.list.items c.self.inside.entries c.self.inside.total c.self.view_is
    c.self.invariant c.in_ok-list.ensures

pub returns : goal.returns
returns c = c.in_ok-sum.ensures.value ∙ cells_build c.self.inside.rows c.self.inside.cols c.args.self.now
    (values c.self.inside.list.items) c.in_ok-list.list.items c.self.inside.entries c.self.inside.total c.self.view_is
    c.self.invariant c.in_ok-list.ensures
