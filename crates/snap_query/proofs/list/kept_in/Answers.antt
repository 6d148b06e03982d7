use Rattle.std.proofs.Common.{◌≡◌, ap, subst, sym, ◌∙◌, map, filter, rules}
use Rattle.std.proofs.lemmas.Fn.{filter_same}
use Rattle.std.proofs.lemmas.List.Elements.{All-filter}
use Rattle.cells.specs.Bounds.{IsWithin, AreWithin}
use Rattle.cells.specs.declared.cell.Cell.{Cell}
use Rattle.hyper_matrix.specs.Cells.{entry_of}
use Rattle.cell_queries.specs.Ranges.{is_in_range}
use Rattle.snap_query.proofs.RangeLaws.{entries_filtered}
use Rattle.snap_query.proofs.list.kept_in.Goals as goal

pub returns-clause-cells : goal.returns-clause-cells
returns-clause-cells c =
    let kept : c.retain.new.self.items ≡ filter (λ (x : Cell). is_in_range c.args.range.now (entry_of x)) c.args.cells.items =
    filter_same _ (λ (x : Cell). is_in_range c.args.range.now (entry_of x)) _ (λ x b f k. search rules)
    c.args.cells.items c.retain.new.self.items c.retain.ensures.filtered in
    ap (map entry_of) kept ∙ entries_filtered (is_in_range c.args.range.now) c.args.cells.items

pub returns-clause-within : goal.returns-clause-within
returns-clause-within c rows cols within =
    let kept : c.retain.new.self.items ≡ filter (λ (x : Cell). is_in_range c.args.range.now (entry_of x)) c.args.cells.items =
    filter_same _ (λ (x : Cell). is_in_range c.args.range.now (entry_of x)) _ (λ x b f k. search rules)
    c.args.cells.items c.retain.new.self.items c.retain.ensures.filtered in
    subst (AreWithin rows cols) (sym kept)
    (All-filter (λ (x : Cell). is_in_range c.args.range.now (entry_of x)) (IsWithin rows cols) c.args.cells.items within)
