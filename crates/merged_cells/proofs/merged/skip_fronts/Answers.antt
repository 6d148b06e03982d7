use Rattle.std.proofs.Common.{sym, ◌∙◌}
use Rattle.std.specs.BinaryHeap.{heap_items}
use Rattle.std.proofs.lemmas.Bool.{false≢true}
use Rattle.merged_cells.proofs.SkipLaws.{all_skipped}
use Rattle.merged_cells.proofs.merged.skip_fronts.Goals as goal

pub returns-clause-left : goal.returns-clause-left
returns-clause-left c =
    all_skipped c.args.place c.skip.first (heap_items c.skip.others) c.skip.invariant.kept
    (λ before. false≢true (sym c.skip-test.false ∙ c.begins_before.ensures.1 before)) ∙ c.skip.invariant.same
