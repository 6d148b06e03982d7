use Rattle.std.proofs.Common.{◌∙◌, ◌++◌, ap}
use Rattle.batch_store.specs.Folds.{entries_under}
use Rattle.batch_store.proofs.folded.entries_of_lines.Goals as goal

pub lines-init : goal.lines-init
lines-init c = record {
  can = tt;
  finite = tt;
  told = ap (λ xs. xs ++ entries_under c.into_iter-pair-iterator.result) c.in_ok-list.ensures.items
      ∙ ap entries_under (c.into_iter-pair-iterator.ensures.into_iter_gives ∙ c.iter-pair-items.ensures.rest);
}
