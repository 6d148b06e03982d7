use Rattle.std.proofs.Common.{◌≡◌, ◌++◌}
use Rattle.batch_store.specs.Folds.{entries_under}
use Rattle.batch_store.proofs.folded.entries_of_lines.Given as goal

abbrev pub invariant-lines : goal.invariant-lines
invariant-lines l = record {
  can : goal.iterator-lines.can_next l.pair-iterator;
  finite : goal.iterator-lines.is_finite l.pair-iterator;
  told : l.list.items ++ entries_under l.pair-iterator ≡ entries_under l.lines.entries;
}
