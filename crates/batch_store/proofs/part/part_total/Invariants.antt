use Rattle.std.proofs.Common.{◌≡◌, ◌+◌}
use Rattle.hyper_matrix.specs.Counts.{count_sum}
use Rattle.batch_store.specs.Parts.{part_of}
use Rattle.hyper_matrix.specs.Parts.{part_entries}
use Rattle.batch_store.proofs.part.part_total.Given as goal

abbrev pub invariant-add : goal.invariant-add
invariant-add l = record {
  can : goal.iterator-add.can_next l.cell-iterator;
  finite : goal.iterator-add.is_finite l.cell-iterator;
  rest : l.total + count_sum (part_entries l.s l.k l.cell-iterator) ≡ part_of l.s l.k l.m.counts;
}
