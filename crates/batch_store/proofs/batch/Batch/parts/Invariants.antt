use Rattle.std.proofs.Common.{◌≡◌, ◌++◌, map}
use Rattle.std.specs.Vec.Iter.{into_iter_items}
use Rattle.hyper_matrix.specs.Parts.{parts_below}
use Rattle.batch_store.specs.BatchParts.{unless_empty}
use Rattle.batch_store.proofs.batch.Batch.parts.Given as goal

abbrev pub invariant-all : goal.invariant-all
invariant-all l = record {
  can : goal.iterator-all.can_next l.part-iterator;
  finite : goal.iterator-all.is_finite l.part-iterator;
  told : l.parts.items ++ map unless_empty (into_iter_items l.part-iterator) ≡
      map unless_empty (parts_below l.k l.k l.self.matrix);
}
