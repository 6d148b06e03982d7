use Rattle.std.proofs.Common.{◌≡◌, ◌++◌}
use Rattle.std.specs.Vec.Iter.{into_iter_items}
use Rattle.batch_store.specs.Batches.{values}
use Rattle.log_start.specs.Found.{lists_of}
use Rattle.log_start.specs.Records.{joined}
use Rattle.log_start.proofs.read.flatten.Given as goal

abbrev pub invariant-each : goal.invariant-each
invariant-each l = record {
  can : goal.iterator-each.can_next l.block-iterator;
  finite : goal.iterator-each.is_finite l.block-iterator;
  told : values l.all.items ++ joined (lists_of (into_iter_items l.block-iterator)) ≡
      joined (lists_of l.fn.blocks.items);
}
