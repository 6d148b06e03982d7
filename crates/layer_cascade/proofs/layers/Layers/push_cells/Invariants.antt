use Rattle.std.proofs.Common.{◌≡◌, take}
use Rattle.cells.specs.Bounds.{AreWithin}
use Rattle.hyper_matrix.specs.Cells.{built_of}
use Rattle.hyper_matrix.specs.Counts.{ewise_add}
use Rattle.layer_compaction.specs.Shared.{content, values, all_counts}
use Rattle.layer_cascade.proofs.layers.Layers.push_cells.Given as goal

abbrev pub invariant-layers : goal.invariant-layers
invariant-layers l = record {
  told : built_of l.out.items ≡ ewise_add (built_of l.fn.out.items)
      (content (take l.layer-index (all_counts (values l.layer-items))));
  within : AreWithin l.self.rows l.self.cols l.fn.out.items → AreWithin l.self.rows l.self.cols l.out.items;
}
