use Rattle.std.proofs.Common.{◌≡◌, take}
use Rattle.merged_cells.specs.Within.{LieWithin}
use Rattle.plain_engine.specs.Views.{sights_content}
use Rattle.plain_engine.proofs.export.ViewedSum.cells.Given as goal

abbrev pub invariant-views : goal.invariant-views
invariant-views l = record {
  told : l.sources ≡ sights_content (take l.view-index l.view-items);
  within : LieWithin l.self.rows l.self.cols l.sources;
}
