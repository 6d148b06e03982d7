use Rattle.std.proofs.Common.{sym, ap, ◌∙◌, subst, arith}
use Rattle.hyper_matrix.specs.Counts.{ewise_add}
use Rattle.hyper_matrix.specs.Matrix.{Matrix}
use Rattle.merged_cells.specs.Within.{LieWithin}
use Rattle.layer_compaction.specs.Shared.{content}
use Rattle.plain_engine.specs.Views.{HaveSize}
use Rattle.plain_engine.proofs.ViewLaws.{sights_more, size_at}
use Rattle.plain_engine.proofs.WalkLaws.{none_within}
use Rattle.plain_engine.proofs.export.ViewedSum.cells.Goals as goal

pub views-init : goal.views-init
views-init c = record {
  told = c.new-sources.ensures;
  within = none_within _ _ _ c.new-sources.ensures;
}

pub views-preserved : goal.views-preserved
views-preserved c =
    let seen = c.view-item.result in
    let items = c.deref-view-items.result.now in
    let v = c.self.inside.setup in
    let new = c.add_to.new.sources in
    let old = c.views.sources in
    let size = size_at v.rows v.cols items c.views.view-index seen
    (subst (HaveSize v.rows v.cols) (sym c.deref-view-items.ensures.value) c.self.invariant) (omega arith) c.view-item.is in
    let before : LieWithin v.rows v.cols old =
    subst (λ (m : Matrix). LieWithin m.rows m.cols old) (sym c.self.view_is) c.views.invariant.within in
    record {
      told = c.in_ok-add_to.ensures.sum
          ∙ ap (λ b. ewise_add b (content seen.layers.layers)) c.views.invariant.told
          ∙ sym (sights_more items c.views.view-index seen (omega arith) c.view-item.is);
      within =
          subst (λ (m : Matrix). LieWithin m.rows m.cols new) c.self.view_is
          (subst (λ n. LieWithin n v.cols new) size.0
          (subst (λ n. LieWithin seen.layers.rows n new) size.1
          (c.in_ok-add_to.ensures.within
          (subst (λ n. LieWithin seen.layers.rows n old) (sym size.1)
          (subst (λ n. LieWithin n v.cols old) (sym size.0) before)))));
    }
