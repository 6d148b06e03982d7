use Rattle.std.proofs.Common.{◌≡◌, ℕ, ◌+◌, ◌++◌, List, [], take, sym, ◌∙◌, ap, subst, arith}
use Rattle.std.specs.FinMap.{entries, len-empty, len-entries}
use Rattle.std.proofs.lemmas.List.{take_all}
use Rattle.cell_queries.specs.declared.tally.RowTally.{RowTally}
use Rattle.cell_queries.specs.Heaps.{AreLed}
use Rattle.cell_queries.specs.Shards.{LieBelow, LieInShard}
use Rattle.cell_queries.specs.Tallies.{tallies}
use Rattle.cell_queries.specs.Tops.{IsTop}
use Rattle.cell_queries.proofs.ApartLaws.{led_joined, still_below}
use Rattle.hyper_matrix.specs.Counts.{Counts, ewise_add, place_cmp}
use Rattle.hyper_matrix.specs.Matrix.{Matrix}
use Rattle.layer_compaction.specs.Shared.{content}
use Rattle.layer_compaction.proofs.LayerLemmas.{empty-ewise_add}
use Rattle.plain_engine.specs.Views.{sights_content}
use Rattle.plain_engine.proofs.ViewLaws.{sights_more}
use Rattle.plain_engine.proofs.WalkLaws.{no_items}
use Rattle.plain_engine.proofs.export.ViewedSum.top_of_shards.Goals as goal

pub views-init : goal.views-init
views-init c =
    let none : [] ≡ tallies (entries (sights_content [])) =
    sym (ap tallies (no_items (entries (sights_content [])) (sym (len-entries (sights_content []))
    ∙ len-empty place_cmp ℕ))) in
    record {
      led = subst (λ (ts : List RowTally). AreLed c.args.by c.args.most ts c.new-leaders.result) none
          c.new-leaders.ensures;
      below = subst (LieBelow 0 c.len-k.result) none tt;
    }

pub offer_shard-requires : goal.offer_shard-requires
offer_shard-requires c = omega (arith, c.len-k.ensures, c.deref-view-items.ensures.len)

pub views-preserved : goal.views-preserved
views-preserved c =
    let s = c.views.s in
    let k = c.len-k.result in
    let items = c.deref-view-items.result.now in
    let seen = c.view-item.result in
    let a = sights_content (take s items) in
    let b = content seen.layers.layers in
    let sum : sights_content (take (s + 1) items) ≡ ewise_add a b = sights_more items s seen (omega arith) c.view-item.is
    in
    let cells : c.merged-cells.result ≡ b =
    c.merged-cells.ensures ∙ c.in_ok-add_to.ensures.sum ∙ ap (λ (m : Counts). ewise_add m b) c.new-sources.ensures
    ∙ empty-ewise_add b in
    let here : LieInShard s k (tallies (entries b)) =
    subst (λ (m : Counts). LieInShard s k (tallies (entries m))) cells
    (c.in_ok-offer_shard.ensures.tells.0 c.if-not-branch.false) in
    let led : AreLed c.args.by c.args.most (tallies (entries a) ++ tallies (entries b)) c.offer_shard.new.self =
    subst (λ (m : Counts). AreLed c.args.by c.args.most (tallies (entries a) ++ tallies (entries m))
    c.offer_shard.new.self) cells
    (c.in_ok-offer_shard.ensures.leads c.args.by c.args.most (tallies (entries a)) c.views.invariant.led
    c.if-not-branch.false) in
    record {
      led = subst (λ (m : Counts). AreLed c.args.by c.args.most (tallies (entries m)) c.offer_shard.new.self) (sym sum)
          (led_joined c.args.by c.args.most s k a b c.offer_shard.new.self c.views.invariant.below here led);
      below = subst (λ (m : Counts). LieBelow (s + 1) k (tallies (entries m))) (sym sum)
          (still_below s k a b c.views.invariant.below here);
    }

pub returns : goal.returns
returns c =
    let items = c.deref-view-items.result.now in
    let whole : sights_content (take c.views.s items) ≡ c.args.self.now.counts =
    ap sights_content (take_all c.views.s items (omega arith) ∙ c.deref-view-items.ensures.value)
    ∙ ap (λ (m : Matrix). m.counts) c.self.view_is in
    subst (λ (m : Counts). IsTop c.args.by c.args.most (tallies (entries m)) c.in_ok-into_rows.field-0.items) whole
    (c.in_ok-into_rows.ensures c.args.by c.args.most _ c.views.invariant.led)
