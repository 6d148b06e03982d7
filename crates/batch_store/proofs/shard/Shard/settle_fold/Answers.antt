use Rattle.std.proofs.Common.{◌≡◌, ◌++◌, ◌∙◌, ap, sym, subst, length}
use Rattle.std.specs.Arc.{arc_value}
use Rattle.indexmap.specs.IndexMap.{spare}
use Rattle.hyper_matrix.specs.Matrix.{matrix}
use Rattle.layer_cascade.specs.Layering.{Layering}
use Rattle.batch_store.specs.Parts.{record_content}
use Rattle.batch_store.specs.Shards.{holding, recorded, KeepsShard}
use Rattle.batch_store.specs.ShardFolds.{FoldsFront}
use Rattle.batch_store.proofs.ShardFoldLaws.{made_due, shard_settled, folds_front}
use Rattle.batch_store.proofs.shard.Shard.settle_fold.Goals as goal

pub replace_below-below-requires : goal.replace_below-below-requires
replace_below-below-requires c =
    let s = c.self.inside in
    (made_due s.setup s.number s.layers.below (arc_value s.base) _ (recorded s.sealed.entries) s.due c.self.invariant.1
    c.in_ok-base.ensures.below c.in_ok-base.ensures.some).0
    ∙ (λ i. matrix (sym c.self.invariant.0.rows i) (sym c.self.invariant.0.cols i) s.layers.below)

new_is : (c : goal.After-replace-sealed) → arc_value c.replace-base.new.dest ≡ matrix c.self.inside.setup.rows
    c.self.inside.setup.cols (record_content c.self.inside.number c.self.inside.setup.shards
    (arc_value c.self.inside.base).counts (recorded c.self.inside.sealed.entries))
new_is c =
    let s = c.self.inside in
    let made = made_due s.setup s.number s.layers.below (arc_value s.base) _ (recorded s.sealed.entries) s.due
    c.self.invariant.1 c.in_ok-base.ensures.base c.in_ok-base.ensures.some in
    ap arc_value c.replace-base.ensures.after ∙ made.0 ∙ ap (matrix s.setup.rows s.setup.cols) made.1

pub invariant_of-self : goal.invariant_of-self
invariant_of-self c =
    let s = c.self.inside in (
      subst (λ l. KeepsShard s.setup s.number l (arc_value c.replace-base.new.dest)
          (c.replace-sealed.new.dest.entries ++ s.held.entries)) (sym c.replace_below-below.ensures)
          (shard_settled s.setup s.number s.layers (arc_value s.base) _ s.sealed.entries s.held.entries _
          c.self.invariant.0 (new_is c)
          (ap (λ m. m.entries) c.replace-sealed.ensures.after ∙ c.with_hasher-none.ensures.empty)),
      tt,
    )

pub returns-clause-folded : goal.returns-clause-folded
returns-clause-folded c =
    let s = c.self.inside in (
      length s.sealed.entries,
      subst (λ (l : Layering). FoldsFront (length s.sealed.entries) c.args.self.now
          (holding s.setup s.number l.layers l.below (arc_value c.replace-base.new.dest).counts
          (recorded (c.replace-sealed.new.dest.entries ++ s.held.entries)) (spare s.held))) (sym c.replace_below-below.ensures)
          (folds_front s.setup s.number s.layers (arc_value s.base) _ s.sealed.entries s.held.entries _
          c.self.invariant.0 (new_is c)
          (ap (λ m. m.entries) c.replace-sealed.ensures.after ∙ c.with_hasher-none.ensures.empty) _ _ c.self.view_is),
    )
