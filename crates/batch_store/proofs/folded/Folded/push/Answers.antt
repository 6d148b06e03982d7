use Rattle.std.proofs.Common.{refl, ◌∙◌, ap, position}
use Rattle.batch_store.specs.Folds.{Fold}
use Rattle.batch_store.specs.Verdicts.{same_pair}
use Rattle.batch_store.proofs.FoldLaws.{absent_new, fold_push}
use Rattle.batch_store.proofs.folded.Folded.push.Goals as goal

pub push_folded-requires-clause-absent : goal.push_folded-requires-clause-absent
push_folded-requires-clause-absent c =
    absent_new _ c.args.entry refl refl c.self.inside.lines.entries
    (ap (λ (f : Fold). position (same_pair c.args.entry) f.entries) c.self.view_is ∙ c.requires.new_pair)

pub invariant_of-self : goal.invariant_of-self
invariant_of-self c = fold_push _ _ _ _ _ c.self.invariant refl refl c.push_folded.ensures.lines
