use Rattle.std.proofs.Common.{refl, ◌∙◌, ap}
use Rattle.batch_store.specs.Batches.{entry_of}
use Rattle.batch_store.specs.Folds.{Fold, repeat_in}
use Rattle.batch_store.proofs.FoldLaws.{repeat_known, repeat_none}
use Rattle.batch_store.proofs.folded.Folded.repeat.Goals as goal

pub returns-in_err-index : goal.returns-in_err-index
returns-in_err-index c =
    c.from_residual.ensures
    ∙ repeat_none c.self.inside.lines.entries _ _ c.args.b.now refl refl c.b.view_is c.in_err-index.ensures.index
    ∙ ap (λ (f : Fold). repeat_in f.entries (entry_of c.args.b.now)) c.self.view_is

pub returns : goal.returns
returns c =
    repeat_known _ c.self.inside.lines.entries _ _ c.args.b.now _ _ c.in_ok-index.line.now _ c.self.invariant refl refl
    c.b.view_is c.in_ok-index.ensures.index c.in_ok-index.ensures.entry c.repeated.ensures
    ∙ ap (λ (f : Fold). repeat_in f.entries (entry_of c.args.b.now)) c.self.view_is
