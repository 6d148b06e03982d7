use Rattle.std.proofs.Common.{◌≡◌, ◌∙◌, sym, ap, subst, length}
use Rattle.std.specs.FinMap.{entries}
use Rattle.std.proofs.lemmas.List.{length-map}
use Rattle.hyper_matrix.specs.Matrix.{Matrix}
use Rattle.batch_store.specs.Pieces.{Cut}
use Rattle.batch_store.specs.Shards.{Holding}
use Rattle.plain_engine.specs.Bases.{AreParts, bases_of}
use Rattle.plain_engine.proofs.BaseLaws.{based_by_parts}
use Rattle.plain_engine.proofs.bases.bases_follow.Goals as goal

pub returns : goal.returns
returns c =
    let xs = c.args.shards.now in
    let a = c.args.book.now.state in
    let left = c.start_each.new.left in
    let whole : c.deref.result.now.whole.counts ≡ a.base = ap (λ (x : Cut). x.whole.counts) c.deref.ensures
    ∙ ap (λ (m : Matrix). m.counts) c.base-2.ensures in
    let lists = c.start_each.ensures in
    let count = ap length lists ∙ length-map xs (λ (x : Holding). entries x.base) in
    let same : AreParts 0 (length left) left (entries c.deref.result.now.whole.counts)
    ≡ AreParts 0 (length xs) (bases_of xs) (entries a.base) =
    λ j. AreParts 0 (count j) (lists j) (entries (whole j)) in
    let based = based_by_parts a (length xs) 0 xs c.requires.numbered in (
      λ is. based.0 (subst (λ (P : Type 0). P) same (c.are_parts.ensures.0 is)),
      λ all. c.are_parts.ensures.1 (subst (λ (P : Type 0). P) (sym same) (based.1 all)),
    )
