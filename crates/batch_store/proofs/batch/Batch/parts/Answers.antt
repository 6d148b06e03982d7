use Rattle.std.proofs.Common.{◌≡◌, ◌++◌, ◌∙◌, [], sym, ap, map, arith}
use Rattle.std.proofs.lemmas.Grind.{common_steps}
use Rattle.std.proofs.lemmas.List.{append-nil}
use Rattle.std.specs.Vec.Iter.{into_iter_items}
use Rattle.batch_store.specs.BatchParts.{unless_empty}
use Rattle.batch_store.proofs.BatchPartLaws.{if_any_of_parts}
use Rattle.batch_store.proofs.batch.Batch.parts.Goals as goal

pub returns : goal.returns
returns c =
    let none : into_iter_items c.all.part-iterator ≡ [] = grind (arith, common_steps) in
    sym (append-nil c.all.parts.items) ∙ ap (λ r. c.all.parts.items ++ map unless_empty r) (sym none)
    ∙ c.all.invariant.told ∙ if_any_of_parts c.args.k c.args.k c.args.self.now
