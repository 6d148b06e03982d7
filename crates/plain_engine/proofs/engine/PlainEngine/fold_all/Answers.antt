use Rattle.std.proofs.Common.{sym, subst, arith, length, drop}
use Rattle.batch_store.specs.Setups.{Setting}
use Rattle.batch_store.specs.Accepted.{summed}
use Rattle.plain_engine.specs.Folds.{AllHoldParts}
use Rattle.plain_engine.specs.Standing.{KeepsEngine}
use Rattle.plain_engine.proofs.PutLaws.{written}
use Rattle.plain_engine.proofs.FoldingLaws.{all_hold, left_by_folding}
use Rattle.plain_engine.proofs.engine.PlainEngine.fold_all.Goals as goal

pub fold_from-answer-requires-clause-parts : goal.fold_from-answer-requires-clause-parts
fold_from-answer-requires-clause-parts c =
    let book = c.self.inside.book in
    let inv = c.self.invariant in
    subst (λ (w : Setting). AllHoldParts w (summed book.state) c.as_mut_slice.result.now) (sym inv.of_setup)
    (subst (AllHoldParts c.self.inside.setup (summed book.state)) (sym c.as_mut_slice.ensures.value)
    (all_hold c.self.inside.setup book.state 0 c.self.inside.shards.items inv.stand))

pub invariant_of-self : goal.invariant_of-self
invariant_of-self c =
    let v = c.self.inside.setup in
    let book = c.self.inside.book in
    let xs = c.self.inside.shards.items in
    let inv = c.self.invariant in
    let e = c.fold_from-answer.ensures in
    let after = c.fold_from-answer.new.book in
    let ys = c.fold_from-answer.new.shards in
    let value = c.as_mut_slice.ensures.value in
    let kept : KeepsEngine v after ys = left_by_folding v book after xs _ ys c.fold_from-answer.result inv e.setup
    c.len-accepted.ensures.kept value e.state e.held e.shards e.same_state e.same_shards in
    subst (KeepsEngine v after) (sym (written c.self.inside.shards.len ys (drop (length ys) xs)
    (omega (arith, kept.count, inv.count, c.self.inside.shards.ok)))) kept
