use Rattle.std.proofs.Common.{◌≡◌, ◌∙◌, ◌+◌, ℕ, sym, ap, arith, set, take, add-one}
use Rattle.std.specs.FinMap.{entries}
use Rattle.std.proofs.lemmas.List.{take_all}
use Rattle.hyper_matrix.specs.Matrix.{Matrix}
use Rattle.plain_engine.specs.Bases.{bases_of}
use Rattle.plain_engine.proofs.BaseLaws.{filled_next}
use Rattle.plain_engine.proofs.bases.start_each.Goals as goal

pub shards-preserved : goal.shards-preserved
shards-preserved c =
    let left = c.shards.left in
    let xs = c.args.shards.now in
    let i = c.shards.place in
    let x = c.index-shards-place.result in
    let base : c.deref.result.now.counts ≡ x.base = ap (λ (m : Matrix). m.counts) (c.deref.ensures ∙ c.base.ensures) in
    let cells = c.iter.ensures.order ∙ ap entries base in
    ap (take (i + 1)) (ap (set left i) cells)
    ∙ ap (λ (n : ℕ). take n (set left i (entries x.base))) (add-one i)
    ∙ filled_next xs left i x c.shards-test.true (omega (arith, c.shards.auto.left, c.requires, c.shards-test.true))
    c.index-shards-place.is c.shards.invariant
    ∙ ap (λ (n : ℕ). bases_of (take n xs)) (sym (add-one i))

pub returns : goal.returns
returns c =
    let left = c.shards.left in
    let xs = c.args.shards.now in
    let i = c.shards.place in
    sym (take_all i left (omega (arith, c.shards.auto.left, c.requires, c.shards-test.false)))
    ∙ c.shards.invariant ∙ ap bases_of (take_all i xs c.shards-test.false)
