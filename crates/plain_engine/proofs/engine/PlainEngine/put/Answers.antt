use Rattle.std.proofs.Common.{◌≡◌, sym, ◌∙◌, ap, subst, arith, length, drop, map}
use Rattle.std.specs.Arc.{arc_value}
use Rattle.batch_store.specs.declared.verdict.Verdict.TheVariants.{Fresh}
use Rattle.batch_store.specs.Setups.{Setting}
use Rattle.plain_engine.specs.Object.{verdict_in}
use Rattle.plain_engine.specs.Puts.{AllTake, shard_after}
use Rattle.plain_engine.specs.Standing.{KeepsEngine, bare_shard}
use Rattle.plain_engine.proofs.PutLaws.{all_take, keeps_after, keeps_same, written}
use Rattle.plain_engine.proofs.engine.PlainEngine.put.Goals as goal
use Rattle.plain_engine.proofs.engine.PlainEngine.put.Goals.{in-Ok, in-Err}

pub put_fresh-answer-requires-clause-take : goal.put_fresh-answer-requires-clause-take
put_fresh-answer-requires-clause-take c =
    let v = c.self.inside.setup in
    let book = c.self.inside.book in
    let b = arc_value c.args.b in
    let inv = c.self.invariant in
    let fresh : verdict_in book.setup book.state b ≡ Fresh = ap (verdict_in book.setup book.state) (sym c.deref.ensures)
    ∙ sym c.in-Fresh.ensures in
    let here : verdict_in v book.state b ≡ Fresh =
    subst (λ (w : Setting). verdict_in w book.state b ≡ Fresh) inv.of_setup fresh in
    subst (λ (w : Setting). AllTake w b c.as_mut_slice.result.now) (sym inv.of_setup)
    (subst (AllTake v b) (sym c.as_mut_slice.ensures.value)
    (all_take v book.state b 0 c.self.inside.shards.items inv.accepted.based here inv.stand))

pub invariant_of-self : goal.invariant_of-self
invariant_of-self c =
    let v = c.self.inside.setup in
    let book = c.self.inside.book in
    let xs = c.self.inside.shards.items in
    let b = arc_value c.args.b in
    let inv = c.self.invariant in
    let after = c.put_fresh-answer.new.book in
    let ys = c.put_fresh-answer.new.shards in
    let value = c.as_mut_slice.ensures.value in
    elim c.match-answer.branch [
      | in-Ok w ↦
          let e = w.in-Ok.ensures in
          let kept : KeepsEngine v after ys = keeps_after v book after xs ys inv e.setup b c.len-accepted.ensures.kept
          e.state e.held (e.shards ∙ ap (map (shard_after b)) value) in
          subst (KeepsEngine v after) (sym (written c.self.inside.shards.len ys (drop (length ys) xs)
          (omega (arith, kept.count, inv.count, c.self.inside.shards.ok)))) kept
      | in-Err w ↦
          let e = w.in-Err.ensures in
          let kept : KeepsEngine v after ys = keeps_same v book after xs ys inv e.setup e.same_state (e.same_shards
          ∙ ap (map bare_shard) value) in
          subst (KeepsEngine v after) (sym (written c.self.inside.shards.len ys (drop (length ys) xs)
          (omega (arith, kept.count, inv.count, c.self.inside.shards.ok)))) kept
    ]
