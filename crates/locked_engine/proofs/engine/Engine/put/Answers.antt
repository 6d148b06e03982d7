use Rattle.std.proofs.Common.{◌≡◌, ◌+◌, ◌∙◌, inl, ap, arith, rules}
use Rattle.std.specs.Arc.{arc_value}
use Rattle.batch_store.specs.Batches.{batch_total}
use Rattle.locked_engine.specs.Views.{SeatView}
use Rattle.locked_engine.proofs.GivenLaws.{given_later, first_left}
use Rattle.locked_engine.proofs.engine.Engine.put.Goals as goal

-- the seat knows what was known when its batch was accepted
pub returns-in-Ok-clause-ok : goal.returns-in-Ok-clause-ok
returns-in-Ok-clause-ok g c =
    let was = ap (λ (v : SeatView). v.first) c.seat.view_is in
    let rises : c.note_accepted.new.self.first ≡ c.args.seat.now.first + batch_total (arc_value c.args.b) =
    first_of (search rules, omega (arith, was, c.note_accepted.ensures.first, c.in-Ok.ensures.first)) in
    inl (
      given_later g.N.Named.opened (arc_value c.args.b) c.in-Ok.field-0.known c.note_accepted.new.self.known
          c.in-Ok.field-0.kept c.note_accepted.ensures.known c.in-Ok.ensures.given,
      rises,
    )

-- any other answer leaves the share
pub returns-clause-ok : goal.returns-clause-ok
returns-clause-ok g c =
    first_left c.answer.result _ _ (c.in-Err.ensures.first_kept ∙ ap (λ (v : SeatView). v.first) c.seat.view_is)
