use Rattle.std.proofs.Common.{◌∙◌, sym, ap}
use Rattle.locked_engine.proofs.HistoryLaws.{place_moves}
use Rattle.locked_engine.proofs.history.History.make_place.Goals as goal

pub compare_exchange-requires : goal.compare_exchange-requires
compare_exchange-requires g c =
    let h = c.self.invariant.4 in
    let again = c.again-seen.ensures in
    let offer = c.plain-offer.ensures in
    let pen = c.no_pen-place.ensures in
    let same = ap (λ s. s.book) again ∙ c.self.invariant.5 ∙ sym (ap (λ w. w.book) h) in (
      ap (λ w. w.tracked) h,
      same,
      pen.0 ∙ same,
      offer.0,
      rw (ap (λ w. w.key) h, pen.1, offer.3) (place_moves c.again-seen.result.log c.plain-offer.result.ask),
    )
