use Rattle.std.proofs.Common.{◌∙◌, sym, ap}
use Rattle.locked_engine.proofs.HistoryLaws.{begin_moves}
use Rattle.locked_engine.proofs.history.NewHistory.new.Goals as goal

pub compare_exchange-found-requires : goal.compare_exchange-found-requires
compare_exchange-found-requires c =
    let h = c.tracked-head.ensures.0 in
    let opened = c.open-seen.ensures in
    let offer = c.plain-offer.ensures in
    let pen = c.no_pen-place.ensures in
    let same = sym (ap (λ w. w.book) h ∙ opened.2) in
    let key = ap (λ w. w.key) h ∙ ap (λ n. n.key) opened.4 in (
      ap (λ w. w.tracked) h,
      same,
      pen.0 ∙ same,
      offer.0,
      rw (key, pen.1, offer.3, opened.1) (begin_moves c.plain-offer.result.ask),
    )
