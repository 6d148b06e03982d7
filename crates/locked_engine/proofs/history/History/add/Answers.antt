use Rattle.std.proofs.Common.{◌≡◌, ◌∙◌, sym, ap, subst, arith, ◌++◌, ◌∷◌, [], length, length-append, append_assoc, List}
use Rattle.std.specs.Arc.{arc_value}
use Rattle.logbook.specs.Pages.{nib, may_write}
use Rattle.batch_store.specs.declared.verdict.Verdict.TheVariants.{Fresh}
use Rattle.batch_store.specs.Accepted.{entries_in}
use Rattle.batch_store.specs.Batches.{Submission}
use Rattle.locked_engine.specs.declared.history.Line.{Line}
use Rattle.locked_engine.specs.Histories.{line, place_from, added_in, given_in}
use Rattle.locked_engine.specs.Views.{Course}
use Rattle.locked_engine.specs.Versions.{entry_verdict}
use Rattle.locked_engine.proofs.AddLaws.{all_more, more_is_version, more_status}
use Rattle.locked_engine.proofs.HistoryLaws.{add_moves, place_push, added_push, given_push}
use Rattle.locked_engine.proofs.history.History.add.Goals as goal

pub compare_exchange-requires : goal.compare_exchange-requires
compare_exchange-requires g c =
    let h = c.self.invariant.4 in
    let offer = c.plain-offer.ensures in (
      ap (λ w. w.tracked) h,
      c.self.invariant.5 ∙ sym (ap (λ w. w.book) h),
      c.self.invariant.6 ∙ sym (ap (λ w. w.book) h),
      offer.0,
      rw (ap (λ w. w.key) h, offer.3)
          (add_moves c.self.inside.seen.log c.plain-offer.result.ask c.self.inside.place.nib c.self.invariant.7),
    )

-- the entry stands behind the others, and the next place is the one that was made
pub invariant_of-self : goal.invariant_of-self
invariant_of-self g c =
    let v = g.N.Named.setup in
    let opened = entries_in g.N.Named.opened in
    let told = c.compare_exchange.ensures in
    let old = c.self.inside.seen.log in
    let e = c.args.entry in
    let l : Line = line e (arc_value c.args.batch) c.make_place-place.result.nib.key in
    let log : c.compare_exchange.new.seen.log ≡ old ++ l ∷ [] = told.7
    ∙ ap (λ (x : Line). old ++ x ∷ []) c.plain-offer.ensures.1 in
    let more : added_in c.compare_exchange.new.seen.log ≡ added_in old ++ e ∷ [] = ap added_in log
    ∙ added_push old l c.self.invariant.3 in
    let next : c.make_place-place.result.nib.key ≡ place_from 0 c.compare_exchange.new.seen.log =
    sym (ap (place_from 0) log ∙ place_push 0 old l) in
    let fresh : entry_verdict v (opened ++ added_in old) e ≡ Fresh =
    subst (λ (s : Course). entry_verdict v s.entries e ≡ Fresh) (sym c.self.view_is) c.requires.fresh in (
      more_status v opened (added_in old) (added_in c.compare_exchange.new.seen.log) e more c.self.inside.status
          c.self.invariant.0,
      omega (arith, c.self.invariant.1, ap length more, length-append (added_in old) (e ∷ [])),
      more_is_version v opened (added_in old) (added_in c.compare_exchange.new.seen.log) e more c.self.invariant.2
          fresh,
      omega (arith, ap length log, length-append old (l ∷ [])),
      c.self.invariant.4,
      told.0 ∙ c.self.invariant.5,
      c.make_place-place.ensures.book,
      c.make_place-place.ensures.nib ∙ ap (λ k. nib may_write k 0) next,
    )

pub returns-clause-entries : goal.returns-clause-entries
returns-clause-entries g c =
    let opened = entries_in g.N.Named.opened in
    let old = c.self.inside.seen.log in
    let e = c.args.entry in
    let l : Line = line e (arc_value c.args.batch) c.make_place-place.result.nib.key in
    let log : c.compare_exchange.new.seen.log ≡ old ++ l ∷ [] = c.compare_exchange.ensures.7
    ∙ ap (λ (x : Line). old ++ x ∷ []) c.plain-offer.ensures.1 in
    let more : added_in c.compare_exchange.new.seen.log ≡ added_in old ++ e ∷ [] = ap added_in log
    ∙ added_push old l c.self.invariant.3 in
    all_more g.N.Named.setup opened (added_in old) (added_in c.compare_exchange.new.seen.log) e more
    ∙ ap (λ (s : Course). s.entries ++ e ∷ []) c.self.view_is

pub returns-clause-batches : goal.returns-clause-batches
returns-clause-batches g c =
    let opened = g.N.Named.opened.list in
    let old = c.self.inside.seen.log in
    let b = arc_value c.args.batch in
    let l : Line = line c.args.entry b c.make_place-place.result.nib.key in
    let log : c.compare_exchange.new.seen.log ≡ old ++ l ∷ [] = c.compare_exchange.ensures.7
    ∙ ap (λ (x : Line). old ++ x ∷ []) c.plain-offer.ensures.1 in
    ap (λ (bs : List Submission). opened ++ bs) (ap given_in log ∙ given_push old l c.self.invariant.3)
    ∙ sym (append_assoc opened (given_in old) (b ∷ [])) ∙ ap (λ (s : Course). s.batches ++ b ∷ []) c.self.view_is
