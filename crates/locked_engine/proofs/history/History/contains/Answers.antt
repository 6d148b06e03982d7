use Rattle.std.proofs.Common.{◌≡◌, ◌∙◌, ◌++◌, sym, ap, subst, List}
use mathlib.Core.List.{IsPrefix}
use Rattle.batch_store.specs.Batches.{Submission}
use Rattle.locked_engine.specs.declared.history.Line.{Line}
use Rattle.locked_engine.specs.Histories.{given_in}
use Rattle.locked_engine.proofs.PrefixLaws.{prefix_trans, prefix_behind}
use Rattle.locked_engine.proofs.HistoryLaws.{look_moves, given_prefix}
use Rattle.locked_engine.proofs.history.History.contains.Goals as goal

pub compare_exchange-requires : goal.compare_exchange-requires
compare_exchange-requires g c =
    let h = c.self.invariant.4 in
    let offer = c.plain-offer.ensures in
    let same = c.learn.ensures.0 ∙ ap (λ s. s.book) c.again-both.ensures ∙ c.self.invariant.5
    ∙ sym (ap (λ w. w.book) h) in (
      ap (λ w. w.tracked) h,
      same,
      c.self.invariant.6 ∙ sym (ap (λ w. w.book) h),
      offer.0,
      rw (ap (λ w. w.key) h, offer.3) (look_moves c.learn.new.self.log c.plain-offer.result.ask c.self.inside.place.nib
          (ap (λ n. n.right) c.self.invariant.7)),
    )

-- it is all of the history, of which the other is a beginning
pub returns-clause-begins : goal.returns-clause-begins
returns-clause-begins g c =
    let opened = g.N.Named.opened.list in
    let mine = c.self.inside.seen.log in
    let theirs = c.seen-other.result.now.log in
    let both = c.learn.new.self.log in
    let all = c.compare_exchange.new.seen.log in
    let told = c.compare_exchange.ensures in
    let begins : IsPrefix mine both = subst (λ (l : List Line). IsPrefix l both) (ap (λ s. s.log) c.again-both.ensures)
    c.learn.ensures.2 in
    let same : mine ≡ all = told.7.1 mine (prefix_trans mine both all begins told.6)
    (sym (ap (λ n. n.key) c.self.invariant.7)) in
    let other : IsPrefix theirs mine = subst (IsPrefix theirs) (sym same)
    (prefix_trans theirs both all c.learn.ensures.3 told.6) in
    subst (λ (l : List Submission). IsPrefix l (opened ++ given_in mine)) (sym c.seen-other.ensures.batches)
    (prefix_behind opened (given_in theirs) (given_in mine) (given_prefix theirs mine other))
