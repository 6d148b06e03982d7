use Rattle.std.proofs.Common.{◌≡◌, List, [], ◌∷◌, ◌++◌, ◌∙◌, sym, ap, subst, arith, rules, append_assoc}
use mathlib.Core.List.{IsPrefix}
use Rattle.batch_store.specs.declared.verdict.Entry.{Entry}
use Rattle.batch_store.specs.Batches.{Submission}
use Rattle.locked_engine.specs.Given.{AreKnown}
use Rattle.locked_engine.specs.Told.{AreShown}
use Rattle.locked_engine.proofs.GivenLaws.{known_later}
use Rattle.locked_engine.proofs.PrefixLaws.{prefix_self}
use Rattle.locked_engine.proofs.ToldLaws.{shown_later}
use Rattle.std.proofs.lemmas.List.Sums.{sum_by-append}
use Rattle.locked_engine.specs.Views.{SeatView}
use Rattle.locked_engine.specs.Opened.{firsts}
use Rattle.locked_engine.proofs.close.gather.Goals as goal

-- one seat more has given its shares
pub loop-seat-preserved : goal.loop-seat-preserved
loop-seat-preserved g c =
    let left = c.pop-in-loop-seat.new.self.items in
    let seat = c.in-Some-pop.seat in
    let count = c.in-Some-pop.ensures.len in
    let inv = c.loop-seat.invariant in
    let told = c.into_parts-own.ensures in
    let popped : c.loop-seat.seats.items ≡ left ++ seat ∷ [] = c.in-Some-pop.ensures.items in
    record {
      first_parts = omega (arith, c.merge.ensures.parts, inv.first_parts, told.one_first, count);
      second_parts = omega (arith, c.merge-in-Some-pop.ensures.parts, inv.second_parts, told.one_second, count);
      first_amount = omega (
        arith,
        c.merge.ensures.amount,
        inv.first_amount,
        told.first,
        ap firsts popped,
        sum_by-append (λ (s : SeatView). s.first) left (seat ∷ []),
      );
      second_amount = omega (arith, c.merge-in-Some-pop.ensures.amount, inv.second_amount, told.balanced);
      shown = (
        seat ∷ inv.shown.0,
        inv.shown.1 ∙ ap (λ (l : List SeatView). l ++ inv.shown.0) popped ∙ append_assoc left (seat ∷ []) inv.shown.0,
        (
          subst (λ (l : List Entry). IsPrefix l c.learn.new.self) told.seen c.learn.ensures.no_less,
          shown_later inv.shown.0 c.loop-seat.seen c.learn.new.self c.learn.ensures.later inv.shown.2,
        ),
        (
          subst (λ (l : List Submission). IsPrefix l c.learn-in-Some-pop.new.self) told.known
              c.learn-in-Some-pop.ensures.no_less,
          known_later inv.shown.0 c.loop-seat.known c.learn-in-Some-pop.new.self c.learn-in-Some-pop.ensures.later
              inv.shown.3,
        ),
      );
    }

pub returns-clause-shown : goal.returns-clause-shown
returns-clause-shown g c =
    let inv = c.loop-seat.invariant in
    let none : c.loop-seat.seats.items ≡ [] = search rules in
    let all : inv.shown.0 ≡ c.args.seats.items = sym (inv.shown.1
    ∙ ap (λ (l : List SeatView). l ++ inv.shown.0) none) in
    subst (λ (l : List SeatView). AreShown l c.loop-seat.seen) all inv.shown.2

pub returns-clause-known : goal.returns-clause-known
returns-clause-known g c =
    let inv = c.loop-seat.invariant in
    let none : c.loop-seat.seats.items ≡ [] = search rules in
    let all : inv.shown.0 ≡ c.args.seats.items = sym (inv.shown.1
    ∙ ap (λ (l : List SeatView). l ++ inv.shown.0) none) in
    subst (λ (l : List SeatView). AreKnown l c.loop-seat.known) all inv.shown.3

-- the first seat has given its shares
pub loop-seat-init : goal.loop-seat-init
loop-seat-init g c =
    let seat = c.in-Some.seat in
    let left = c.pop.new.self.items in
    let popped : c.args.seats.items ≡ left ++ seat ∷ [] = c.in-Some.ensures.items in
    let count = c.in-Some.ensures.len in
    let told = c.into_parts-first.ensures in
    let seen = c.into_parts-first.result.2 in
    let known = c.into_parts-first.result.3 in
    record {
      first_parts = omega (arith, told.one_first, count);
      second_parts = omega (arith, told.one_second, count);
      first_amount = omega (
        arith,
        told.first,
        ap firsts popped,
        sum_by-append (λ (s : SeatView). s.first) left (seat ∷ []),
      );
      second_amount = told.balanced;
      shown = (
        seat ∷ [],
        popped,
        (subst (λ (l : List Entry). IsPrefix l seen) told.seen (prefix_self seen), tt),
        (subst (λ (l : List Submission). IsPrefix l known) told.known (prefix_self known), tt),
      );
    }
