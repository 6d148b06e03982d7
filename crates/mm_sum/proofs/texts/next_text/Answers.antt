use Rattle.std.proofs.Common.{◌∙◌, Option, Some, refl, sym, subst}
use Rattle.std.specs.Prelude.{None}
use Rattle.mm_sum.specs.Reading.{AddsText}
use Rattle.mm_sum.specs.declared.running_sum.RunningSum.{RunningSum}
use Rattle.mm_sum.specs.Steps.{TellsNext}
use Rattle.mm_sum.specs.declared.fault.TextsFault.{TextsFault}
use Rattle.mm_sum.proofs.TextsLemmas.{told_reading}
use Rattle.mm_sum.proofs.texts.next_text.Goals as goal

pub returns-in-Ok-Some-clause-ok : goal.returns-in-Ok-Some-clause-ok
returns-in-Ok-Some-clause-ok g c earlier is =
    let added : AddsText g.T.Source.read_gives g.T.Source.at_end g.T.Source.failure_count earlier
    c.open_text.new.texts c.sum_next.new.r c.args.size (Some c.in-Ok-Some.next) = subst (λ (next : Option RunningSum). AddsText g.T.Source.read_gives g.T.Source.at_end g.T.Source.failure_count earlier
    c.open_text.new.texts c.sum_next.new.r c.args.size next) c.in-Ok-Some.field-0-is (c.in-Ok-Some.ensures.ok earlier is) in
    record {
      opened = c.open_text.new.texts;
      opens_it = c.in_ok-open_text.ensures.ok;
      list = added.0;
      reads_it = added.1;
      sum_is = added.2;
    }

pub returns-in-Ok-Some-clause-no_failure : goal.returns-in-Ok-Some-clause-no_failure
returns-in-Ok-Some-clause-no_failure g c =
    let before = c.requires.summed in
    let added : AddsText g.T.Source.read_gives g.T.Source.at_end g.T.Source.failure_count before.0
    c.open_text.new.texts c.sum_next.new.r c.args.size (Some c.in-Ok-Some.next) = subst (λ (next : Option RunningSum). AddsText g.T.Source.read_gives g.T.Source.at_end g.T.Source.failure_count before.0
    c.open_text.new.texts c.sum_next.new.r c.args.size next) c.in-Ok-Some.field-0-is (c.in-Ok-Some.ensures.ok before.0 before.1) in
    added.1.none_failed ∙ c.open_text.ensures.failures

pub returns-in-Ok-None-clause-err : goal.returns-in-Ok-None-clause-err
returns-in-Ok-None-clause-err g c earlier is =
    let differs : AddsText g.T.Source.read_gives g.T.Source.at_end g.T.Source.failure_count earlier
    c.open_text.new.texts c.sum_next.new.r c.args.size None = subst (λ (next : Option RunningSum). AddsText g.T.Source.read_gives g.T.Source.at_end g.T.Source.failure_count earlier
    c.open_text.new.texts c.sum_next.new.r c.args.size next) c.in-Ok-None.field-0-is (c.in-Ok-None.ensures.ok earlier is) in
    (refl, c.requires.later, (c.open_text.new.texts, c.in_ok-open_text.ensures.ok, differs))

pub returns-in-Err-clause-err : goal.returns-in-Err-clause-err
returns-in-Err-clause-err g c earlier is =
    subst (λ (told : TextsFault). TellsNext g.T.Source.read_gives g.T.Source.at_end g.T.Source.failure_count
    g.T.Texts.open_gives earlier
    c.args.texts.now c.sum_next.new.r c.args.size c.args.text told) (sym c.fault_of_text.ensures)
    (told_reading g.T.Source.read_gives g.T.Source.at_end g.T.Source.failure_count
    g.T.Texts.open_gives earlier
    c.args.texts.now c.open_text.new.texts c.sum_next.new.r c.args.size c.args.text c.in-Err.fault
    c.in_ok-open_text.ensures.ok (c.in-Err.ensures.err earlier is))
