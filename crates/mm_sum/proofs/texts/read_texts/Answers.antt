use Rattle.std.proofs.Common.{◌∙◌}
use Rattle.std.proofs.lemmas.Result.{err_from_is_err_and}
use Rattle.mm_sum.specs.Several.{joined}
use Rattle.mm_sum.proofs.TextsLemmas.{told_none, told_first, told_behind, first_read, next_read}
use Rattle.mm_sum.proofs.texts.read_texts.Goals as goal

pub returns-in_err-reader-clause-err : goal.returns-in_err-reader-clause-err
returns-in_err-reader-clause-err g c =
    let p = err_from_is_err_and c.from_residual.result c.from_residual.ensures.1 in
    rw (p.1, p.2) (told_none g.T.Source.read_gives g.T.Source.at_end g.T.Source.failure_count
    g.T.Texts.open_gives c.args.texts.now)

pub returns-in_err-size-clause-err : goal.returns-in_err-size-clause-err
returns-in_err-size-clause-err g c =
    let p = err_from_is_err_and c.from_residual-in_err-size.result c.from_residual-in_err-size.ensures.1 in
    rw (p.1, p.2) (told_first g.T.Source.read_gives g.T.Source.at_end g.T.Source.failure_count
    g.T.Texts.open_gives c.args.texts.now
    c.first_text.new.texts c.in_err-size.field-0.0 c.in_err-size.ensures.err)

pub texts-init : goal.texts-init
texts-init g c = record {
  failures = c.in_ok-size.ensures.no_failure;
  reserved = c.first_text.ensures.reserved;
  summed = first_read g.T.Source.read_gives g.T.Source.at_end g.T.Source.failure_count
      g.T.Texts.open_gives c.args.texts.now
      c.first_text.new.texts c.in_ok-size.size c.in_ok-size.first c.in_ok-size.ensures.ok;
}

pub returns-in_err-sum-clause-err : goal.returns-in_err-sum-clause-err
returns-in_err-sum-clause-err g c =
    let p = err_from_is_err_and c.from_residual-in_err-sum.result c.from_residual-in_err-sum.ensures.1 in
    let held = c.texts.invariant.summed in
    rw (p.1, p.2) (told_behind g.T.Source.read_gives g.T.Source.at_end g.T.Source.failure_count
    g.T.Texts.open_gives c.args.texts.now
    c.texts.texts c.next_text.new.texts c.in_ok-size.size c.texts.text held.0 held.1 held.2 c.in_err-sum.field-0.0
    (c.in_err-sum.ensures.err (joined held.0) held.3))

pub texts-preserved : goal.texts-preserved
texts-preserved g c =
    let held = c.texts.invariant.summed in
    record {
      failures = c.in_ok-sum.ensures.no_failure ∙ c.texts.invariant.failures;
      reserved = c.next_text.ensures.reserved;
      summed = next_read g.T.Source.read_gives g.T.Source.at_end g.T.Source.failure_count
          g.T.Texts.open_gives c.args.texts.now
          c.texts.texts c.next_text.new.texts c.in_ok-size.size c.texts.text c.in_ok-sum.sum held.0 held.1 held.2
          (c.in_ok-sum.ensures.ok (joined held.0) held.3);
    }
