use Rattle.std.proofs.Common.{◌≡◌, ℕ, List, subst, ap, ◌∙◌}
use Rattle.byte_io.specs.Writing.{HasTaken, HasStopped}
use Rattle.byte_io.specs.declared.fault.WriteFault.{WriteFault}
use Rattle.mm_text.specs.Canonical.{canonical}
use Rattle.mm_sum.specs.Sum.{sum_text}
use Rattle.mm_sum.specs.declared.fault.SumFault.TheVariants.{SumTooLarge, Memory}
use Rattle.mm_sum.specs.Running.{RefusesSum}
use Rattle.mm_sum.proofs.ListLemmas.{text_listed}
use Rattle.mm_sum.proofs.ReadLemmas.{unsummed_text}
use Rattle.mm_sum.proofs.sum.run_sum.Goals as goal

pub returns-in-Ok-write_matrix-clause-ok : goal.returns-in-Ok-write_matrix-clause-ok
returns-in-Ok-write_matrix-clause-ok g c =
    let size = c.in_ok-sum.ensures.ok.0 in
    let summed = c.in_ok-sum.ensures.ok.1 in
    let made = c.in-Ok.ensures.ok size.rows size.cols summed.cells summed.sum_is in (
      size.rows,
      size.cols,
      summed.cells,
      record { reads_text = summed.reads_text; fits = made.1 },
      subst (HasTaken g.W.Sink.write_takes g.W.Sink.failure_count c.args.w.now c.write_matrix.new.w)
          (ap (canonical c.in-Ok.sum.rows c.in-Ok.sum.cols) c.deref.ensures.value
          ∙ text_listed size.rows size.cols summed.cells c.in-Ok.sum made.0)
          c.in-Ok-write_matrix.ensures.ok,
    )

pub returns-in-Ok-clause-output : goal.returns-in-Ok-clause-output
returns-in-Ok-clause-output g c fault is =
    let size = c.in_ok-sum.ensures.ok.0 in
    let summed = c.in_ok-sum.ensures.ok.1 in
    let made = c.in-Ok.ensures.ok size.rows size.cols summed.cells summed.sum_is in
    let same : c.in-Err-write_matrix.fault ≡ fault = cc in (
      size.rows,
      size.cols,
      summed.cells,
      record { reads_text = summed.reads_text; fits = made.1 },
      subst (λ (f : WriteFault). HasStopped g.W.Sink.write_takes g.W.Sink.failure_count c.args.w.now
          c.write_matrix.new.w
          (sum_text size.rows size.cols summed.cells) f.written) same
          (subst (λ (text : List ℕ). HasStopped g.W.Sink.write_takes g.W.Sink.failure_count c.args.w.now
          c.write_matrix.new.w text c.in-Err-write_matrix.fault.written)
          (ap (canonical c.in-Ok.sum.rows c.in-Ok.sum.cols) c.deref.ensures.value
          ∙ text_listed size.rows size.cols summed.cells c.in-Ok.sum made.0)
          c.in-Err-write_matrix.ensures.err),
    )

pub returns-clause-too_large : goal.returns-clause-too_large
returns-clause-too_large g c is =
    let size = c.in_ok-sum.ensures.ok.0 in
    let summed = c.in_ok-sum.ensures.ok.1 in
    let same : c.in-Err.fault ≡ SumTooLarge = cc in
    record {
      rows = size.rows;
      cols = size.cols;
      cells = summed.cells;
      reads_text = summed.reads_text;
      passes = subst (RefusesSum summed.cells) same
          (c.in-Err.ensures.err size.rows size.cols summed.cells summed.sum_is);
    }

pub returns-clause-memory : goal.returns-clause-memory
returns-clause-memory g c is =
    let size = c.in_ok-sum.ensures.ok.0 in
    let summed = c.in_ok-sum.ensures.ok.1 in
    let same : c.in-Err.fault ≡ Memory = cc in
    unsummed_text g.R.Source.read_gives g.R.Source.at_end g.R.Source.failure_count c.args.r.now c.read_running.new.r
    size.rows size.cols summed.cells summed.reads_text
    (subst (RefusesSum summed.cells) same (c.in-Err.ensures.err size.rows size.cols summed.cells summed.sum_is))
