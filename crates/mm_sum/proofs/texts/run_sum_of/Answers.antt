use Rattle.std.proofs.Common.{◌≡◌, ℕ, List, sym, subst, ap, ◌∙◌}
use Rattle.byte_io.specs.Writing.{HasTaken, HasStopped}
use Rattle.byte_io.specs.declared.fault.WriteFault.{WriteFault}
use Rattle.mm_text.specs.Canonical.{canonical}
use Rattle.mm_sum.specs.Several.{joined, Tells}
use Rattle.mm_sum.specs.Sum.{sum_text}
use Rattle.mm_sum.specs.declared.fault.TextsFault.{TextsFault}
use Rattle.mm_sum.proofs.ListLemmas.{text_listed}
use Rattle.mm_sum.proofs.TextsLemmas.{told_at_end}
use Rattle.mm_sum.proofs.texts.run_sum_of.Goals as goal

pub returns-in-Ok-write_matrix-clause-ok : goal.returns-in-Ok-write_matrix-clause-ok
returns-in-Ok-write_matrix-clause-ok g c =
    let held = c.in_ok-sum.ensures.ok in
    let made = c.in-Ok.ensures.ok held.rows held.cols (joined held.lists) held.sum_is in (
      held.rows,
      held.cols,
      held.lists,
      record { count_is = held.count_is; reads = held.reads; fits = made.1 },
      subst (HasTaken g.W.Sink.write_takes g.W.Sink.failure_count c.args.w.now c.write_matrix.new.w)
          (ap (canonical c.in-Ok.sum.rows c.in-Ok.sum.cols) c.deref.ensures.value
          ∙ text_listed held.rows held.cols (joined held.lists) c.in-Ok.sum made.0)
          c.in-Ok-write_matrix.ensures.ok,
    )

pub returns-in-Ok-clause-output : goal.returns-in-Ok-clause-output
returns-in-Ok-clause-output g c fault is =
    let held = c.in_ok-sum.ensures.ok in
    let made = c.in-Ok.ensures.ok held.rows held.cols (joined held.lists) held.sum_is in
    let same : c.in-Err-write_matrix.fault ≡ fault = cc in (
      held.rows,
      held.cols,
      held.lists,
      record { count_is = held.count_is; reads = held.reads; fits = made.1 },
      subst (λ (f : WriteFault). HasStopped g.W.Sink.write_takes g.W.Sink.failure_count c.args.w.now
          c.write_matrix.new.w (sum_text held.rows held.cols (joined held.lists)) f.written) same
          (subst (λ (text : List ℕ). HasStopped g.W.Sink.write_takes g.W.Sink.failure_count c.args.w.now
          c.write_matrix.new.w text c.in-Err-write_matrix.fault.written)
          (ap (canonical c.in-Ok.sum.rows c.in-Ok.sum.cols) c.deref.ensures.value
          ∙ text_listed held.rows held.cols (joined held.lists) c.in-Ok.sum made.0)
          c.in-Err-write_matrix.ensures.err),
    )

pub returns-clause-told : goal.returns-clause-told
returns-clause-told g c =
    let held = c.in_ok-sum.ensures.ok in
    subst (λ (told : TextsFault). Tells g.T.Source.read_gives g.T.Source.at_end g.T.Source.failure_count
    g.T.Texts.open_gives c.args.texts.now
    c.read_texts.new.texts c.args.count told) (sym c.fault_of_text.ensures)
    (told_at_end g.T.Source.read_gives g.T.Source.at_end g.T.Source.failure_count
    g.T.Texts.open_gives c.args.texts.now
    c.read_texts.new.texts c.args.count c.in_ok-sum.sum held c.in-Err.fault
    (c.in-Err.ensures.err held.rows held.cols (joined held.lists) held.sum_is))
