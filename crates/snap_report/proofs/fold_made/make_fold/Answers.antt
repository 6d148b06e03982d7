use Rattle.std.proofs.Common.{ℕ, List, length, subst, ap, ◌∙◌}
use Rattle.std.proofs.lemmas.Result.{on_ok_weaker}
use Rattle.byte_io.specs.Writing.{HasTaken}
use Rattle.batch_store.specs.declared.verdict.Entry.{Entry}
use Rattle.batch_store.specs.Accepted.{Accepted, entries_in, summed}
use Rattle.batch_store.specs.Books.{accepted_in}
use Rattle.batch_store.specs.Verdicts.{total_of_entries}
use Rattle.batch_store.proofs.SumLaws.{entries-folded}
use Rattle.snap_report.specs.Folds.{fold_line}
use Rattle.snap_report.specs.Made.{IsMade}
use Rattle.snap_report.proofs.fold_made.make_fold.Goals as goal

-- the file is made of the list with all its batches folded
pub returns-clause-made : goal.returns-clause-made
returns-clause-made g c =
    on_ok_weaker c.write_made.result (λ h. subst (λ (a : Accepted). IsMade g.N.NewSnapshot.make_gives c.args.new.now
    c.make_file.new.new c.args.origin c.args.setup.now a) c.in-Ok.ensures.state c.in_ok-make_file.ensures.made)
    c.write_made.ensures.written

-- whose number and total are those of the list
pub returns-clause-written : goal.returns-clause-written
returns-clause-written g c =
    let a = accepted_in c.args.list in
    let entries = ap entries_in c.in-Ok.ensures.state ∙ entries-folded (summed a) a in
    on_ok_weaker c.write_made.result (λ h. subst (λ (es : List Entry). HasTaken g.W.Sink.write_takes
    g.W.Sink.failure_count c.args.w.now c.write_made.new.w (fold_line (length es) (total_of_entries es))) entries h)
    c.write_made.ensures.written
