use Rattle.std.proofs.Common.{sym, ap, ◌∙◌, arith}
use Rattle.hyper_matrix.specs.Cells.{entry_of}
use Rattle.hyper_matrix.specs.Counts.{ewise_add}
use Rattle.layer_compaction.specs.Shared.{content, values, all_counts}
use Rattle.layer_compaction.specs.Runs.{count_new}
use Rattle.layer_compaction.proofs.RunLemmas.{new_below, one_new}
use Rattle.layer_cascade.proofs.below.new_over.Goals as goal

pub overflow_add-new : goal.overflow_add-new
overflow_add-new c =
    let before = ewise_add c.args.below.now.counts (content (all_counts (values c.args.before.now))) in
    record {
      fits = omega (
        arith,
        c.cells.invariant.rest,
        ap (count_new before) c.in-Some.ensures.steps,
        one_new before (entry_of c.in-Some.cell) c.next.new.self
            (sym c.have_either.ensures ∙ c.if-not-have_either.true),
        new_below before c.args.m.now.counts,
        c.entries-bound.ensures,
      );
    }
