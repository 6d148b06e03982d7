use Rattle.std.proofs.Common.{is_some, sym, ap, ◌∙◌, arith}
use Rattle.hyper_matrix.specs.Cells.{entry_of}
use Rattle.layer_compaction.specs.Shared.{content, values, all_counts}
use Rattle.layer_compaction.specs.Runs.{count_new}
use Rattle.layer_compaction.proofs.RunLemmas.{new_below, one_new}
use Rattle.layer_compaction.proofs.runs.new_by_look_ups.Goals as goal

pub overflow_add-new : goal.overflow_add-new
overflow_add-new c =
    let before = content (all_counts (values c.args.before.now)) in
    record {
      fits = omega (
        arith,
        c.cells.invariant.rest,
        ap (count_new before) c.in-Some.ensures.steps,
        one_new before (entry_of c.in-Some.cell) c.next.new.self
            (ap is_some (sym c.count_in.ensures.value) ∙ c.if-is_none.ensures),
        new_below before c.args.m.now.counts,
        c.entries-bound.ensures,
      );
    }
