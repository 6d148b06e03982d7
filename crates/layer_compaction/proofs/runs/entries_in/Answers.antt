use Rattle.std.proofs.Common.{◌∙◌, ◌+◌, ap, arith}
use Rattle.hyper_matrix.specs.Counts.{total}
use Rattle.layer_compaction.specs.Shared.{content, values, all_counts}
use Rattle.layer_compaction.proofs.CountedLemmas.{places_more}
use Rattle.layer_compaction.proofs.LayerLemmas.{total-take}
use Rattle.layer_compaction.proofs.RunLemmas.{len-take, counts-take}
use Rattle.layer_compaction.proofs.runs.entries_in.Goals as goal

pub runs-init : goal.runs-init
runs-init c = c.requires.counts.places_are

pub new_entries-entries-requires : goal.new_entries-entries-requires
new_entries-entries-requires c = omega (
  arith,
  c.requires.fits,
  ap (λ l. total (content l)) (counts-take c.runs.i c.args.runs.now),
  total-take (all_counts (values c.args.runs.now)) c.runs.i,
)

more : goal.runs-preserved
more c = places_more c.args.runs.now c.runs.i c.index-runs-i.result c.matrix.result.now (omega arith) c.index-runs-i.is
    (c.matrix.ensures ∙ c.deref.ensures) c.runs.entries c.new_entries-entries.result c.new_entries-entries.ensures
    c.runs.invariant

pub overflow_add-entries : goal.overflow_add-entries
overflow_add-entries c = record {
  fits = omega (arith, c.requires.few, more c, len-take (all_counts (values c.args.runs.now)) (c.runs.i + 1));
}

pub runs-preserved : goal.runs-preserved
runs-preserved c = more c
