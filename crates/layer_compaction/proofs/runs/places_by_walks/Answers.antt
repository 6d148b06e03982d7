use Rattle.std.proofs.Common.{◌∙◌, ◌+◌, ap, arith}
use Rattle.hyper_matrix.specs.Counts.{total}
use Rattle.layer_compaction.specs.Shared.{content, values, all_counts}
use Rattle.layer_compaction.proofs.CountedLemmas.{counts_more}
use Rattle.layer_compaction.proofs.LayerLemmas.{total-take}
use Rattle.layer_compaction.proofs.RunLemmas.{len-take, counts-take}
use Rattle.layer_compaction.proofs.runs.places_by_walks.Goals as goal

pub new_by_walks-requires : goal.new_by_walks-requires
new_by_walks-requires c = omega (
  arith,
  c.requires.fits,
  ap (λ l. total (content l)) (counts-take c.runs.i c.args.runs.now),
  total-take (all_counts (values c.args.runs.now)) c.runs.i,
)

more : goal.runs-preserved
more c = counts_more c.args.runs.now c.runs.i c.index-runs-i.result c.matrix.result.now
    (omega (arith, c.runs-test.true, c.requires.within)) c.index-runs-i.is (c.matrix.ensures ∙ c.deref.ensures)
    c.runs.places c.in_ok-places.field-0 c.in_ok-places.ensures c.runs.invariant

pub overflow_add-places : goal.overflow_add-places
overflow_add-places c = omega (
  arith,
  c.requires.few,
  (more c).places_are,
  len-take (all_counts (values c.args.runs.now)) (c.runs.i + 1),
)

pub runs-preserved : goal.runs-preserved
runs-preserved c = more c
