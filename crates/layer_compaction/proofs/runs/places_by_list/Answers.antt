use Rattle.std.proofs.Common.{arith}
use Rattle.layer_compaction.specs.Shared.{values, all_counts}
use Rattle.layer_compaction.proofs.CountedLemmas.{counts_together}
use Rattle.layer_compaction.proofs.RunLemmas.{len-take, total-parts}
use Rattle.layer_compaction.proofs.runs.places_by_list.Goals as goal

pub new_together-requires : goal.new_together-requires
new_together-requires c =
    let known = c.split_at.result.0.now in
    omega (
      arith,
      c.requires.fits,
      total-parts c.args.runs.now known c.split_at.result.1.now c.split_at.ensures.by_index.0,
      total-parts known c.split_at-2.result.0.now c.split_at-2.result.1.now c.split_at-2.ensures.by_index.0,
    )

all : goal.returns
all c = counts_together c.args.runs.now c.split_at.result.0.now c.split_at.result.1.now c.split_at-2.result.0.now
    c.split_at-2.result.1.now c.split_at.ensures.by_index.0 c.split_at-2.ensures.by_index.0 c.args.counted c.args.until
    c.args.places c.in_ok-new.new (omega (arith, c.split_at-2.ensures.front_len))
    (omega (arith, c.split_at.ensures.front_len)) c.in_ok-new.ensures c.requires.counts

pub overflow_add-result : goal.overflow_add-result
overflow_add-result c = omega (
  arith,
  c.requires.few,
  (counts_together c.args.runs.now c.split_at.result.0.now c.split_at.result.1.now c.split_at-2.result.0.now
      c.split_at-2.result.1.now c.split_at.ensures.by_index.0 c.split_at-2.ensures.by_index.0 c.args.counted c.args.until
      c.args.places c.in_ok-new.new (omega (arith, c.split_at-2.ensures.front_len))
      (omega (arith, c.split_at.ensures.front_len)) c.in_ok-new.ensures c.requires.counts).places_are,
  len-take (all_counts (values c.args.runs.now)) c.args.until,
)

pub returns : goal.returns
returns c = all c
