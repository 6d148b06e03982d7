use Rattle.std.proofs.Common.{◌≡◌, ◌+◌, length, ◌∙◌, arith}
use Rattle.std.proofs.lemmas.List.{length-map}
use Rattle.std.specs.Arc.{arc_value}
use Rattle.batch_store.specs.Accepted.{accepted, count_in, total_in}
use Rattle.batch_store.specs.Batches.{values}
use Rattle.snap_file.proofs.Kept.{count_is, total_parts}
use Rattle.snap_report.specs.Checks.{line_of}
use Rattle.snap_report.proofs.check.line_of_parts.Goals as goal

pub entries_of-requires-clause-fits : goal.entries_of-requires-clause-fits
entries_of-requires-clause-fits c =
    let a = accepted c.args.base.now.whole.counts c.args.folded.now (values c.args.batches.now) in
    omega (
      arith,
      total_parts a,
      c.requires.accepted.within,
      c.requires.accepted.sound.fits,
      c.requires.accepted.based.adds_up,
    )

pub total_of-requires : goal.total_of-requires
total_of-requires c =
    let a = accepted c.args.base.now.whole.counts c.args.folded.now (values c.args.batches.now) in
    omega (arith, total_parts a, c.requires.accepted.within, c.requires.accepted.sound.fits)

pub overflow_add-total : goal.overflow_add-total
overflow_add-total c =
    let a = accepted c.args.base.now.whole.counts c.args.folded.now (values c.args.batches.now) in
    omega (
      arith,
      total_parts a,
      c.requires.accepted.within,
      c.requires.accepted.sound.fits,
      c.requires.accepted.based.adds_up,
      c.total.ensures.value,
      c.total_of.ensures,
    )

pub returns-clause-bytes : goal.returns-clause-bytes
returns-clause-bytes c =
    let s = c.args.setup.now in
    let a = accepted c.args.base.now.whole.counts c.args.folded.now (values c.args.batches.now) in
    let count : length c.args.folded.now + length c.args.batches.now ≡ count_in a =
    omega (arith, count_is a, length-map c.args.batches.now arc_value) in
    let sum : c.total.result + c.total_of.result ≡ total_in a =
    omega (arith, total_parts a, c.requires.accepted.based.adds_up, c.total.ensures.value, c.total_of.ensures) in
    c.line_of.ensures.bytes
    ∙ (λ i. line_of s.rows s.cols s.shards (count i) (sum i) (c.in_ok-entries.ensures i))
