use Rattle.std.proofs.Common.{◌++◌, take, sym}
use Rattle.std.proofs.lemmas.Option.{slice_get-get_or}
use Rattle.log_start.proofs.Summed.{next_fits, next_summed, next_total}
use Rattle.log_start.proofs.head.add_folded.Goals as goal

pub add-requires : goal.add-requires
add-requires c =
    let xs = c.args.folded.now in
    let here = sym (slice_get-get_or xs c.entries.entry-index _ c.entries-test.true) in
    record {
      fits = next_fits xs c.entries.entry-index _ here c.args.front.now.total c.entries.front.total
          c.entries.invariant.total c.requires.fits;
    }

pub entries-preserved : goal.entries-preserved
entries-preserved c =
    let xs = c.args.folded.now in
    let here = sym (slice_get-get_or xs c.entries.entry-index _ c.entries-test.true) in
    record {
      summed = λ es has.
          next_summed xs c.entries.entry-index _ here c.add.new.self es
          (c.add.ensures.summed (es ++ take c.entries.entry-index xs) (c.entries.invariant.summed es has));
      total = next_total xs c.entries.entry-index _ here c.args.front.now.total c.entries.front.total
          c.add.new.self.total c.entries.invariant.total c.add.ensures.total;
    }
