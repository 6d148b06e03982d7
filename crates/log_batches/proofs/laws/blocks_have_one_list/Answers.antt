use Rattle.std.proofs.Common.{refl}
use Rattle.snap_file.specs.declared.head.Head.{Head}
use Rattle.log_batches.proofs.BlockLemmas.{same_lists}
use Rattle.log_batches.proofs.laws.blocks_have_one_list.Goals as goal

pub returns : goal.returns
returns c = λ s block list other is fills a b.
    let h : Head = record { setup = s; version = 3; batches = 0; total = s.limit } in
    same_lists h (record { rows = is.dims.0.1; cols = is.dims.1.1; limit = refl; below = is.fits }) block list other
    fills a b
