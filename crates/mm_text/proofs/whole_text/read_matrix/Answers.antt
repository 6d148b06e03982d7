use Rattle.std.proofs.Common.{◌≡◌, false}
use Rattle.mm_text.proofs.WholeTextLemmas.{whole_block, whole_bounds}
use Rattle.mm_text.proofs.whole_text.read_matrix.Goals as goal

pub invariant_of-result : goal.invariant_of-result
invariant_of-result g c =
    let last : c.in_ok-more-in-Ok.more ≡ false = c.if-not-more.true in
    let whole = whole_block {S = g.row.R.Denot} g.R.Source.read_gives g.R.Source.at_end c.args.r.now c.read_block.new.r
    c.in-Ok.reader c.read_block.new.self _ c.read_block.new.block.items c.args.limits c.in-Some.size
    c.in_ok-more-in-Ok.more
    c.new-cells.ensures.items c.in-Ok.ensures last c.in_ok-more-in-Ok.ensures.ok c.in-Some.ensures.size in
    let b = whole_bounds {S = g.row.R.Denot} g.R.Source.read_gives g.R.Source.at_end c.args.r.now c.read_block.new.r
    c.args.limits c.in-Some.size c.read_block.new.block.items whole in
    record { sound_rows = b.0; sound_cols = b.1; within = b.2 }
