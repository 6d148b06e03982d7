use Rattle.std.proofs.Common.{◌≡◌, ◌≤◌, ◌∙◌, [], Some, sym, subst, arith, vec_capacity}
use Rattle.std.proofs.lemmas.Result.{err_from_is_err_and}
use Rattle.mm_text.specs.Readings.{SizedCells, size_of}
use Rattle.mm_sum.proofs.ReadLemmas.{hands_out_none, sized, stopped, begins, same_some}
use Rattle.mm_sum.proofs.reading.first_block.Goals as goal

pub returns-in_err-more-clause-err : goal.returns-in_err-more-clause-err
returns-in_err-more-clause-err g c =
    let p = err_from_is_err_and c.from_residual.result c.from_residual.ensures.1 in
    let had : 4096 ≤ vec_capacity c.args.block.now = c.requires.reserved in
    let reserved : 4096 ≤ vec_capacity c.clear.new.self = omega (arith, c.clear.ensures.capacity, had) in
    rw (p.1, p.2) (λ earlier.
    stopped g.R.Source.read_gives g.R.Source.at_end g.R.Source.failure_count c.args.r.now c.args.r.now
    c.read_block.new.r c.args.reader.now [] c.clear.new.self.items c.read_block.new.block.items
    c.in_err-more.field-0.0
    (hands_out_none g.R.Source.read_gives g.R.Source.at_end g.R.Source.failure_count c.args.r.now c.args.reader.now
    c.requires.fresh) c.in_err-more.ensures.err c.in_err-more.ensures.failures
    (c.in_err-more.ensures.reserved reserved))

pub unreachable-requires : goal.unreachable-requires
unreachable-requires g c =
    let known = sized g.R.Source.read_gives g.R.Source.at_end g.R.Source.failure_count
    c.args.r.now c.args.r.now c.read_block.new.r c.args.reader.now c.read_block.new.self []
    c.clear.new.self.items c.read_block.new.block.items
    (hands_out_none g.R.Source.read_gives g.R.Source.at_end g.R.Source.failure_count c.args.r.now c.args.reader.now
    c.requires.fresh) c.clear.ensures.items c.in_ok-more.ensures.no_failure c.in_ok-more.more
    c.in_ok-more.ensures.ok (λ more. omega (arith, c.in_ok-more.ensures.full more)) in
    c.in_default.not-Some known.size (c.size.ensures.size ∙ known.size_is)

pub returns-clause-ok : goal.returns-clause-ok
returns-clause-ok g c =
    let size_is : size_of c.read_block.new.self ≡ Some c.in-Some.size = sym c.size.ensures.size ∙ c.in-Some.is in
    begins g.R.Source.read_gives g.R.Source.at_end g.R.Source.failure_count
    c.args.r.now c.args.r.now c.read_block.new.r c.args.reader.now c.read_block.new.self []
    c.clear.new.self.items c.read_block.new.block.items
    (hands_out_none g.R.Source.read_gives g.R.Source.at_end g.R.Source.failure_count c.args.r.now c.args.reader.now
    c.requires.fresh) c.clear.ensures.items c.in_ok-more.ensures.no_failure c.in-Some.size c.in_ok-more.more
    c.in_ok-more.ensures.ok size_is

pub returns-clause-sized : goal.returns-clause-sized
returns-clause-sized g c =
    let known = sized g.R.Source.read_gives g.R.Source.at_end g.R.Source.failure_count
    c.args.r.now c.args.r.now c.read_block.new.r c.args.reader.now c.read_block.new.self []
    c.clear.new.self.items c.read_block.new.block.items
    (hands_out_none g.R.Source.read_gives g.R.Source.at_end g.R.Source.failure_count c.args.r.now c.args.reader.now
    c.requires.fresh) c.clear.ensures.items c.in_ok-more.ensures.no_failure c.in_ok-more.more
    c.in_ok-more.ensures.ok (λ more. omega (arith, c.in_ok-more.ensures.full more)) in
    let size_is : size_of c.read_block.new.self ≡ Some c.in-Some.size = sym c.size.ensures.size ∙ c.in-Some.is in
    let same : known.size ≡ c.in-Some.size = same_some known.size c.in-Some.size (sym known.size_is ∙ size_is) in
    subst (SizedCells c.read_block.new.block.items) same known.sized
