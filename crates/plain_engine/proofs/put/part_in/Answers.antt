use Rattle.std.proofs.Common.{◌≡◌, Some, None, ap, arith, length}
use Rattle.batch_store.specs.BatchParts.{part_if_any}
use Rattle.batch_store.proofs.BatchPartLaws.{length-parts, part_at_place, part_found, part_missing}
use Rattle.plain_engine.proofs.put.part_in.Goals as goal

pub bounds-parts-s : goal.bounds-parts-s
bounds-parts-s c =
    omega (arith, c.requires.shard, ap length c.requires.told, length-parts c.args.k c.args.k c.args.b.now)

pub returns-in-Some-clause-part : goal.returns-in-Some-clause-part
returns-in-Some-clause-part c =
    let b = c.args.b.now in
    let part = part_at_place c.args.s c.args.k b c.args.parts.now c.index-parts-s.result c.requires.told
    c.requires.shard c.index-parts-s.is in
    let some : Some c.in-Some.part ≡ part_if_any c.args.s c.args.k b = cc in
    (part_found c.args.s c.args.k b _ some).0

pub returns-in-Some-clause-some : goal.returns-in-Some-clause-some
returns-in-Some-clause-some c =
    let b = c.args.b.now in
    let part = part_at_place c.args.s c.args.k b c.args.parts.now c.index-parts-s.result c.requires.told
    c.requires.shard c.index-parts-s.is in
    let some : Some c.in-Some.part ≡ part_if_any c.args.s c.args.k b = cc in
    (part_found c.args.s c.args.k b _ some).1

pub returns-in-None-clause-none : goal.returns-in-None-clause-none
returns-in-None-clause-none c =
    let b = c.args.b.now in
    let part = part_at_place c.args.s c.args.k b c.args.parts.now c.index-parts-s.result c.requires.told
    c.requires.shard c.index-parts-s.is in
    let none : None ≡ part_if_any c.args.s c.args.k b = cc in
    part_missing c.args.s c.args.k b none
