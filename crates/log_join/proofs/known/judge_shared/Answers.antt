use Rattle.std.proofs.Common.{◌≡◌, ◌∙◌, ◌+◌, ◌<◌, Some, slice_get, refl, sym, length, arith}
use Rattle.std.proofs.lemmas.List.{length-map}
use Rattle.std.specs.Arc.{arc_value}
use Rattle.batch_store.specs.Batches.{entry_of, entries_of, values}
use Rattle.log_join.specs.Joins.{known_entries}
use Rattle.log_join.proofs.PlaceLemmas.{entry_item, same_more}
use Rattle.log_join.proofs.known.judge_shared.Goals as goal

pub returns-then-differs_at-clause-err : goal.returns-then-differs_at-clause-err
returns-then-differs_at-clause-err c =
    let i = c.batches.i in
    let bs = c.args.batches.now in
    let within : i < length bs = omega (arith, c.batches-test.true, c.requires.logged) in
    let here = entry_item bs i c.index-batches-i.result c.deref.result.now within c.index-batches-i.is
    c.deref.ensures in
    let found = c.differs_at.ensures.yes c.if-differs_at.true in (
      c.args.first + i,
      refl,
      record {
        index = i;
        at_is = refl;
        within = found.0;
        logged = let a = length-map bs arc_value in let b = length-map (values bs) entry_of in omega
            (arith, within, a, b);
        same = c.batches.invariant;
        differs = λ e. found.1 (e ∙ here);
      },
    )

pub batches-preserved : goal.batches-preserved
batches-preserved c =
    let i = c.batches.i in
    let bs = c.args.batches.now in
    let within : i < length bs = omega (arith, c.batches-test.true, c.requires.logged) in
    let here = entry_item bs i c.index-batches-i.result c.deref.result.now within c.index-batches-i.is
    c.deref.ensures in
    same_more (known_entries c.args.list.now) (entries_of (values bs)) c.args.first i c.batches.invariant
    (c.differs_at.ensures.no c.if-differs_at.false (omega (arith, c.batches-test.true, c.requires.listed)) ∙ sym here)
