use Rattle.std.proofs.Common.{◌+◌, List, take, subst, arith}
use Rattle.batch_store.specs.declared.verdict.Entry.{Entry}
use Rattle.batch_store.proofs.BookLaws.{next_item}
use Rattle.log_head.specs.Links.{HasAdded}
use Rattle.log_join.specs.Joins.{known_entries}
use Rattle.log_join.proofs.PlaceLemmas.{total_next, total_within}
use Rattle.log_join.proofs.known.front_of.Goals as goal

pub overflow_add-total : goal.overflow_add-total
overflow_add-total c =
    let es = known_entries c.args.list.now in
    let next = total_next es c.entries.i c.in-Some.entry c.in-Some.ensures in
    let most = total_within es (c.entries.i + 1) in
    omega (arith, next, most, c.entries.invariant.total, c.requires.fits)

pub entries-preserved : goal.entries-preserved
entries-preserved c =
    let es = known_entries c.args.list.now in
    let next = total_next es c.entries.i c.in-Some.entry c.in-Some.ensures in
    record {
      total = omega (arith, next, c.entries.invariant.total);
      link = subst (λ (l : List Entry). HasAdded c.add.new.self l)
          (next_item es c.entries.i c.in-Some.entry c.in-Some.ensures)
          (c.add.ensures (take c.entries.i es) c.entries.invariant.link);
    }
