use Rattle.std.proofs.Common.{◌+◌, List, take, refl, subst, arith}
use Rattle.batch_store.specs.declared.verdict.Entry.{Entry}
use Rattle.batch_store.proofs.BookLaws.{next_item}
use Rattle.snap_file.specs.Lists.{HasPairs}
use Rattle.log_join.specs.Joins.{known_entries}
use Rattle.log_join.proofs.PlaceLemmas.{total_next, total_within}
use Rattle.log_join.proofs.seen.seen_in.Goals as goal

pub overflow_add-total : goal.overflow_add-total
overflow_add-total c =
    let es = known_entries c.args.list.now in
    let next = total_next es c.entries.i c.in-Some.entry c.in-Some.ensures in
    let most = total_within es (c.entries.i + 1) in
    omega (arith, next, most, c.entries.invariant.total, c.requires)

pub entries-preserved : goal.entries-preserved
entries-preserved c =
    let es = known_entries c.args.list.now in
    let next = total_next es c.entries.i c.in-Some.entry c.in-Some.ensures in
    record {
      pairs = subst (λ (l : List Entry). HasPairs c.note_pair.new.pairs l)
          (next_item es c.entries.i c.in-Some.entry c.in-Some.ensures)
          (c.in_ok-note_pair.ensures.noted (take c.entries.i es) c.in-Some.entry c.entries.invariant.pairs refl refl);
      total = omega (arith, next, c.entries.invariant.total);
    }
