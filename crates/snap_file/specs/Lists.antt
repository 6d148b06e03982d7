-- What was read behind the head, as the reader keeps it.
use Rattle.std.specs.Prelude.{◌≡◌, ℕ, List, []}
use Rattle.std.specs.declared.cmp.Ordering.{Ordering}
use Rattle.std.specs.Ordering.{nat_cmp, ordering_then}
use Rattle.std.specs.BTreeSet.{BTreeSet, contains}
use Rattle.batch_store.specs.Accepted.{accepted}
use Rattle.batch_store.specs.Batches.{values}
use Rattle.batch_store.specs.declared.verdict.Entry.{Entry}
use Rattle.snap_file.specs.Spelling.{stands_in}
use Rattle.snap_file.specs.Table.{Progress}
use Rattle.snap_file.specs.declared.past.Past.{Past}
use Rattle.snap_file.specs.declared.batch.BatchList.{BatchList}

-- by client, and then by number
abbrev pub pair_cmp : ℕ × ℕ → ℕ × ℕ → Ordering
pair_cmp p q = ordering_then (nat_cmp p.0 q.0) (nat_cmp p.1 q.1)

-- a set has exactly the pairs of these entries
abbrev pub HasPairs : BTreeSet (ℕ × ℕ) → List Entry → Type 0
HasPairs pairs es = (client number : ℕ) → contains pair_cmp pairs (client, number) ≡ stands_in client number es

-- what is folded
abbrev pub progress_in : Past → Progress
progress_in past = record { state = accepted past.base.counts past.folded.items []; counted = past.counted }

-- and the batches behind it
abbrev pub progress_of : Past → BatchList → Progress
progress_of past list = record {
  state = accepted past.base.counts past.folded.items (values list.batches.items);
  counted = list.tally.counted;
}
