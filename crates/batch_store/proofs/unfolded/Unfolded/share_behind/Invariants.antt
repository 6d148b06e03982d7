use Rattle.std.proofs.Common.{◌≡◌, ◌+◌, ◌≤◌, ◌-◌, length, take, drop, vec_len, vec_capacity}
use Rattle.batch_store.specs.Batches.{values}
use Rattle.batch_store.specs.BookFolds.{rest_list}
use Rattle.batch_store.proofs.unfolded.Unfolded.share_behind.Given as goal

abbrev pub invariant-batches : goal.invariant-batches
invariant-batches l = record {
  counted : l.place ≡ l.fn.from + vec_len l.out;
  within : vec_len l.out ≤ vec_capacity l.out;
  capacity : vec_capacity l.out ≡ vec_capacity l.initial.out;
  told : values l.out.items ≡ take (vec_len l.out) (drop l.fn.from (rest_list l.self));
}

abbrev pub decreases-batches : goal.decreases-batches
decreases-batches l = length (rest_list l.self) - l.place
