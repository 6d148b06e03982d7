use Rattle.std.proofs.Common.{◌≡◌, ◌+◌, vec_len, vec_capacity}
use Rattle.std.specs.Prelude.{◌==◌, if◌then◌else◌}
use Rattle.locked_engine.specs.Opened.{opened_seats}
use Rattle.locked_engine.proofs.open.make_seats.Given as goal

abbrev pub invariant-seats : goal.invariant-seats
invariant-seats g l = record {
  seats : l.seats.items ≡ opened_seats l.history.entries l.history.batches l.total l.i;
  count : vec_len l.seats ≡ l.i;
  capacity : vec_capacity l.seats ≡ vec_capacity l.initial.seats;
  first_parts : l.first.parts + l.i ≡ l.count;
  first_amount : l.first.amount ≡ (if l.i == 0 then l.total else 0);
  second_parts : l.second.parts + l.i ≡ l.count;
  second_amount : l.second.amount ≡ 0;
}
