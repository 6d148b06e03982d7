use Rattle.std.proofs.Common.{◌≡◌, ◌++◌, false, length}
use Rattle.batch_store.specs.Batches.{entries_of, values}
use Rattle.socket_server.proofs.renew.append_all.Given as goal

abbrev pub invariant-groups : goal.invariant-groups
invariant-groups g l = record {
  works : g.L.Log.failed l.log ≡ false;
  synced : g.L.Log.was_synced (g.L.Log.durable l.log);
  durable : g.L.Log.durable l.log ++ entries_of (values l.rest)
      ≡ g.L.Log.durable l.initial.log ++ entries_of (values l.fn.batches);
}

abbrev pub decreases-groups : goal.decreases-groups
decreases-groups g l = length l.rest
