use Rattle.batch_store.specs.Batches.{entry_of}
use Rattle.locked_engine.proofs.CountedLaws.{counts_once}
use Rattle.session_pool.proofs.DurableLaws.{synced_at}
use Rattle.socket_server.proofs.laws.accepted_puts_are_kept.Goals as goal

-- what is known only grows, so the session has a log after the put too
pub returns : goal.returns
returns g c = λ s t batch kept seats last a given known held closed among later. record {
  covered = synced_at g.L.Log.was_synced (entry_of batch) kept.index s.known t.known known given.0 given.4;
  counted = counts_once g.N.Named.setup seats a (entry_of batch) kept held closed.shown record {
    seat = last;
    among = among;
    seen = t.seat.seen;
    told = given.3;
    later = later;
  };
}
