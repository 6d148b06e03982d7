use Rattle.batch_store.specs.Batches.{entry_of}
use Rattle.session_pool.proofs.DurableLaws.{synced_at}
use Rattle.session_pool.proofs.laws.accepted_puts_are_durable.Goals as goal

-- what is known only grows, so the session has a log after the put too
pub returns : goal.returns
returns g c = λ s t batch kept h known.
    synced_at g.L.Log.was_synced (entry_of batch) kept.index s.known t.known known h.0 h.4
