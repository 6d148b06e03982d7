-- What is known as durable was synced.
use Rattle.std.proofs.Common.{◌≡◌, ℕ, List, Option, Some, None}
use Rattle.std.specs.Prelude.{is_some, true, slice_get}
use Rattle.batch_store.specs.declared.verdict.Entry.{Entry}
use Rattle.session_pool.specs.Seats.{Grows, IsDurable}

-- where something was known as durable, what is durable now stands among entries that were synced
pub synced_at : (synced : List Entry → Type 0) (e : Entry) (place : ℕ) (before after : Option (List Entry)) →
    is_some before ≡ true → Grows before after → IsDurable synced e place after →
    (entries : List Entry) × synced entries × (slice_get entries place ≡ Some e)
synced_at synced e place None after known grows durable = absurd (cc known)
synced_at synced e place (Some es) None known grows durable = absurd grows
synced_at synced e place (Some es) (Some fs) known grows durable = (fs, durable.1, durable.0)
