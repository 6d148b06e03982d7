-- What may be folded where there is a log.
--     IsSyncedTo synced place
--                     entries that a log has answered to have synced reach up to this place, if it is one
use Rattle.std.specs.Prelude.{ℕ, ◌≤◌, List, length, Option, Some, None}
use Rattle.batch_store.specs.declared.verdict.Entry.{Entry}

abbrev pub IsSyncedTo : (List Entry → Type 0) → Option ℕ → Type 0
IsSyncedTo synced None = Unit {0}
IsSyncedTo synced (Some place) = (es : List Entry) × synced es × (place ≤ length es)
