-- What a start of a log has answered, by what was found under the log's name.
use Rattle.std.proofs.Common.{◌≡◌, ◌⊎◌, inl, inr, ℕ, List}
use Rattle.std.specs.Prelude.{Bool, Option, Some, None, Result, Ok, Err, IfOk, ⊤}
use Rattle.batch_store.specs.Books.{Listing}
use Rattle.batch_store.specs.Setups.{Setting}
use Rattle.log_disk.specs.declared.disk.LogDisk.{Ghosts as Device}
use Rattle.log_start.specs.Starts.{IsList}
use Rattle.log_start.specs.declared.fault.StartFault.{StartFault}
use Rattle.log_start.specs.declared.owner.LogOwner.{LogOwner}
use Rattle.socket_server.specs.Starts.{IsAnswer, IsUnderName, MakesList}
use Rattle.socket_server.specs.declared.log_host.LogOrigin.{LogOrigin}

-- the list that a start gives is made of a file's bytes, or of what is known alone where none is there
pub list_made : {D : Type 0} (d : Device D) (tells : Type 0) (stored : D → Type 0) (named : Option ℕ) (s : Setting)
    (o : LogOwner) (v list : Listing) (head : LogOrigin) →
    IsList d tells stored named s o v list head.identity head.setup →
    (found : Option (List ℕ)) × IsUnderName d tells stored named found × MakesList s o v found list head
list_made d tells stored named s o v list head (inl (same, none, asked, whose, setup)) =
    (None, none, (same, asked, whose, setup))
list_made d tells stored named s o v list head (inr (bytes, joined, file)) = (Some bytes, file, joined)

-- of a host of which nothing more is known this is an answer
pub start_of : {L : Type 0} (s : Setting) (o : LogOwner) (v : Listing) (X : Option (List ℕ) → Type 0)
    (r : Result (L × Listing × LogOrigin) StartFault) →
    IfOk r (λ x. (found : Option (List ℕ)) × X found × MakesList s o v found x.1 x.2) → IsAnswer (λ x. ⊤) s o v r
start_of s o v X (Ok x) made = (made.0, tt, made.2)
start_of s o v X (Err fault) made = tt
