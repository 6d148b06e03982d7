-- Why there is no start, where a file was found.
use Rattle.std.proofs.Common.{◌≡◌, ◌≢◌, ◌⊎◌, inl, inr, ℕ, refl}
use Rattle.batch_store.specs.Setups.{Setting}
use Rattle.batch_store.specs.Books.{Listing}
use Rattle.log_blocks.specs.Blocks.{Block}
use Rattle.log_disk.specs.declared.disk.LogDisk.{Ghosts as Device}
use Rattle.log_blocks.specs.declared.fault.LogFault.{LogFault}
use Rattle.log_blocks.specs.declared.fault.LogKind.{LogKind}
use Rattle.log_file.specs.Logs.{Log}
use Rattle.log_start.specs.Found.{IsRefused}
use Rattle.log_start.specs.Starts.{RefusesFound}
use Rattle.log_start.specs.declared.fault.StartFault.{StartFault}
use Rattle.log_start.specs.declared.owner.LogOwner.{LogOwner}

is_memory : (kind : LogKind) → (kind ≡ LogKind.Memory) ⊎ (kind ≢ LogKind.Memory)
is_memory LogKind.Memory = inl refl
is_memory LogKind.Read = inr (λ e. absurd cc)
is_memory LogKind.Truncated = inr (λ e. absurd cc)
is_memory LogKind.BadMark = inr (λ e. absurd cc)
is_memory LogKind.BadVersion = inr (λ e. absurd cc)
is_memory LogKind.BadHead = inr (λ e. absurd cc)
is_memory LogKind.HeadCheck = inr (λ e. absurd cc)
is_memory LogKind.Damaged = inr (λ e. absurd cc)
is_memory LogKind.BadBlock = inr (λ e. absurd cc)
is_memory LogKind.TooLong = inr (λ e. absurd cc)

pub file_refused : {D : Type 0} (d : Device D) (file : D) (len : ℕ) (l : Log) (block : Block) (s : Setting)
    (o : LogOwner) (v : Listing) (old new : ℕ) (why : LogFault) (fault : StartFault) →
    (why.kind ≡ LogKind.Memory → fault ≡ StartFault.Memory) →
    (why.kind ≢ LogKind.Memory → fault ≡ StartFault.Log why) →
    (after : D) × IsRefused d file after len why → RefusesFound d file len l block s o v old new fault
file_refused d file len l block s o v old new why fault memory other refused =
    elim (is_memory why.kind) [
      | inl m ↦ inl (memory m)
      | inr n ↦ inr (inl (record {
        why = why;
        fault_is = other n;
        no_memory = n;
        new = refused.0;
        refused = refused.1;
      }))
    ]
