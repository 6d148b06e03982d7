-- Why a new log wasn't begun.
use Rattle.std.specs.Prelude.{◌≡◌, ℕ, ◌+◌, Bool, ⊤}
use Rattle.log_folder.specs.Names.{HasFailedFile, failed_calls}
use Rattle.log_folder.specs.declared.fault.RotateFault.{RotateFault}
use Rattle.stored_log.specs.declared.fault.StoredFault.{StoredFault}

-- where it isn't for want of memory, a call of the folder failed, or one of the new file
abbrev pub HasNotBegun : {D : Type 0} → (D → Bool) → ℕ → ℕ → StoredFault → Type 0
HasNotBegun in_doubt old new StoredFault.Memory = new ≡ old
HasNotBegun in_doubt old new (StoredFault.File why) = (new ≡ old + failed_calls why) × HasFailedFile in_doubt why
