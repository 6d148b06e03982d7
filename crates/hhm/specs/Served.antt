-- What a server says of its settings before it does anything.
--     IsJudged s r    each of these refusals is the answer exactly where the settings have its fault, and none before it
use Rattle.std.specs.Prelude.{◌≡◌, ◌≤◌, ◌↔◌, None, Result, Err}
use Rattle.socket_server.specs.Starts.{IsOnePath, IsReserved}
use Rattle.socket_server.specs.declared.fault.ServerFault.{ServerFault}
use Rattle.socket_server.specs.declared.fault.ServerFault.TheVariants.{BadWorkers, NoAddress, SamePath}
use Rattle.socket_server.specs.declared.fault.ServerFault.TheVariants.{BadSnapshotPath, BadLogPath, BadCompactors}
use Rattle.socket_server.specs.declared.settings.Settings.{Settings}

pub record IsJudged {Y : Type 0} (s : Settings) (r : Result Y ServerFault) : Type 0 where
  pub workers : (r ≡ Err BadWorkers) ↔ ((1 ≤ s.workers) × (s.workers ≤ 32) → ⊥)
  pub nowhere : (r ≡ Err NoAddress) ↔ ((1 ≤ s.workers) × (s.workers ≤ 32) × (s.tcp ≡ None) × (s.unix ≡ None))
  pub snapshot_path : (r ≡ Err BadSnapshotPath)
      ↔ ((1 ≤ s.workers) × (s.workers ≤ 32) × ((s.tcp ≡ None) × (s.unix ≡ None) → ⊥) × IsReserved s.snapshot)
  pub log_path : (r ≡ Err BadLogPath)
      ↔ ((1 ≤ s.workers) × (s.workers ≤ 32) × ((s.tcp ≡ None) × (s.unix ≡ None) → ⊥) × (IsReserved s.snapshot → ⊥)
      × IsReserved s.log)
  pub one_path : (r ≡ Err SamePath)
      ↔ ((1 ≤ s.workers) × (s.workers ≤ 32) × ((s.tcp ≡ None) × (s.unix ≡ None) → ⊥) × (IsReserved s.snapshot → ⊥)
      × (IsReserved s.log → ⊥) × IsOnePath s.snapshot s.log)
  pub compactors : (r ≡ Err BadCompactors)
      ↔ ((1 ≤ s.workers) × (s.workers ≤ 32) × ((s.tcp ≡ None) × (s.unix ≡ None) → ⊥) × (IsReserved s.snapshot → ⊥)
      × (IsReserved s.log → ⊥) × (IsOnePath s.snapshot s.log → ⊥) × ((1 ≤ s.compactors) × (s.compactors ≤ 2) → ⊥))
