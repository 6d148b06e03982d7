-- The calls of a folder beside the writes, and what one answers.
use Rattle.std.specs.Prelude.{ℕ, List, Result}
use Rattle.byte_io.specs.declared.fault.DeviceFault.{DeviceFault}

-- a call, with the names that it is given
pub data FolderCall : Type 0 where
  create : List ℕ → FolderCall
  sync : FolderCall
  rename : List ℕ → List ℕ → FolderCall

abbrev pub Done : Type 0
Done = Result (Unit {0}) DeviceFault
