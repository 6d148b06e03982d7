-- Buffers between a device and those who use its bytes: what one read adds to those that are pending, and what was
-- written of a text of which a part is still pending.
use Rattle.std.specs.Prelude.{◌≡◌, ◌<◌, ℕ, List, ◌++◌, length, Ok, slice_index}
use Rattle.byte_io.specs.Streams.{Answer}
use Rattle.byte_io.specs.Writing.{HasTaken}

-- each element is a byte
abbrev pub IsBytes : List ℕ → Type 0
IsBytes bytes = (i : ℕ) → slice_index bytes i < 256

-- One read gave so many bytes, which are pending behind those that were.
pub record Fills {S : Type 0} (gives : S → Answer → S → Type 0) (s t : S) (old new : List ℕ) (n : ℕ) : Type 0 where
  pub bytes : List ℕ
  pub gave : gives s (Ok bytes) t
  pub count : length bytes ≡ n
  pub are_bytes : IsBytes bytes
  pub pending_is : new ≡ old ++ bytes

-- what a buffer in front of a sink holds: how many bytes the sink took, and those that it is still to be handed
pub record Unwritten : Type 0 where
  pub taken : ℕ
  pub pending : List ℕ

-- The calls that led from s to t took the front of the text, and the rest of it is pending.
pub record HasWritten {S : Type 0} (step : S → List ℕ → Answer → S → Type 0) (failures : S → ℕ) (s t : S)
    (text : List ℕ) (buffer : Unwritten) : Type 0 where
  pub front : List ℕ
  pub has_taken : HasTaken step failures s t front
  pub taken_is : buffer.taken ≡ length front
  pub whole : text ≡ front ++ buffer.pending
