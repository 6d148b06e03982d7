-- A file on its way to a sink.
use Rattle.std.specs.Prelude.{◌≡◌, ℕ, List, ◌++◌}
use Rattle.crc32c.specs.Remainders.{all_ones, after_bytes}
use Rattle.byte_io.specs.Streams.{Answer}
use Rattle.byte_io.specs.Buffers.{Unwritten, HasWritten}

-- what a writer holds: how many bytes the sink took, those that it is still to be handed, and the remainder of which
-- the checksum of all of them is made
pub record WriterState : Type 0 where
  pub taken : ℕ
  pub pending : List ℕ
  pub remainder : ℕ

abbrev pub unwritten : WriterState → Unwritten
unwritten writer = record { taken = writer.taken; pending = writer.pending }

-- The calls that led from s to t took the front of the whole, more is pending, and `left` is still to be appended.
pub record IsWriting {S : Type 0} (step : S → List ℕ → Answer → S → Type 0) (failures : S → ℕ) (s t : S) (all : List ℕ)
    (writer : WriterState) (left : List ℕ) : Type 0 where
  pub text : List ℕ
  pub has_written : HasWritten step failures s t text (unwritten writer)
  pub remainder_is : writer.remainder ≡ after_bytes all_ones text
  pub all_is : all ≡ text ++ left
