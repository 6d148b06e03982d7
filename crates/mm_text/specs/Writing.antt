-- What a TextWriter has written of a text, and what of it is still pending.
use Rattle.std.specs.Prelude.{ℕ, List}
use Rattle.byte_io.specs.Streams.{Answer}
use Rattle.byte_io.specs.Buffers.{Unwritten, HasWritten as BufferHasWritten}

-- what a TextWriter knows: the dimensions that it wrote, what its buffer holds, and how many entry lines are still to
-- come
pub record WriterState : Type 0 where
  pub rows : ℕ
  pub cols : ℕ
  pub buffer : Unwritten
  pub left : ℕ

-- The calls that led from s to t took the front of the text, and the rest of it is pending.
abbrev pub HasWritten : {S : Type 0} → (S → List ℕ → Answer → S → Type 0) → (S → ℕ) → S → S → List ℕ → WriterState →
    Type 0
HasWritten step failures s t text writer = BufferHasWritten step failures s t text writer.buffer
