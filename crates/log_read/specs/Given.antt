-- What a source gave, from one state to another.
use Rattle.std.specs.Prelude.{◌≡◌, ◌⊎◌, ℕ, ◌+◌, ◌<◌, ◌≤◌, List, ◌++◌, length, slice_index}
use Rattle.byte_io.specs.Streams.{Answer, Calls, bytes_of_calls}
use Rattle.byte_io.specs.Writing.{EachTakes}
use Rattle.byte_io.specs.Buffers.{IsBytes}
use Rattle.log_blocks.specs.declared.fault.LogKind.{LogKind}
use Rattle.log_blocks.specs.declared.fault.LogKind.TheVariants.{Read, TooLong}
use Rattle.log_read.specs.declared.source.PageSource.{PageSource}

-- The calls from s to t gave these bytes, each of them some, and none failed.
pub record HasGiven {S : Type 0} (gives : S → Answer → S → Type 0) (failures : S → ℕ) (s t : S) (bytes : List ℕ) :
    Type 0 where
  pub answers : List Answer
  pub calls : Calls gives s answers t
  pub each : EachTakes answers
  pub bytes_are : bytes_of_calls answers ≡ bytes
  pub are_bytes : IsBytes bytes
  pub none_failed : failures t ≡ failures s

-- The source gave these bytes, and ended.
pub record HasEnded {S : Type 0} (gives : S → Answer → S → Type 0) (failures : S → ℕ) (ended : Type 0)
    (max_bytes : ℕ) (s t : S) (bytes : List ℕ) : Type 0 where
  pub answers : List Answer
  pub calls : Calls gives s answers t
  pub bytes_are : bytes_of_calls answers ≡ bytes
  pub are_bytes : IsBytes bytes
  pub within : length bytes ≤ max_bytes
  pub few : length answers ≤ max_bytes + 2
  pub at_end : ended
  pub none_failed : failures t ≡ failures s

-- What came so far: these bytes were handed on, and others are pending.
pub record IsAt {S : Type 0} (gives : S → Answer → S → Type 0) (failures : S → ℕ) (s t : S) (source : PageSource)
    (done : List ℕ) : Type 0 where
  pub given : HasGiven gives failures s t (done ++ source.buffer)
  pub came : source.came ≡ length (done ++ source.buffer)
  pub within : source.came ≤ source.max_bytes

-- A read failed, or byte number max_bytes + 1 came.
pub record HasFailed {S : Type 0} (gives : S → Answer → S → Type 0) (failures : S → ℕ) (max_bytes : ℕ) (s t : S)
    (kind : LogKind) : Type 0 where
  pub answers : List Answer
  pub calls : Calls gives s answers t
  pub few : length answers ≤ max_bytes + 2
  pub why : ((kind ≡ Read) × (failures t ≡ failures s + 1))
      ⊎ ((kind ≡ TooLong) × (max_bytes < length (bytes_of_calls answers)) × (failures t ≡ failures s))

-- The next n bytes were handed on: all of a page, or fewer at the end of the source. In the page 00 stands behind them.
pub record HasNext {S : Type 0} (gives : S → Answer → S → Type 0) (failures : S → ℕ) (ended : Type 0) (s t : S)
    (source : PageSource) (done : List ℕ) (n : ℕ) (page : List ℕ) : Type 0 where
  pub piece : List ℕ
  pub long : length piece ≡ n
  pub same : (k : ℕ) → k < 4096 → slice_index page k ≡ slice_index piece k
  pub whole : n ≡ 4096 → IsAt gives failures s t source (done ++ piece)
  pub last : n < 4096 → HasEnded gives failures ended source.max_bytes s t (done ++ piece)

-- All that is left was read: it has these bytes behind those that came.
pub record HasDrained {S : Type 0} (gives : S → Answer → S → Type 0) (failures : S → ℕ) (ended : Type 0)
    (max_bytes : ℕ) (s t : S) (came : List ℕ) : Type 0 where
  pub more : List ℕ
  pub end : HasEnded gives failures ended max_bytes s t (came ++ more)

-- Bytes that came were passed over, and others came behind them.
pub record HasPassed {S : Type 0} (gives : S → Answer → S → Type 0) (failures : S → ℕ) (s t : S)
    (source : PageSource) (came : List ℕ) : Type 0 where
  pub done : List ℕ
  pub more : List ℕ
  pub at : IsAt gives failures s t source done
  pub bytes_are : done ++ source.buffer ≡ came ++ more
