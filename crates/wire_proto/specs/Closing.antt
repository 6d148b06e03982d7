-- How a reply is sent, and the last reply of a session.
use Rattle.std.specs.Prelude.{◌≡◌, ℕ, ◌+◌, List, length, Result, Ok, Err}
use Rattle.byte_io.specs.Streams.{Answer}
use Rattle.byte_io.specs.Writing.{HasTaken, HasStopped}
use Rattle.wire_frames.specs.declared.request.FrameFault.{FrameFault}
use Rattle.wire_frames.specs.declared.request.FrameFault.TheVariants.{Memory as NoMemory, TooLarge, UnknownKind}
use Rattle.wire_frames.specs.declared.request.FrameFault.TheVariants.{BadLength}
use Rattle.wire_proto.specs.declared.ended.Ended.{Ended}
use Rattle.wire_proto.specs.declared.ended.Ended.TheVariants.{WriteFault, BadFrame, Memory}

-- The bytes were taken whole, and so many were written with them; or they were taken in part, and the session ended.
abbrev pub Sends : {L : Type 0} → (L → List ℕ → Answer → L → Type 0) → (L → ℕ) → L → L → List ℕ → ℕ → Result ℕ Ended →
    Type 0
Sends step failures l l' bytes written (Ok w) = (w ≡ written + length bytes) × HasTaken step failures l l' bytes
Sends step failures l l' bytes written (Err e) = (i : ℕ) × (e ≡ WriteFault (written + i)) ×
    HasStopped step failures l l' bytes i

-- The reply was taken whole, and the session ended as it was to end; or it was taken in part.
pub data Closes {L : Type 0} (step : L → List ℕ → Answer → L → Type 0) (failures : L → ℕ) (l l' : L) (reply : List ℕ)
    (written : ℕ) (ended result : Ended) : Type 0 where
  whole : HasTaken step failures l l' reply → result ≡ ended → Closes step failures l l' reply written ended result
  part : (i : ℕ) → HasStopped step failures l l' reply i → result ≡ WriteFault (written + i) →
      Closes step failures l l' reply written ended result

-- Replies that were held back were taken whole, and the session ended as above; or they were taken in part.
pub data ClosesBehind {L : Type 0} (step : L → List ℕ → Answer → L → Type 0) (failures : L → ℕ) (l l' : L)
    (held reply : List ℕ) (written : ℕ) (ended result : Ended) : Type 0 where
  held_sent : (m : L) → HasTaken step failures l m held →
      Closes step failures m l' reply (written + length held) ended result →
      ClosesBehind step failures l l' held reply written ended result
  held_cut : (i : ℕ) → HasStopped step failures l l' held i → result ≡ WriteFault (written + i) →
      ClosesBehind step failures l l' held reply written ended result

-- how a session ends that refuses what came, or finds no memory for it
abbrev pub ended_of : FrameFault → Ended
ended_of NoMemory = Memory
ended_of TooLarge = BadFrame
ended_of UnknownKind = BadFrame
ended_of BadLength = BadFrame
