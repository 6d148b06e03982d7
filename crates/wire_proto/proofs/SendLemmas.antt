-- Bytes that are sent one piece behind another.
use Rattle.std.proofs.Common.{◌≡◌, ℕ, ◌+◌, List, [], ◌∷◌, ◌++◌, length, Result, Ok, Err, ◌∙◌, ap, arith, length-append}
use Rattle.byte_io.specs.Writing.{HasTaken}
use Rattle.byte_io.specs.Streams.{Answer}
use Rattle.byte_io.proofs.SinkLemmas.{has_taken_append, stopped_behind, has_stopped_longer}
use Rattle.std.specs.Int.{w32, to_be_bytes}
use Rattle.wire_frames.specs.Frames.{frame, head_bytes}
use Rattle.wire_proto.specs.Replies.{text}
use Rattle.wire_proto.specs.Closing.{Sends}
use Rattle.wire_proto.specs.declared.ended.Ended.{Ended}
use Rattle.wire_proto.specs.declared.ended.Ended.TheVariants.{WriteFault}

pub sends_behind : {L : Type 0} (step : L → List ℕ → Answer → L → Type 0) (failures : L → ℕ) (l m l' : L)
    (head bytes : List ℕ) (written sent : ℕ) (r : Result ℕ Ended) →
    sent ≡ written + length head → HasTaken step failures l m head → Sends step failures m l' bytes sent r →
    Sends step failures l l' (head ++ bytes) written r
sends_behind step failures l m l' head bytes written sent (Ok w) e a b =
    let n = length-append head bytes in let h = b.0 in (
      omega arith,
      has_taken_append step failures l m l' head bytes a b.1,
    )
sends_behind step failures l m l' head bytes written sent (Err f) e a b = (
  length head + b.0,
  b.1 ∙ ap (λ n. WriteFault n) (omega (arith, e)),
  stopped_behind step failures l m l' head bytes b.0 a b.2,
)

pub sends_less : {L : Type 0} (step : L → List ℕ → Answer → L → Type 0) (failures : L → ℕ) (l l' : L)
    (head bytes : List ℕ) (written : ℕ) (f : Ended) →
    Sends step failures l l' head written (Err f) → Sends step failures l l' (head ++ bytes) written (Err f)
sends_less step failures l l' head bytes written f a = (
  a.0,
  a.1,
  has_stopped_longer step failures l l' head bytes a.0 a.2,
)

-- a text with its head
pub length_text : (bytes : List ℕ) → length (text bytes) ≡ 5 + length bytes
unfolding frame head_bytes
length_text bytes = length-append (to_be_bytes w32 (length bytes) ++ 133 ∷ []) bytes
