-- What the bytes of a reply say.
--     Said            a reply, as a client sees it
--     IsReplyFrame    these bytes are one whole frame, that of this reply
use Rattle.std.specs.Prelude.{◌≡◌, ℕ, ◌<◌, ◌≤◌, ◌^◌, ◌%◌, ◌==◌, ◌&&◌, Bool, if◌then◌else◌, List, ◌∷◌, length, take, slice_index}
use Rattle.std.specs.Prelude.{Option, Some, None}
use Rattle.std.specs.Int.{w16, from_be_bytes}
use Rattle.hyper_matrix.specs.declared.row_sum.RowSum.{RowSum}
use Rattle.batch_store.specs.declared.verdict.Kept.{Kept}
use Rattle.plain_engine.specs.declared.status.Status.{Status}
use Rattle.wire_frames.specs.Frames.{frame, number_at}
use Rattle.wire_proto.specs.Questions.{more_byte}
use Rattle.wire_proto.specs.Replies as frames
use Rattle.wire_proto.specs.declared.decoding.Reply.{Reply}
use Rattle.wire_proto.specs.declared.decoding.Reply.TheVariants as reply

pub data Said : Type 0 where
  accepted : Kept → Said
  value : Option ℕ → Said
  row_sum : RowSum → Said
  counts : Status → Said
  text : List ℕ → Said
  saved : ℕ → Said
  stopping : Said
  refused : ℕ → ℕ → Said
  cells : Bool → List ℕ → Said
  rows : List ℕ → Said
  stats : List ℕ → Said

abbrev pub said : Reply → Said
said (reply.Accepted kept) = accepted kept
said (reply.Value count) = value count
said (reply.RowSum sum) = row_sum sum
said (reply.Counts status) = counts status
said (reply.Text bytes) = text bytes.now
said (reply.Saved batches) = saved batches
said reply.Stopping = stopping
said (reply.Refused code detail) = refused code detail
said (reply.Cells more cell_bytes) = cells more cell_bytes.now
said (reply.Rows row_bytes) = rows row_bytes.now
said (reply.Stats lines) = stats lines.now

-- 24 bytes for each cell, or row, of which there are at most 1,000,000
abbrev pub AreWhole : List ℕ → Type 0
AreWhole bytes = (length bytes % 24 ≡ 0) × (length bytes ≤ 24000000)

-- the numbers fit their places, and a text its body
abbrev pub FitsReply : Said → Type 0
FitsReply (accepted kept) = (kept.index < 2 ^ 64) × (kept.total_after < 2 ^ 64)
FitsReply (value (Some count)) = count < 2 ^ 64
FitsReply (value None) = Unit {0}
FitsReply (row_sum sum) = (sum.entries < 2 ^ 64) × (sum.total < 2 ^ 64)
FitsReply (counts status) = (status.batches < 2 ^ 64) × (status.total < 2 ^ 64)
FitsReply (text bytes) = length bytes ≤ 67108864
FitsReply (saved batches) = batches < 2 ^ 64
FitsReply stopping = Unit {0}
FitsReply (refused code detail) = (code < 2 ^ 16) × (detail < 2 ^ 64)
FitsReply (cells more bytes) = AreWhole bytes
FitsReply (rows bytes) = AreWhole bytes
FitsReply (stats bytes) = length bytes ≤ 67108864

abbrev pub reply_frame : Said → List ℕ
reply_frame (accepted kept) = frames.accepted kept
reply_frame (value count) = frames.value count
reply_frame (row_sum sum) = frames.row_sum sum
reply_frame (counts status) = frames.counts status
reply_frame (text bytes) = frames.text bytes
reply_frame (saved batches) = frames.saved batches
reply_frame stopping = frames.stopping
reply_frame (refused code detail) = frames.refused code detail
reply_frame (cells more bytes) = frame 136 (more_byte more ∷ bytes)
reply_frame (rows bytes) = frame 137 bytes
reply_frame (stats bytes) = frame 138 bytes

pub record IsReplyFrame (bytes : List ℕ) (r : Said) : Type 0 where
  pub fits : FitsReply r
  pub spelled : bytes ≡ reply_frame r

-- whether a body of this length fits the kind of a reply but a text, cells and rows
unfoldable pub short_fits : ℕ → ℕ → Bool
short_fits kind len =
    if (kind == 129) then (len == 16)
    else if (kind == 130) then (len == 9)
    else if (kind == 131) then (len == 16)
    else if (kind == 132) then (len == 16)
    else if (kind == 134) then (len == 8)
    else if (kind == 135) then (len == 0)
    else (kind == 255) && (len == 10)

-- what a body of this kind would say
abbrev pub code_at : List ℕ → ℕ
code_at body = from_be_bytes w16 (take 2 body)

abbrev pub value_at : List ℕ → Option ℕ
value_at body = if (slice_index body 0 == 0) then None else Some (number_at 1 body)

unfoldable pub body_says : ℕ → List ℕ → Said
body_says kind body =
    if (kind == 129) then accepted (record { index = number_at 0 body; total_after = number_at 8 body })
    else if (kind == 130) then value (value_at body)
    else if (kind == 131) then row_sum (record { entries = number_at 0 body; total = number_at 8 body })
    else if (kind == 132) then counts (record { batches = number_at 0 body; total = number_at 8 body })
    else if (kind == 134) then saved (number_at 0 body)
    else if (kind == 135) then stopping
    else refused (code_at body) (number_at 2 body)
