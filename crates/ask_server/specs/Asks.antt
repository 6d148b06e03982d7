-- What a server is asked over a link, and what it has answered.
--     HasGiven reads s t old new
--                     the reads that led from s to t have given the bytes that the second list has more than the first
--     HasAsked takes failures reads s t request frame
--                     the link has taken a request's frame, and then has given this frame
--     IsSaveReply f s the frame is a reply to a save, which says this
--     status_line s   the line of a status
use Rattle.std.specs.Prelude.{◌≡◌, ℕ, List, [], ◌∷◌, ◌++◌, codes, decimal}
use Rattle.byte_io.specs.Streams.{Answer, Calls, bytes_of_calls}
use Rattle.byte_io.specs.Writing.{HasTaken}
use Rattle.plain_engine.specs.declared.status.Status.{Status}
use Rattle.wire_proto.specs.Decoding.{IsReplyFrame, Said}
use Rattle.ask_server.specs.declared.words.Save.{Save}

pub record HasGiven {S : Type 0} (reads : S → Answer → S → Type 0) (s t : S) (old new : List ℕ) : Type 0 where
  pub answers : List Answer
  pub calls : Calls reads s answers t
  pub bytes_are : new ≡ old ++ bytes_of_calls answers

pub record HasAsked {S : Type 0} (takes : S → List ℕ → Answer → S → Type 0) (failures : S → ℕ)
    (reads : S → Answer → S → Type 0) (s t : S) (request frame : List ℕ) : Type 0 where
  pub between : S
  pub sent : HasTaken takes failures s between request
  pub given : HasGiven reads between t [] frame

-- the frame says that a save was made, or refuses it by this code
abbrev pub IsSaveReply : List ℕ → Save → Type 0
IsSaveReply frame Save.Made = (n : ℕ) × IsReplyFrame frame (Said.saved n)
IsSaveReply frame (Save.Refused code) = (detail : ℕ) × IsReplyFrame frame (Said.refused code detail)

abbrev pub status_line : Status → List ℕ
status_line s = (codes "batches " ++ decimal s.batches) ++ (codes " total " ++ decimal s.total) ++ 10 ∷ []
