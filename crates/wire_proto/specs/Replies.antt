-- Reply frames.
use Rattle.std.specs.Prelude.{ℕ, nat_lt, if◌then◌else◌, List, [], ◌∷◌, ◌++◌, length, Option, Some, None, Result}
use Rattle.std.specs.Prelude.{Ok, Err}
use Rattle.std.specs.Int.{w16, to_be_bytes}
use Rattle.std.specs.declared.alloc.AllocError.{AllocError}
use Rattle.hyper_matrix.specs.declared.row_sum.RowSum.{RowSum}
use Rattle.hyper_matrix.specs.Matrix.{Matrix}
use Rattle.batch_store.specs.declared.verdict.Kept.{Kept}
use Rattle.plain_engine.specs.declared.status.Status.{Status}
use Rattle.plain_engine.specs.declared.fault.PutFault.TheVariants.{Memory, NumberReused, OverTotal, BookFull}
use Rattle.plain_engine.specs.declared.fault.PutFault.TheVariants.{RecordsDiffer}
use Rattle.wire_frames.specs.Frames.{frame, number}
use Rattle.mm_laws.specs.MatrixText.{matrix_text}
use Rattle.wire_proto.specs.Keeping.{Event, put, cell, row, status, export, save, stored, stats, fold}
use Rattle.wire_proto.specs.Telling.{Telling, stats_text}
use Rattle.wire_frames.specs.declared.request.FrameFault.{FrameFault}
use Rattle.wire_frames.specs.declared.request.FrameFault.TheVariants.{Memory as NoMemory, TooLarge, UnknownKind}
use Rattle.wire_frames.specs.declared.request.FrameFault.TheVariants.{BadLength}
use Rattle.wire_proto.specs.declared.keeper.PutRefusal.{PutRefusal}
use Rattle.wire_proto.specs.declared.keeper.PutRefusal.TheVariants.{Put, LogFull, LogFailed}
use Rattle.wire_proto.specs.declared.keeper.SaveRefusal.{SaveRefusal}
use Rattle.wire_proto.specs.declared.keeper.SaveRefusal.TheVariants.{Memory as SaveMemory, SaveOff, SaveFailed}
use Rattle.wire_proto.specs.declared.keeper.FoldRefusal.{FoldRefusal}
use Rattle.wire_proto.specs.declared.keeper.FoldRefusal.TheVariants as no_fold

abbrev pub accepted : Kept → List ℕ
accepted kept = frame 129 (number kept.index ++ number kept.total_after)

abbrev pub value : Option ℕ → List ℕ
value (Some count) = frame 130 (1 ∷ number count)
value None = frame 130 (0 ∷ number 0)

abbrev pub row_sum : RowSum → List ℕ
row_sum sum = frame 131 (number sum.entries ++ number sum.total)

abbrev pub counts : Status → List ℕ
counts s = frame 132 (number s.batches ++ number s.total)

abbrev pub text : List ℕ → List ℕ
text bytes = frame 133 bytes

abbrev pub saved : ℕ → List ℕ
saved batches = frame 134 (number batches)

abbrev pub stopping : List ℕ
stopping = frame 135 []

abbrev pub refused : ℕ → ℕ → List ℕ
refused code detail = frame 255 (to_be_bytes w16 code ++ number detail)

abbrev pub fault_code : FrameFault → ℕ
fault_code NoMemory = 1
fault_code TooLarge = 50
fault_code UnknownKind = 51
fault_code BadLength = 52

-- how the answer of a call is spelled; None where memory ran out
abbrev pub put_reply : Result Kept PutRefusal → Option (List ℕ)
put_reply (Ok kept) = Some (accepted kept)
put_reply (Err (Put Memory)) = None
put_reply (Err (Put NumberReused)) = Some (refused 30 0)
put_reply (Err (Put (OverTotal total))) = Some (refused 31 total)
put_reply (Err (Put BookFull)) = Some (refused 32 0)
put_reply (Err (Put RecordsDiffer)) = Some (refused 33 0)
put_reply (Err LogFull) = Some (refused 34 0)
put_reply (Err LogFailed) = Some (refused 35 0)

-- a text of more bytes than a body may have is refused
unfoldable pub text_reply : List ℕ → List ℕ
text_reply bytes = if nat_lt 67108864 (length bytes) then refused 40 0 else text bytes

abbrev pub export_reply : Result Matrix AllocError → Option (List ℕ)
export_reply (Ok m) = Some (text_reply (matrix_text m))
export_reply (Err e) = None

abbrev pub save_reply : Result ℕ SaveRefusal → Option (List ℕ)
save_reply (Ok batches) = Some (saved batches)
save_reply (Err SaveMemory) = None
save_reply (Err SaveOff) = Some (refused 43 0)
save_reply (Err SaveFailed) = Some (refused 42 0)

-- a text of more bytes than a body may have is refused
unfoldable pub lines_reply : List ℕ → List ℕ
lines_reply bytes = if nat_lt 67108864 (length bytes) then refused 40 0 else frame 138 bytes

abbrev pub stats_reply : Result Telling AllocError → Option (List ℕ)
stats_reply (Ok told) = Some (lines_reply (stats_text told))
stats_reply (Err e) = None

-- a fold is answered as a save is, by the number of folded batches
abbrev pub fold_reply : Result ℕ FoldRefusal → Option (List ℕ)
fold_reply (Ok folded) = Some (saved folded)
fold_reply (Err no_fold.Memory) = None
fold_reply (Err no_fold.LogFailed) = Some (refused 35 0)
fold_reply (Err no_fold.RecordsDiffer) = Some (refused 33 0)

abbrev pub reply_of : Event → Option (List ℕ)
reply_of (put batch answer) = put_reply answer
reply_of (cell r c count) = Some (value count)
reply_of (row r sum) = Some (row_sum sum)
reply_of (status s) = Some (counts s)
reply_of (export answer) = export_reply answer
reply_of (save answer) = save_reply answer
reply_of (stored s) = Some (counts s)
reply_of (stats answer) = stats_reply answer
reply_of (fold answer) = fold_reply answer
