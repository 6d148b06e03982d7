-- What an answer says of the version that a seat was shown.
--     Answers     the answer to a verdict that isn't a fresh one
--     IsTold      Ok: the batch's entry, of the same client, number, cells and total, stands in the version at the
--                 place that is told, and the totals up to there add up to the one that is told; NumberReused,
--                 OverTotal, BookFull: the verdict on this version. Memory and RecordsDiffer say nothing
--     answer_of   the answer of a put that admits nothing
--     AreShown    each of these seats was shown a beginning of the version
use Rattle.std.specs.Prelude.{◌≡◌, List, [], ◌∷◌, Result, Ok, Err}
use mathlib.Core.List.{IsPrefix}
use Rattle.batch_store.specs.declared.verdict.Entry.{Entry}
use Rattle.batch_store.specs.declared.verdict.Kept.{Kept}
use Rattle.batch_store.specs.declared.verdict.Verdict.{Verdict}
use Rattle.batch_store.specs.declared.verdict.Verdict.TheVariants.{Fresh, Known, NumberReused, OverTotal, BookFull}
use Rattle.batch_store.specs.Setups.{Setting}
use Rattle.batch_store.specs.Verdicts.{IsVerdict}
use Rattle.plain_engine.specs.declared.fault.PutFault.{PutFault}
use Rattle.plain_engine.specs.declared.fault.PutFault.TheVariants as fault
use Rattle.locked_engine.specs.declared.fault.NotAdmitted.{NotAdmitted}
use Rattle.locked_engine.specs.declared.fault.NotAdmitted.TheVariants.{Repeated, Refused}
use Rattle.locked_engine.specs.Versions.{entry_verdict}
use Rattle.locked_engine.specs.Views.{SeatView}

abbrev pub Answers : Verdict → Result Kept PutFault → Type 0
Answers Fresh r = ⊥
Answers (Known k) r = r ≡ Ok k
Answers NumberReused r = r ≡ Err fault.NumberReused
Answers (OverTotal accepted) r = r ≡ Err (fault.OverTotal accepted)
Answers BookFull r = r ≡ Err fault.BookFull

abbrev pub IsTold : Setting → Entry → List Entry → Result Kept PutFault → Type 0
IsTold v e seen (Ok k) = IsVerdict v.limit v.max_batches seen e (Known k)
IsTold v e seen (Err fault.Memory) = Unit {0}
IsTold v e seen (Err fault.RecordsDiffer) = Unit {0}
IsTold v e seen (Err fault.NumberReused) = entry_verdict v seen e ≡ NumberReused
IsTold v e seen (Err (fault.OverTotal accepted)) = entry_verdict v seen e ≡ OverTotal accepted
IsTold v e seen (Err fault.BookFull) = entry_verdict v seen e ≡ BookFull

abbrev pub answer_of : NotAdmitted → Result Kept PutFault
answer_of (Repeated kept) = Ok kept
answer_of (Refused fault) = Err fault

abbrev pub AreShown : List SeatView → List Entry → Type 0
AreShown [] all = Unit {0}
AreShown (s ∷ ss) all = IsPrefix s.seen all × AreShown ss all
