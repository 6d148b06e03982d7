-- A new log, and what is durable of one.
use Rattle.std.proofs.Common.{◌≡◌, ℕ, ◌^◌, ◌<◌, List, length, get_or, sym, ◌∙◌, ap, arith}
use Rattle.std.proofs.lemmas.List.{append-nil}
use Rattle.log_folder.specs.Names.{HasBytes, HasHead, IsDurable}
use Rattle.log_file.specs.Logs.{Log, HoldsLog}
use Rattle.log_file.specs.Writer.{IsSettled}
use Rattle.log_file.specs.declared.writer.LogWriter.{LogWriter}
use Rattle.open_log.specs.Rotations.{begun}

head_holds : (head file : List ℕ) (first : ℕ) → length head ≡ 4096 → HasBytes head file →
    HoldsLog (begun head first) file
head_holds head file first long has = record {
  long = omega (arith, has.long);
  same = λ i. has.same i ∙ ap (λ (l : List ℕ). get_or l i 0) (sym (append-nil head));
}

module _ {D : Type 0} (tells : D → Type 0) (written : D → List ℕ) (may_leave : D → List ℕ → Type 0)
    (disk : D) (writer : LogWriter) where
  pub begun_settled : (head : List ℕ) (first : ℕ) → length head ≡ 4096 → first < 2 ^ 64
      → HasHead tells written may_leave disk head → writer.first ≡ first → writer.next ≡ first → writer.page ≡ 1
      → IsSettled written may_leave disk writer (begun head first)
  begun_settled head first long small has first_is next_is page_is = record {
    first = first_is;
    next = next_is;
    page = page_is;
    is_log = record { head_long = long; each = tt; places = small };
    file = head_holds head (written disk) first long has.file;
    durable = λ left now. head_holds head left first long (has.durable left now);
  }

  pub settled_durable : (log : Log) → IsSettled written may_leave disk writer log → IsDurable written may_leave disk
  settled_durable log settled left now i = (settled.durable left now).same i ∙ sym (settled.file.same i)
