-- Zeros behind a log, call by call.
use Rattle.std.proofs.Common.{◌≡◌, ℕ, ◌<◌, ◌≤◌, ◌+◌, ◌*◌, List, length, get_or, ap, subst, sym, refl, ◌∙◌, arith}
use Rattle.std.proofs.Common.{true≢false, ⊎_elim}
use Rattle.std.proofs.lemmas.Bool.{cases_lt}
use Rattle.std.proofs.Common.{inl, inr}
use Rattle.std.specs.Prelude.{Result, Ok, Err, OnOk, OnErr, false, is_err}
use Rattle.log_blocks.specs.Blocks.{Block}
use Rattle.log_disk.specs.Disk.{Holds, HoldsSome, IsCut, MayBeCut, Elapses, Follows, LeavesOnly}
use Rattle.log_disk.proofs.Steps.{holds_some, cut_may}
use Rattle.log_file.specs.Logs.{Log, IsLog, HoldsLog, file_of}
use Rattle.log_file.specs.Runs.{Stays}
use Rattle.log_file.specs.Writer.{IsBehind, IsLong, IsSettled}
use Rattle.log_file.specs.declared.writer.LogWriter.{LogWriter}
use Rattle.log_file.proofs.LogLemmas.{file_long, zeros_held, cut_held}
use Rattle.log_file.proofs.RunLemmas.{begun, stepped, kept}

-- what a cut leaves, whatever it answers
pub cut_either : {A E : Type 0} (len : ℕ) (x y : List ℕ) (answer : Result A E) → OnOk answer (IsCut len x y)
    → OnErr answer (MayBeCut len x y) → MayBeCut len x y
cut_either len x y (Ok a) cut part = cut_may len x y cut
cut_either len x y (Err e) cut part = part

module _ {D : Type 0} (written : D → List ℕ) (may_leave : D → List ℕ → Type 0) (moment : D → ℕ)
    (left_since : D → ℕ → List ℕ → Type 0) (old : D) (log : Log) where
  -- before the first call
  pub fill_start : (from : ℕ) → IsBehind written may_leave old from log
      → ((left : List ℕ) → left_since old (moment old) left → may_leave old left)
      → Stays written may_leave moment left_since (HoldsLog log) old old
  fill_start from behind only_now = begun written may_leave moment left_since (HoldsLog log) old behind.file
      behind.left only_now

  -- after one call, as far as it came
  pub fill_more : (from at : ℕ) (zeros : List ℕ) (mid new : D) → IsBehind written may_leave old from log → from ≤ at
      → ((j : ℕ) → get_or zeros j 0 ≡ 0) → Stays written may_leave moment left_since (HoldsLog log) old mid
      → HoldsSome at zeros (written mid) (written new) → Follows (HoldsSome at zeros) (may_leave mid) (may_leave new)
      → Elapses (moment mid) (moment new) (left_since mid) (left_since new) (may_leave new)
      → Stays written may_leave moment left_since (HoldsLog log) old new
  fill_more from at zeros mid new behind le are run some follows time =
      let past : length (file_of log) ≤ at = omega (arith, behind.behind) in
      stepped written may_leave moment left_since (HoldsLog log) (HoldsSome at zeros) old mid new run
      (λ x y held step. zeros_held log at zeros x y past are held step)
      (zeros_held log at zeros (written mid) (written new) past are run.file some)
      follows time

  pub fill_all : (from at : ℕ) (zeros : List ℕ) (mid new : D) → IsBehind written may_leave old from log → from ≤ at
      → ((j : ℕ) → get_or zeros j 0 ≡ 0) → Stays written may_leave moment left_since (HoldsLog log) old mid
      → Holds at zeros (written mid) (written new) → Follows (HoldsSome at zeros) (may_leave mid) (may_leave new)
      → Elapses (moment mid) (moment new) (left_since mid) (left_since new) (may_leave new)
      → Stays written may_leave moment left_since (HoldsLog log) old new
  fill_all from at zeros mid new behind le are run holds follows time = fill_more from at zeros mid new behind le are
      run (holds_some at zeros (written mid) (written new) holds) follows time

  pub fill_synced : (mid new : D) → Stays written may_leave moment left_since (HoldsLog log) old mid
      → written new ≡ written mid → ((left : List ℕ) → may_leave new left → may_leave mid left)
      → Elapses (moment mid) (moment new) (left_since mid) (left_since new) (may_leave new)
      → Stays written may_leave moment left_since (HoldsLog log) old new
  fill_synced mid new run same fewer time = kept written may_leave moment left_since (HoldsLog log) old mid new run
      same fewer time

  module _ (writer : LogWriter) (s : IsSettled written may_leave old writer log) where
    -- the room begins behind the log
    pub room_behind : (room : ℕ) → IsBehind written may_leave old (4096 * (writer.page + room)) log
    room_behind room = record {
      file = s.file;
      left = s.durable;
      behind = omega
          (arith, s.page, file_long log s.is_log);
    }

    pub still_settled : (new : D) (after : LogWriter) → after.first ≡ writer.first → after.next ≡ writer.next
        → after.page ≡ writer.page → Stays written may_leave moment left_since (HoldsLog log) old new
        → IsSettled written may_leave new after log
    still_settled new after first next page run =
        record {
          first = first ∙ s.first;
          next = next ∙ s.next;
          page = page
              ∙ s.page;
          is_log = s.is_log;
          file = run.file;
          durable = run.left;
        }

    -- a cut behind the room leaves the log
    module _ (new : D) (only_now : (left : List ℕ) → left_since old (moment old) left → may_leave old left)
        (cut : MayBeCut (4096 * (writer.page + writer.room)) (written old) (written new))
        (follows : Follows (MayBeCut (4096 * (writer.page + writer.room))) (may_leave old) (may_leave new))
        (time : Elapses (moment old) (moment new) (left_since old) (left_since new) (may_leave new)) where
      pub cut_stays : Stays written may_leave moment left_since (HoldsLog log) old new
      cut_stays =
          let at = 4096 * (writer.page + writer.room) in
          let past : length (file_of log) ≤ at = omega (arith, s.page, file_long log s.is_log) in
          let some : 4096 ≤ at = omega (arith, s.page) in
          stepped written may_leave moment left_since (HoldsLog log) (MayBeCut at) old old new
          (begun written may_leave moment left_since (HoldsLog log) old s.file s.durable only_now)
          (λ x y held step. cut_held log at x y past some held step)
          (cut_held log at (written old) (written new) past some s.file cut)
          follows time

      pub cut_settled : IsSettled written may_leave new writer log
      cut_settled = still_settled new writer refl refl refl cut_stays

      pub cut_moments : LeavesOnly moment left_since old new (HoldsLog log)
      cut_moments = let run = cut_stays in run.moments

pub room_is_long : {D : Type 0} (written : D → List ℕ) (may_leave : D → List ℕ → Type 0) (mid new : D) (bytes : ℕ)
    → bytes ≤ length (written mid) → written new ≡ written mid
    → ((left : List ℕ) → may_leave new left → length (written mid) ≤ length left) → IsLong written may_leave new bytes
room_is_long written may_leave mid new bytes long same left = record {
  file = omega (arith, long, ap length same);
  left = λ l now. omega (arith, long, left l now);
}

pub on_ok : {T E : Type 0} (r : Result T E) (P : Type 0) → is_err r ≡ false → OnOk r P → P
on_ok (Ok x) P is p = p
on_ok (Err e) P is p = absurd (true≢false is)

-- ---- how long a file is

module _ {D : Type 0} (written : D → List ℕ) (may_leave : D → List ℕ → Type 0) (old new : D) (n : ℕ)
    (long : IsLong written may_leave old n) where
  -- bytes were written, or some of them
  pub long_written : (at : ℕ) (bytes : List ℕ) → HoldsSome at bytes (written old) (written new)
      → Follows (HoldsSome at bytes) (may_leave old) (may_leave new) → IsLong written may_leave new n
  long_written at bytes some follows = record {
    file = omega (arith, some.longer, long.file);
    left = λ l now. let b = follows l now in omega (arith, b.2.longer, long.left b.0 b.1);
  }

  -- it was synced, or that failed
  pub long_synced : written new ≡ written old → ((left : List ℕ) → may_leave new left → may_leave old left)
      → IsLong written may_leave new n
  long_synced same fewer = record {
    file = omega (arith, ap length same, long.file);
    left = λ l now. long.left l (fewer l now);
  }

  -- it was cut behind the first n bytes, or that failed
  pub long_cut : MayBeCut n (written old) (written new) → Follows (MayBeCut n) (may_leave old) (may_leave new)
      → IsLong written may_leave new n
  long_cut cut follows = record {
    file = enough (written old) (written new) cut long.file;
    left = λ l now. let b = follows l now in enough b.0 l b.2 (long.left b.0 b.1);
  }
    where
      enough : (x y : List ℕ) → MayBeCut n x y → n ≤ length x → n ≤ length y
      enough x y cut le = ⊎_elim (λ (longer : length x ≤ length y). omega (arith, longer, le))
          (λ (is : n ≤ length y). is) cut.longer

-- what room there is behind so many pages more, where those were written, or none were asked for
pub room_more : {D : Type 0} (written : D → List ℕ) (may_leave : D → List ℕ → Type 0) (new : D) (page room pages : ℕ)
    → (0 < pages → IsLong written may_leave new (4096 * (page + (room + pages))))
    → IsLong written may_leave new (4096 * (page + room)) → IsLong written may_leave new (4096 * (page + (room + pages)))
room_more written may_leave new page room pages more still = elim (cases_lt 0 pages) [
  | inl some ↦ more some
  | inr none ↦
      let same : 4096 * (page + room) ≡ 4096 * (page + (room + pages)) = omega arith in
      subst (λ (n : ℕ). IsLong written may_leave new n) same still
]
