-- A call of a keeper and the reply that it leads to.
use Rattle.std.proofs.Common.{◌≡◌, ℕ, ◌<◌, ◌≤◌, List, length, refl, sym, ap, Option, Some, Result, Ok, inl, inr, lit≤, arith}
use Rattle.std.proofs.lemmas.Bool.{lt-ltb, le-ltb, cases_lt}
use Rattle.hyper_matrix.specs.declared.row_sum.RowSum.{RowSum}
use Rattle.wire_frames.specs.Frames.{frame, head_bytes, number}
use Rattle.wire_proto.specs.Keeping.{Event, cell, row, status, export, save, stored, stats, fold}
use Rattle.wire_proto.specs.Telling.{Telling, stats_text}
use Rattle.wire_proto.specs.Replies.{value, row_sum, counts, save_reply, fold_reply, text, text_reply, refused}
use Rattle.wire_proto.specs.Replies.{lines_reply}
use Rattle.mm_laws.specs.MatrixText.{matrix_text}
use Rattle.std.proofs.Common.{OnErr, IfOk, Err, subst}
use Rattle.std.specs.declared.alloc.AllocError.{AllocError}
use Rattle.wire_frames.specs.declared.request.Request.TheVariants.{Range, Top, Stats, Fold, Groups}
use Rattle.wire_proto.specs.Questions.{AreBounds, IsCount, AreRows, AreGroups}
use Rattle.wire_proto.specs.Answering.{Answers, asked, RunsOut, in_call}
use Rattle.hyper_matrix.specs.Matrix.{Matrix}
use Rattle.wire_frames.specs.declared.request.Request.TheVariants.{Cell as CellAt, Row, Status, Export, Save, Stored}
use Rattle.batch_store.specs.Setups.{Setting}
use Rattle.wire_proto.proofs.SendLemmas.{length_text}
use Rattle.plain_engine.specs.declared.status.Status.{Status as Counted}
use Rattle.wire_proto.specs.declared.keeper.SaveRefusal.{SaveRefusal}
use Rattle.wire_proto.specs.declared.keeper.FoldRefusal.{FoldRefusal}

pub cell_answered : {S : Type 0} (gives : S → Event → S → Type 0) (setup : Setting) (s t : S) (r c : ℕ)
    (count : Option ℕ) (reply : List ℕ) →
    r < setup.rows → c < setup.cols → gives s (cell r c count) t → reply ≡ value count →
    Answers gives setup (CellAt r c) reply s t
cell_answered gives setup s t r c count reply a b h e = asked (cell r c count) (count, a, b, refl) h
    (ap (λ x. Some x) (sym e))

pub row_answered : {S : Type 0} (gives : S → Event → S → Type 0) (setup : Setting) (s t : S) (r : ℕ) (sum : RowSum)
    (reply : List ℕ) →
    r < setup.rows → gives s (row r sum) t → reply ≡ row_sum sum → Answers gives setup (Row r) reply s t
row_answered gives setup s t r sum reply a h e = asked (row r sum) (sum, a, refl) h (ap (λ x. Some x) (sym e))

pub status_answered : {S : Type 0} (gives : S → Event → S → Type 0) (setup : Setting) (s t : S) (n : Counted)
    (reply : List ℕ) →
    gives s (status n) t → reply ≡ counts n → Answers gives setup Status reply s t
status_answered gives setup s t n reply h e = asked (status n) (n, refl) h (ap (λ x. Some x) (sym e))

pub stored_answered : {S : Type 0} (gives : S → Event → S → Type 0) (setup : Setting) (s t : S) (n : Counted)
    (reply : List ℕ) →
    gives s (stored n) t → reply ≡ counts n → Answers gives setup Stored reply s t
stored_answered gives setup s t n reply h e = asked (stored n) (n, refl) h (ap (λ x. Some x) (sym e))

pub save_answered : {S : Type 0} (gives : S → Event → S → Type 0) (setup : Setting) (s t : S)
    (answer : Result ℕ SaveRefusal) (reply : List ℕ) →
    gives s (save answer) t → save_reply answer ≡ Some reply → Answers gives setup Save reply s t
save_answered gives setup s t answer reply h e = asked (save answer) (answer, refl) h e

pub fold_answered : {S : Type 0} (gives : S → Event → S → Type 0) (setup : Setting) (s t : S)
    (answer : Result ℕ FoldRefusal) (reply : List ℕ) →
    gives s (fold answer) t → fold_reply answer ≡ Some reply → Answers gives setup Fold reply s t
fold_answered gives setup s t answer reply h e = asked (fold answer) (answer, refl) h e

pub export_answered : {S : Type 0} (gives : S → Event → S → Type 0) (setup : Setting) (s t : S) (m : Matrix)
    (reply : List ℕ) →
    gives s (export (Ok m)) t → reply ≡ text_reply (matrix_text m) → Answers gives setup Export reply s t
export_answered gives setup s t m reply h e = asked (export (Ok m)) (Ok m, refl) h (ap (λ x. Some x) (sym e))

pub text_carried : (bytes : List ℕ) → length bytes ≤ 67108864 → text bytes ≡ text_reply bytes
unfolding text_reply
text_carried bytes short = rw (le-ltb 67108864 (length bytes) short) refl

pub text_refused : (bytes reply : List ℕ) → 67108864 < length bytes → reply ≡ refused 40 0 → reply ≡ text_reply bytes
unfolding text_reply
text_refused bytes reply long e = rw (lt-ltb 67108864 (length bytes) long) e

pub text_reply_short : (bytes : List ℕ) → length (text_reply bytes) ≤ 134217728
unfolding text_reply frame head_bytes number
text_reply_short bytes = elim (cases_lt 67108864 (length bytes)) [
  | inl long ↦ rw (lt-ltb 67108864 (length bytes) long) (lit≤ tt)
  | inr short ↦ rw (le-ltb 67108864 (length bytes) short) (omega (arith, length_text bytes))
]

-- ---- questions about the cells of the sum
pub on_err : {A E : Type 0} (r : Result A E) (P : Type 0) → P → OnErr r P
on_err (Ok a) P h = tt
on_err (Err e) P h = h

pub bounds_from : (judged setup : Setting) (rows cols : ℕ × ℕ) → AreBounds judged rows cols → judged ≡ setup →
    AreBounds setup rows cols
bounds_from judged setup rows cols h e = subst (λ v. AreBounds v rows cols) e h

pub range_lacks : {S : Type 0} (gives : S → Event → S → Type 0) (setup : Setting) (s t : S) (rows cols start : ℕ × ℕ)
    (most : ℕ) (lack : AllocError) → AreBounds setup rows cols → IsCount most → gives s (export (Err lack)) t →
    RunsOut gives setup (Range rows cols start most) s t
range_lacks gives setup s t rows cols start most lack b n h = in_call (export (Err lack)) (b, n, lack, refl) h refl

pub top_lacks : {S : Type 0} (gives : S → Event → S → Type 0) (setup : Setting) (s t : S) (by most : ℕ)
    (lack : AllocError) → by ≤ 1 → IsCount most → gives s (export (Err lack)) t →
    RunsOut gives setup (Top by most) s t
top_lacks gives setup s t by most lack b n h = in_call (export (Err lack)) (b, n, lack, refl) h refl

pub groups_lack : {S : Type 0} (gives : S → Event → S → Type 0) (setup : Setting) (s t : S) (by shift most : ℕ)
    (rows : ℕ × ℕ) (lack : AllocError) → AreRows setup rows → AreGroups by shift most → gives s (export (Err lack)) t →
    RunsOut gives setup (Groups by shift most rows) s t
groups_lack gives setup s t by shift most rows lack b n h = in_call (export (Err lack)) (b, n, lack, refl) h refl

pub rows_from : (judged setup : Setting) (rows : ℕ × ℕ) → AreRows judged rows → judged ≡ setup → AreRows setup rows
rows_from judged setup rows h e = subst (λ v. AreRows v rows) e h

-- ---- what a store tells of itself
pub stats_answered : {S : Type 0} (gives : S → Event → S → Type 0) (setup : Setting) (s t : S) (told : Telling)
    (reply : List ℕ) → gives s (stats (Ok told)) t → reply ≡ lines_reply (stats_text told) →
    Answers gives setup Stats reply s t
stats_answered gives setup s t told reply h e = asked (stats (Ok told)) (Ok told, refl) h (ap (λ x. Some x) (sym e))

pub stats_lacks : {S : Type 0} (gives : S → Event → S → Type 0) (setup : Setting) (s t : S) (lack : AllocError) →
    gives s (stats (Err lack)) t → RunsOut gives setup Stats s t
stats_lacks gives setup s t lack h = in_call (stats (Err lack)) (Err lack, refl) h refl

pub stats_replied : {S X E : Type 0} (bytes : X → List ℕ) (gives : S → Event → S → Type 0) (setup : Setting) (s t : S)
    (told : Telling) (r : Result X E) → gives s (stats (Ok told)) t →
    IfOk r (λ (x : X). bytes x ≡ lines_reply (stats_text told)) → IfOk r (λ (x : X). Answers gives setup Stats (bytes x) s t)
stats_replied bytes gives setup s t told (Ok x) h e = stats_answered gives setup s t told (bytes x) h e
stats_replied bytes gives setup s t told (Err lack) h e = tt

pub on_err_of : {A E : Type 0} (r : Result A E) (P : Type 0) → ((e : E) → P) → OnErr r P
on_err_of (Ok a) P f = tt
on_err_of (Err e) P f = f e

pub lines_carried : (bytes : List ℕ) → length bytes ≤ 67108864 → frame 138 bytes ≡ lines_reply bytes
unfolding lines_reply
lines_carried bytes short = rw (le-ltb 67108864 (length bytes) short) refl

pub lines_refused : (bytes reply : List ℕ) → 67108864 < length bytes → reply ≡ refused 40 0 → reply ≡ lines_reply bytes
unfolding lines_reply
lines_refused bytes reply long e = rw (lt-ltb 67108864 (length bytes) long) e
