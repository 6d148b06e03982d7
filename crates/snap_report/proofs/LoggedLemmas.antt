-- What is told of a snapshot and a log.
use Rattle.std.proofs.Common.{◌≡◌, ◌≢◌, ℕ, ◌+◌, ◌<◌, ◌≤◌, ◌^◌, List, [], ◌∷◌, ◌++◌, length, Option, Some, None}
use Rattle.std.proofs.Common.{Result, Ok, Err, IfErr, OnOk, IsErrAnd, inl, inr, refl, sym, ap, subst, ◌∙◌, append_assoc, arith}
use Rattle.std.proofs.Common.{get_or, take, true}
use Rattle.std.proofs.lemmas.List.{length-map, take_more}
use Rattle.std.specs.Arc.{arc_value}
use Rattle.std.specs.declared.sync.Arc.{Arc}
use Rattle.std.specs.FinMap.{empty, entries, len-entries, len-empty}
use Rattle.std.specs.List.{AllByRecursion}
use Rattle.hyper_matrix.specs.Counts.{Place, place_cmp, total}
use Rattle.hyper_matrix.specs.Matrix.{Matrix, matrix}
use Rattle.hyper_matrix.proofs.CountLaws.{total-empty}
use Rattle.batch_store.specs.declared.verdict.Entry.{Entry}
use Rattle.batch_store.specs.Verdicts.{total_of_entries}
use Rattle.log_batches.specs.Payloads.{block_of}
use Rattle.log_read.specs.declared.file.Block.{Block}
use Rattle.std.proofs.lemmas.List.Sums.{sum_by_push, sum_by-take-le}
use Rattle.batch_store.specs.Setups.{Setting, IsSetting}
use Rattle.batch_store.proofs.BookLaws.{accepted_none}
use Rattle.batch_store.specs.Batches.{Submission, values}
use Rattle.batch_store.specs.Accepted.{IsBase, unfolded}
use Rattle.batch_store.specs.Books.{Listing, HaveDims, listed_in}
use Rattle.snap_file.specs.Origins.{IsOtherBook, origin}
use Rattle.snap_file.specs.Snapshots.{HasBase, IsSaved, Saved, saved}
use Rattle.snap_file.specs.declared.origin.Origin.{Origin}
use Rattle.hyper_matrix.specs.Shared.{LiesWithin}
use Rattle.snap_file.specs.declared.fault.SnapFault.TheVariants as snap
use Rattle.snap_file.specs.declared.fault.FileFault.{FileFault}
use Rattle.snap_file.specs.declared.fault.FileFault.TheVariants as file
use Rattle.log_blocks.specs.declared.fault.LogFault.{LogFault}
use Rattle.byte_io.specs.declared.fault.WriteFault.{WriteFault}
use Rattle.log_blocks.specs.declared.fault.LogKind.{LogKind}
use Rattle.log_blocks.specs.declared.fault.LogKind.TheVariants as kind
use Rattle.log_read.specs.Logs.{batches_in, pages_in}
use Rattle.log_read.specs.declared.file.LogFile.{LogFile}
use Rattle.log_read.proofs.LogFacts.{log_dims, few_pages}
use Rattle.log_head.specs.declared.head.LogHead.{LogHead}
use Rattle.log_join.specs.Joins.{Joins, RefusesJoin}
use Rattle.log_join.specs.declared.fault.JoinFault.{JoinFault}
use Rattle.log_join.specs.declared.fault.JoinFault.TheVariants as join
use Rattle.snap_report.specs.Checks.{fault_of_file, fault_of_kind, fault_of_log, fault_of_join, LeavesOutput}
use Rattle.snap_report.specs.Kept.{most_bytes}
use Rattle.snap_report.specs.Logged.{AreJoined, AreRefused, IsJoinTold, IsLogKind, IsLogUnread, IsRead, IsUnread, both_lines}
use Rattle.snap_report.specs.Logged.{HasFound, HasRead, IsLogTold}
use Rattle.snap_report.specs.declared.kept_log.LogFileFault.{LogFileFault}
use Rattle.snap_report.specs.declared.kept_log.LogFileFault.TheVariants as log
use Rattle.snap_report.specs.declared.fault.CheckFault.{CheckFault}
use Rattle.snap_report.specs.declared.fault.CheckFault.TheVariants as check

pub unread_of : {F : Type 0} (loads : F → ℕ → Result Saved FileFault → F → Type 0) (s t : F) (fault : FileFault) →
    fault ≢ file.Snap snap.Memory → fault ≢ file.NotFound → loads s most_bytes (Err fault) t →
    IsUnread loads s t (fault_of_file fault)
unread_of loads s t file.Memory not there h = h
unread_of loads s t (file.Snap snap.Memory) not there h = absurd (not refl)
unread_of loads s t fault not there h = (tt, there, h)

module _ {L : Type 0} (reads : L → ℕ → Result LogFile LogFileFault → L → Type 0) (u v : L) where
  of_kind : (fault : LogFault) (k : LogKind) → fault.kind ≡ k → reads u most_bytes (Err (log.Log fault)) v →
      IsLogUnread reads u v (fault_of_kind k fault)
  of_kind fault kind.Memory is h = (fault, is, h)
  of_kind fault k is h = (subst IsLogKind (sym is) tt, h)

  pub log_unread_of : (fault : LogFileFault) → reads u most_bytes (Err fault) v →
      IsLogUnread reads u v (fault_of_log fault)
  log_unread_of (log.Log fault) h = of_kind fault fault.kind refl h
  log_unread_of fault h = (tt, h)

kind_no_output : (k : LogKind) (fault : LogFault) (w : WriteFault) → fault_of_kind k fault ≡ check.Output w → ⊥
kind_no_output kind.Memory fault w is = cc is
kind_no_output k fault w is = cc is

-- a fault of the log's file is none of the output
log_no_output : (fault : LogFileFault) (w : WriteFault) → fault_of_log fault ≡ check.Output w → ⊥
log_no_output (log.Log fault) w is = kind_no_output fault.kind fault w is
log_no_output fault w is = cc is

pub no_output : {T : Type 0} (X : Type 0) (r : Result T CheckFault) (fault : LogFileFault) (w : WriteFault) →
    IsErrAnd r (λ e. e ≡ fault_of_log fault) → r ≡ Err (check.Output w) → X
no_output X (Ok x) fault w told is = absurd told
no_output X (Err e) fault w told is = absurd (log_no_output fault w (let same : e ≡ check.Output w = cc is in sym told ∙ same))

pub refused_of : (known : Saved) (logged : LogFile) (fault : JoinFault) → AreRefused known logged fault →
    IsJoinTold known logged (fault_of_join fault)
refused_of known logged join.Memory h = tt
refused_of known logged join.SetupDiffers h = h
refused_of known logged fault h = (tt, h)

pub on_ok_both : {T E : Type 0} {P Q R : Type 0} (r : Result T E) → (P → Q → R) → OnOk r P → OnOk r Q → OnOk r R
on_ok_both (Ok x) f p q = f p q
on_ok_both (Err e) f p q = tt

-- what is so of a fault that was passed on
pub passed_on : {T E : Type 0} (r : Result T E) (P : E → Type 0) (fault : E) → IsErrAnd r (λ e. e ≡ fault) →
    P fault → IfErr r P
passed_on (Ok x) P fault is h = absurd is
passed_on (Err e) P fault is h = subst P (sym is) h

-- ---- a log that was read

pub read_dims : (most : ℕ) (logged : LogFile) (list : List Submission) → IsRead most logged →
    list ≡ batches_in logged.blocks.items → HaveDims logged.head.setup.rows logged.head.setup.cols list
read_dims most logged list h is =
    subst (λ (l : List Submission). HaveDims logged.head.setup.rows logged.head.setup.cols l) (sym is)
    (log_dims h.bytes logged h.holds)

pub read_pages : (logged : LogFile) → IsRead most_bytes logged → pages_in logged.blocks.items < 2 ^ 50
read_pages logged h = omega (arith, few_pages h.bytes logged h.are_bytes h.holds, h.within)

pub read_count : {Z : Type 0} (logged : LogFile) (list : List (Arc Submission Z)) (n : ℕ) → n ≡ length list →
    values list ≡ batches_in logged.blocks.items → n ≡ length (batches_in logged.blocks.items)
read_count logged list n count is =
    count ∙ sym (length-map list arc_value) ∙ ap (λ (l : List Submission). length l) is

-- ---- its pages

pub pages_more : (blocks : List Block) (i : ℕ) (d : Block) → i < length blocks → d ≡ get_or blocks i d →
    pages_in (take (i + 1) blocks) ≡ pages_in (take i blocks) + length (block_of (values d.batches.items))
pages_more blocks i d lt is =
    ap pages_in (take_more blocks i d lt)
    ∙ sum_by_push (λ (b : Block). length (block_of (values b.batches.items))) (take i blocks) (get_or blocks i d)
    ∙ ap (λ (b : Block). pages_in (take i blocks) + length (block_of (values b.batches.items))) (sym is)

pub pages_part : (blocks : List Block) (i : ℕ) → pages_in (take i blocks) ≤ pages_in blocks
pages_part blocks i = sum_by-take-le (λ (b : Block). length (block_of (values b.batches.items))) blocks i

-- ---- nothing accepted

pub empty_based : (m n : Matrix) (r k : ℕ) (folded : List Entry) → m ≡ n → n ≡ matrix r k empty → folded ≡ [] →
    IsBase m.counts folded
empty_based m n r k folded is made none =
    let counts : m.counts ≡ empty = ap (λ (x : Matrix). x.counts) (is ∙ made) in
    record { adds_up = ap total counts ∙ total-empty ∙ sym (ap total_of_entries none); none = λ h. counts }

none : (es : List (Place × ℕ)) → length es ≡ 0 → es ≡ []
none [] h = refl
none (x ∷ xs) h = absurd (omega arith)

no_entries : ◌≡◌ {A = List (Place × ℕ)} (entries (empty {R = place_cmp})) []
no_entries = none (entries (empty {R = place_cmp})) (sym (len-entries (empty {R = place_cmp}))
    ∙ len-empty place_cmp ℕ)

pub none_saved : (s : Setting) (list : Listing) → IsSetting s → list ≡ listed_in s (unfolded []) → IsSaved s list
none_saved s list sound is =
    subst (λ (l : Listing). IsSaved s l) (sym is) (record {
      kept = record {
        accepted = accepted_none s sound;
        each = tt;
        folded = tt;
        few = omega (arith, len-empty place_cmp ℕ);
        within = subst (AllByRecursion (LiesWithin s.rows s.cols)) (sym no_entries) tt;
      };
      based = record { rows = refl; cols = refl };
    })

-- ---- a list of both

pub joined_based : (s : Setting) (v : Listing) (h : LogHead) (bs : List Submission) (list : Listing) → HasBase s v →
    Joins s v h bs list → HasBase s list
joined_based s v h bs list based joins = record {
  rows = ap (λ (l : Listing). l.base.rows) joins.list_is ∙ based.rows;
  cols = ap (λ (l : Listing). l.base.cols) joins.list_is ∙ based.cols;
}

module _ (o : Origin) (s : Setting) (v : Listing) (x : Saved) (is : saved o s v ≡ x) (logged : LogFile) (bs : List Submission)
    (all : bs ≡ batches_in logged.blocks.items) where
  pub joined_lines : (list : Listing) (line : List ℕ) → (IsOtherBook o.identity logged.head.identity → ⊥) →
      Joins s v logged.head bs list → line ≡ both_lines s list logged → (l : Listing) × AreJoined x logged l × (line ≡ both_lines x.setup l logged)
  joined_lines list line book joins lines =
      subst (λ (y : Saved). (l : Listing) × AreJoined y logged l × (line ≡ both_lines y.setup l logged)) is
      (list, (book, subst (λ (l : List Submission). Joins s v logged.head l list) all joins), lines)

  pub joined_refused : (fault : JoinFault) → RefusesJoin s o.identity v logged.head bs fault →
      IsJoinTold x logged (fault_of_join fault)
  joined_refused fault h =
      subst (λ (y : Saved). IsJoinTold y logged (fault_of_join fault)) is
      (refused_of (saved o s v) logged fault (subst (λ (l : List Submission). RefusesJoin s o.identity v logged.head l fault) all h))

-- five parts behind a text
pub parts_behind : (text a b c d e : List ℕ) →
    ((((text ++ a) ++ b) ++ c) ++ d) ++ e ≡ text ++ (((((a ++ b) ++ c) ++ d)) ++ e)
parts_behind text a b c d e =
    ap (λ (l : List ℕ). (((l ++ c) ++ d) ++ e)) (append_assoc text a b)
    ∙ ap (λ (l : List ℕ). (l ++ d) ++ e) (append_assoc text (a ++ b) c)
    ∙ ap (λ (l : List ℕ). l ++ e) (append_assoc text ((a ++ b) ++ c) d)
    ∙ append_assoc text (((a ++ b) ++ c) ++ d) e

-- ---- what is told of all

module _ {F L : Type 0} (loads : F → ℕ → Result Saved FileFault → F → Type 0)
    (reads : L → ℕ → Result LogFile LogFileFault → L → Type 0) (s t : F) (u v : L) where
  pub file_told : (fault : CheckFault) → v ≡ u → IsUnread loads s t fault → IsLogTold loads reads s t u v fault
  file_told fault same h = inl (h, same)

  pub log_told : (found : Option Saved) (fault : LogFileFault) → HasFound loads s t found →
      reads u most_bytes (Err fault) v → IsLogTold loads reads s t u v (fault_of_log fault)
  log_told found fault loaded h =
      inr (inl (record { found = found; loaded = loaded; told = log_unread_of reads u v fault h }))

  pub refusal_told : (known : Saved) (logged : LogFile) (fault : CheckFault) →
      HasRead loads reads s t u v known logged → IsJoinTold known logged fault → IsLogTold loads reads s t u v fault
  refusal_told known logged fault read h =
      inr (inr (inl (record { known = known; log = logged; read = read; told = h })))

  -- no memory for an empty list
  pub empty_refused : (found : Option Saved) (logged : LogFile) → HasFound loads s t found →
      reads u most_bytes (Ok logged) v → IsLogTold loads reads s t u v check.Memory
  empty_refused None logged loaded read =
      refusal_told (saved (origin logged.head.identity true) logged.head.setup
      (listed_in logged.head.setup (unfolded []))) logged check.Memory
      (record { found = None; loaded = loaded; read = read; known_is = refl }) tt
  empty_refused (Some x) logged loaded read =
      refusal_told x logged check.Memory
      (record { found = Some x; loaded = loaded; read = read; known_is = refl }) tt

  pub output_told : {T : Type 0} (r : Result T CheckFault) → IfErr r LeavesOutput →
      IfErr r (λ fault. IsLogTold loads reads s t u v fault)
  output_told (Ok x) h = tt
  output_told (Err fault) h = inr (inr (inr h))
