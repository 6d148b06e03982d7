-- What a snapshot and a log have together is a snapshot.
use Rattle.std.proofs.Common.{◌≡◌, ◌≢◌, ℕ, zero, suc, ◌+◌, ◌-◌, ◌<◌, ◌^◌, List, [], ◌∷◌, ◌++◌, length, drop}
use Rattle.std.proofs.Common.{Option, Some, None, true}
use Rattle.std.proofs.Common.{Result, Ok, Err, IfErr, IsErrAnd, refl, sym, subst, arith}
use Rattle.std.specs.FinMap.{entries, len}
use Rattle.std.specs.List.{AllByRecursion}
use Rattle.hyper_matrix.specs.Counts.{Place}
use Rattle.hyper_matrix.specs.Shared.{LiesWithin}
use Rattle.batch_store.specs.Setups.{Setting}
use Rattle.batch_store.specs.Batches.{Submission, values}
use Rattle.batch_store.specs.Accepted.{unfolded}
use Rattle.batch_store.specs.Books.{Listing, listed_in}
use Rattle.batch_store.specs.Growth.{FitsIn, all_widened, widened}
use Rattle.snap_file.specs.Origins.{origin}
use Rattle.snap_file.specs.Snapshots.{IsSaved, Saved, saved}
use Rattle.snap_file.specs.Spelling.{IsBatch, IsEntry}
use Rattle.snap_file.specs.declared.fault.FileFault.{FileFault}
use Rattle.snap_file.specs.declared.fault.FileFault.TheVariants as file
use Rattle.snap_file.specs.declared.fault.SnapFault.TheVariants as snap
use Rattle.log_blocks.specs.Blocks.{Block as Chunks}
use Rattle.log_batches.specs.Held.{IsLogged}
use Rattle.log_read.specs.Logs.{AreBlocks, batches_in}
use Rattle.log_read.specs.declared.file.Block.{Block}
use Rattle.log_read.specs.declared.file.LogFile.{LogFile}
use Rattle.log_join.specs.Joins.{Joins, behind_end, known_entries}
use Rattle.snap_report.specs.Checks.{fault_of_file}
use Rattle.snap_report.specs.Logged.{IsJoinTold, IsRead, IsReadFault, IsUnjoined}
use Rattle.snap_report.specs.declared.fault.CheckFault.{CheckFault}
use Rattle.snap_report.specs.declared.fault.CheckFault.TheVariants as check
use Rattle.snap_report.proofs.LoggedLemmas.{joined_based}

-- ---- the batches of a log

all_and : {A : Type 0} (P : A → Type 0) (xs ys : List A) → AllByRecursion P xs → AllByRecursion P ys →
    AllByRecursion P (xs ++ ys)
all_and P [] ys one more = more
all_and P (x ∷ xs) ys one more = (one.0, all_and P xs ys one.1 more)

all_behind : {A : Type 0} (P : A → Type 0) (n : ℕ) (xs : List A) → AllByRecursion P xs → AllByRecursion P (drop n xs)
all_behind P zero xs all = all
all_behind P (suc n) [] all = tt
all_behind P (suc n) (x ∷ xs) all = all_behind P n xs all.1

logged_batches : (s : Setting) (list : List Submission) → AllByRecursion (IsLogged s) list →
    AllByRecursion (IsBatch s.rows s.cols) list
logged_batches s [] each = tt
logged_batches s (b ∷ list) each = (each.0.batch, logged_batches s list each.1)

blocks_batches : (s : Setting) (page : ℕ) (found : List Chunks) (blocks : List Block) → AreBlocks s page found blocks →
    AllByRecursion (IsBatch s.rows s.cols) (batches_in blocks)
blocks_batches s page [] [] are = tt
blocks_batches s page [] (block ∷ blocks) are = absurd are
blocks_batches s page (chunks ∷ found) [] are = absurd are
blocks_batches s page (chunks ∷ found) (block ∷ blocks) are =
    all_and (IsBatch s.rows s.cols) (values block.batches.items) (batches_in blocks)
    (logged_batches s (values block.batches.items) are.1.each)
    (blocks_batches s (page + length chunks) found blocks are.2)

-- ---- in wider matrices

all_wider : (from s : Setting) → FitsIn from s → (es : List (Place × ℕ)) →
    AllByRecursion (LiesWithin from.rows from.cols) es → AllByRecursion (LiesWithin s.rows s.cols) es
all_wider from s fits [] within = tt
all_wider from s fits (e ∷ es) within = (
  (omega (arith, within.0.0, fits.rows), omega (arith, within.0.1, fits.cols)),
  all_wider from s fits es within.1,
)

wider_batch : (from s : Setting) (b : Submission) → FitsIn from s → IsBatch from.rows from.cols b →
    IsBatch s.rows s.cols (widened s b)
wider_batch from s b fits is = record {
  client = is.client;
  number = is.number;
  rows_are = refl;
  cols_are = refl;
  few = is.few;
  within = all_wider from s fits (entries b.matrix.counts) is.within;
}

wider_batches : (from s : Setting) (list : List Submission) → FitsIn from s →
    AllByRecursion (IsBatch from.rows from.cols) list → AllByRecursion (IsBatch s.rows s.cols) (all_widened s list)
wider_batches from s [] fits each = tt
wider_batches from s (b ∷ list) fits each =
    (wider_batch from s b fits each.0, wider_batches from s list fits each.1)

-- ---- the whole

-- what a snapshot and a log that was read have together
pub joined_saved : (s : Setting) (v : Listing) (most : ℕ) (logged : LogFile) (list : Listing) → IsSaved s v →
    IsRead most logged → Joins s v logged.head (batches_in logged.blocks.items) list → IsSaved s list
joined_saved s v most logged list is read joins =
    let new = behind_end (known_entries v) logged.head (batches_in logged.blocks.items) in
    let each = all_behind (IsBatch logged.head.setup.rows logged.head.setup.cols)
    (length (known_entries v) - logged.head.first) (batches_in logged.blocks.items)
    (blocks_batches logged.head.setup 1 read.holds.found logged.blocks.items read.holds.blocks) in
    let all = all_and (IsBatch s.rows s.cols) v.list (all_widened s new) is.kept.each
    (wider_batches logged.head.setup s new joins.beside.linked.setup each) in
    record {
      kept = record {
        accepted = joins.accepted;
        each = subst (λ (l : Listing). AllByRecursion (IsBatch s.rows s.cols) l.list) (sym joins.list_is) all;
        folded = subst (λ (l : Listing). AllByRecursion IsEntry l.folded) (sym joins.list_is) is.kept.folded;
        few = subst (λ (l : Listing). len l.base.counts < 2 ^ 64) (sym joins.list_is) is.kept.few;
        within = subst (λ (l : Listing). AllByRecursion (LiesWithin s.rows s.cols) (entries l.base.counts))
            (sym joins.list_is) is.kept.within;
      };
      based = joined_based s v logged.head (batches_in logged.blocks.items) list is.based joins;
    }

-- ---- what is told

-- no memory for an empty list
pub unjoined_empty : (found : Option Saved) (logged : LogFile) → IsUnjoined found logged check.Memory
unjoined_empty None logged = record {
  known = saved (origin logged.head.identity true) logged.head.setup (listed_in logged.head.setup (unfolded []));
  known_is = refl;
  told = tt;
}
unjoined_empty (Some x) logged = record { known = x; known_is = refl; told = tt }

-- a refusal is a fault of what was read
join_read : (known : Saved) (logged : LogFile) (fault : CheckFault) → IsJoinTold known logged fault →
    fault ≢ check.Memory → IsReadFault fault
join_read known logged check.LogDiffers told not = tt
join_read known logged (check.Join why) told not = told.0
join_read known logged check.Memory told not = absurd (not refl)
join_read known logged (check.File why) told not = absurd told
join_read known logged (check.Log why) told not = absurd told
join_read known logged (check.Output why) told not = absurd told

pub unjoined_read : (found : Option Saved) (logged : LogFile) (fault : CheckFault) → IsUnjoined found logged fault →
    fault ≢ check.Memory → IsReadFault fault
unjoined_read found logged fault h not = join_read h.known logged fault h.told not

-- a fault of a snapshot's file that was passed on is one of what was read
file_read : (why : FileFault) → why ≢ file.Snap snap.Memory → fault_of_file why ≢ check.Memory →
    IsReadFault (fault_of_file why)
file_read file.Memory sound not = absurd (not refl)
file_read (file.Snap snap.Memory) sound not = absurd (sound refl)
file_read why sound not = tt

pub unread_file : {T : Type 0} (r : Result T CheckFault) (why : FileFault) → IsErrAnd r (λ e. e ≡ fault_of_file why) →
    why ≢ file.Snap snap.Memory → IfErr r (λ e. e ≢ check.Memory → IsReadFault e)
unread_file (Ok x) why is sound = absurd is
unread_file (Err e) why is sound =
    subst (λ (f : CheckFault). f ≢ check.Memory → IsReadFault f) (sym is) (file_read why sound)
