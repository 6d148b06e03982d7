-- The spellings of a setup and of what was accepted, by the version of the file. Version 4 is written: the head, what
-- is folded and each batch, each with a checksum after it. The head ends by whose the file is. Version 3 doesn't say
-- that. Version 2 has no checksums either, and version 1 nothing that is folded. Numbers are unsigned, the highest byte
-- first.
use Rattle.std.specs.Prelude.{◌≡◌, ℕ, ◌<◌, ◌≤◌, ◌^◌, List, [], ◌∷◌, ◌++◌, length, flat_map, Bool, nat_le}
use Rattle.std.specs.Prelude.{◌&&◌, ◌==◌, if◌then◌else◌}
use Rattle.crc32c.specs.Remainders.{checksum_of}
use Rattle.std.specs.List.{concat, AllByRecursion, list_any}
use Rattle.std.specs.Int.{Width, w8, w32, w64, to_be_bytes}
use Rattle.std.specs.FinMap.{entries, len}
use Rattle.hyper_matrix.specs.Counts.{Place, Counts}
use Rattle.hyper_matrix.specs.Shared.{LiesWithin}
use Rattle.batch_store.specs.Setups.{Setting}
use Rattle.batch_store.specs.Batches.{Submission}
use Rattle.batch_store.specs.Accepted.{Accepted, unfolded, total_in}
use Rattle.batch_store.specs.Books.{AreAccepted}
use Rattle.batch_store.specs.declared.verdict.Entry.{Entry}
use Rattle.snap_file.specs.Origins.{unknown, IsIdentity}
use Rattle.snap_file.specs.declared.origin.Identity.{Identity}
use Rattle.snap_file.specs.declared.origin.Origin.{Origin}
pub use Rattle.byte_io.specs.Buffers.{IsBytes}

-- a field of this width
unfoldable pub number_bytes : Width → ℕ → List ℕ
number_bytes w n = to_be_bytes w n

-- the first eight bytes of each file: HHMSNAP and LF
abbrev pub mark : ℕ
mark = 0x48484d534e41500a

-- the version of files in which nothing is folded, the first with checksums, and the version that is written
abbrev pub old_version : ℕ
old_version = 1

abbrev pub checked_version : ℕ
checked_version = 3

abbrev pub version : ℕ
version = 4

-- the most batches that a setup may allow in an older version, and in a file of this one
abbrev pub old_most_batches : ℕ
old_most_batches = 1000000

abbrev pub most_batches_of : ℕ → ℕ
most_batches_of v = if v == version then 2 ^ 30 else old_most_batches

-- the head of a file of this version, with the number of batches that are not folded and the total of all
abbrev pub head_bytes : ℕ → Setting → ℕ → ℕ → List ℕ
head_bytes v s batches total_all = concat (
    number_bytes w64 mark ∷ number_bytes w32 v
    ∷ number_bytes w64 s.rows ∷ number_bytes w64 s.cols
    ∷ number_bytes w8 (length s.cuts) ∷ flat_map (number_bytes w64) s.cuts
    ∷ number_bytes w8 s.shards ∷ number_bytes w64 s.limit ∷ number_bytes w64 s.max_batches
    ∷ number_bytes w64 batches ∷ number_bytes w64 total_all ∷ [])

-- a book and a window
abbrev pub identity_bytes : Identity → List ℕ
identity_bytes i =
    number_bytes w64 i.book_high ++ (number_bytes w64 i.book_low ++ number_bytes w64 i.window)

-- 1 where a log goes with the file
abbrev pub flag : Bool → ℕ
flag has_log = if has_log then 1 else 0

abbrev pub origin_bytes : Origin → List ℕ
origin_bytes o = identity_bytes o.identity ++ number_bytes w8 (flag o.has_log)

-- what a file of this version has of it, at the end of its head: nothing in an older one
unfoldable pub origin_in : ℕ → Origin → List ℕ
origin_in v o = if v == version then origin_bytes o else []

abbrev pub cell_bytes : Place × ℕ → List ℕ
cell_bytes e = concat (number_bytes w64 e.0.0 ∷ number_bytes w64 e.0.1 ∷ number_bytes w64 e.1 ∷ [])

abbrev pub cells_bytes : List (Place × ℕ) → List ℕ
cells_bytes cells = flat_map cell_bytes cells

-- the cells of a matrix, behind their number
abbrev pub matrix_bytes : Counts → List ℕ
matrix_bytes m = concat (number_bytes w64 (len m) ∷ cells_bytes (entries m) ∷ [])

abbrev pub batch_bytes : Submission → List ℕ
batch_bytes b = number_bytes w64 b.client ++ (number_bytes w64 b.number ++ matrix_bytes b.matrix.counts)

-- the entry of a folded batch
abbrev pub entry_bytes : Entry → List ℕ
entry_bytes e = concat (number_bytes w64 e.client ∷ number_bytes w64 e.number ∷ number_bytes w64 e.cells
    ∷ number_bytes w64 e.total ∷ [])

-- the entries of the folded batches, behind their number, and the matrix that they were folded into
abbrev pub past_bytes : Counts → List Entry → List ℕ
past_bytes base folded = number_bytes w64 (length folded) ++ (flat_map entry_bytes folded ++ matrix_bytes base)

-- what a file of this version has of them: nothing in the first
unfoldable pub past_in : ℕ → Counts → List Entry → List ℕ
past_in v base folded = if v == old_version then [] else past_bytes base folded

-- from version 3 on the checksum of all these bytes, with which the file begins
unfoldable pub check_bytes : ℕ → List ℕ → List ℕ
check_bytes v front = if nat_le checked_version v then number_bytes w32 (checksum_of front) else []

-- a part of the file, and the checksum of all bytes up to its end
abbrev pub checked_bytes : ℕ → List ℕ → List ℕ → List ℕ
checked_bytes v front part = part ++ check_bytes v (front ++ part)

-- batches after a front of the file, each with its checksum
abbrev pub batches_bytes : ℕ → List ℕ → List Submission → List ℕ
batches_bytes v front [] = []
batches_bytes v front (b ∷ list) =
    let part = checked_bytes v front (batch_bytes b) in part ++ batches_bytes v (front ++ part) list

-- the file of this version
abbrev pub file_in : ℕ → Origin → Setting → Accepted → List ℕ
file_in v o s a =
    let x = checked_bytes v [] (head_bytes v s (length a.list) (total_in a) ++ origin_in v o) in
    let y = checked_bytes v x (past_in v a.base a.folded) in
    x ++ (y ++ batches_bytes v (x ++ y) a.list)

-- the file as it is written
abbrev pub file : Origin → Setting → Accepted → List ℕ
file o s a = file_in version o s a

-- whether one of these entries has this client and this number
abbrev pub stands_in : ℕ → ℕ → List Entry → Bool
stands_in client number es = list_any (λ e. (e.client == client) && (e.number == number)) es

-- a batch as it can stand in a file of these dimensions
pub record IsBatch (rows cols : ℕ) (b : Submission) : Type 0 where
  pub client : b.client < 2 ^ 64
  pub number : b.number < 2 ^ 64
  pub rows_are : b.matrix.rows ≡ rows
  pub cols_are : b.matrix.cols ≡ cols
  pub few : len b.matrix.counts < 2 ^ 64
  pub within : AllByRecursion (LiesWithin rows cols) (entries b.matrix.counts)

-- an entry each of whose numbers fits its field
pub record IsEntry (e : Entry) : Type 0 where
  pub client : e.client < 2 ^ 64
  pub number : e.number < 2 ^ 64
  pub cells : e.cells < 2 ^ 64
  pub total : e.total < 2 ^ 64

-- A setup, and what a book of it accepts, that have a file: each number fits its field, and each cell lies within the
-- dimensions.
pub record IsKept (s : Setting) (a : Accepted) : Type 0 where
  pub accepted : AreAccepted s a
  pub each : AllByRecursion (IsBatch s.rows s.cols) a.list
  pub folded : AllByRecursion IsEntry a.folded
  pub few : len a.base < 2 ^ 64
  pub within : AllByRecursion (LiesWithin s.rows s.cols) (entries a.base)

-- The bytes are a file of this origin, of this setup and of what was accepted, in one of the versions. The first has
-- nothing folded, and the last alone says whose it is. Each has a setup of as many batches as it allows.
pub record IsSpelled (bytes : List ℕ) (o : Origin) (s : Setting) (a : Accepted) : Type 0 where
  pub file_version : ℕ
  pub low : old_version ≤ file_version
  pub high : file_version ≤ version
  pub unfolded_is : file_version ≡ old_version → a ≡ unfolded a.list
  pub origin_is : file_version < version → o ≡ unknown
  pub most : s.max_batches ≤ most_batches_of file_version
  pub bytes_are : bytes ≡ file_in file_version o s a

-- The bytes are a snapshot of this origin, of this setup and of what was accepted.
pub record IsSnapshot (max_bytes : ℕ) (bytes : List ℕ) (o : Origin) (s : Setting) (a : Accepted) : Type 0 where
  pub fits : length bytes ≤ max_bytes
  pub named : IsIdentity o.identity
  pub kept : IsKept s a
  pub spelled : IsSpelled bytes o s a
