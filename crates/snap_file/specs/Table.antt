-- The table of fields, read from the front: each field is judged as soon as its bytes are there.
--
-- A `Reading` is what is still to be read, as a function of the bytes that are left. A `Part` is read before what
-- follows it, and hands on a value. So the parts below list the fields of a file in their order, each with its
-- judgements behind it.
use Rattle.std.specs.Prelude.{ℕ, zero, suc, ◌+◌, ◌-◌, ◌^◌, Bool, not, ◌&&◌, ◌||◌, ◌==◌, if◌then◌else◌, nat_lt, nat_le}
use Rattle.std.specs.Prelude.{List, [], ◌∷◌, ◌++◌, length, take, drop, Result, Ok, Err}
use Rattle.std.specs.Int.{Width, w8, w32, w64, byte_len, from_be_bytes}
use Rattle.cells.specs.declared.cell.Cell.{Cell}
use Rattle.hyper_matrix.specs.Matrix.{matrix}
use Rattle.hyper_matrix.specs.Cells.{built_of}
use Rattle.batch_store.specs.Setups.{Setting}
use Rattle.batch_store.specs.Accepted.{Accepted, accepted, unfolded, entries_in, with_batch}
use Rattle.batch_store.specs.Batches.{submission}
use Rattle.batch_store.specs.declared.verdict.Entry.{Entry}
use Rattle.snap_file.specs.Origins.{identity, origin, unknown}
use Rattle.snap_file.specs.Spelling.{mark, old_version, checked_version, version, most_batches_of, stands_in}
use Rattle.snap_file.specs.declared.origin.Origin.{Origin}
use Rattle.snap_file.specs.declared.head.Head.{Head}
use Rattle.snap_file.specs.declared.fault.SnapFault.{SnapFault}
use Rattle.snap_file.specs.declared.fault.SnapFault.TheVariants.{BadMark, BadVersion, BadHead, BadBatch, OutOfOrder}
use Rattle.snap_file.specs.declared.fault.SnapFault.TheVariants.{RepeatedNumber, TotalDiffers, Truncated, ExtraBytes}
use Rattle.snap_file.specs.declared.fault.SnapFault.TheVariants.{BadCheck}
use Rattle.crc32c.specs.Remainders.{checksum_of}

-- the bytes that were read, and those that are left
pub record Input : Type 0 where
  pub before : List ℕ
  pub rest : List ℕ

-- a fault, and the number of bytes that were read when it shows; the end of the bytes counts as one more
pub record Fault : Type 0 where
  pub kind : SnapFault
  pub place : ℕ

pub record Contents : Type 0 where
  pub origin : Origin
  pub setup : Setting
  pub state : Accepted

abbrev pub Reading : Type 0
Reading = Input → Result Contents Fault

abbrev pub Part : Type 0 → Type 0
Part A = (A → Reading) → Reading

infixl 10 ◌>>=◌
abbrev pub ◌>>=◌ : {A B : Type 0} → Part A → (A → Part B) → Part B
(p >>= f) k = p (λ x. f x k)

abbrev pub give : {A : Type 0} → A → Part A
give x k = k x

abbrev pub fault_at : SnapFault → ℕ → Result Contents Fault
fault_at kind place = Err (record { kind = kind; place = place })

-- a field of this width. One of which bytes are missing is Truncated, whatever those that are there
unfoldable pub number : Width → Part ℕ
number w k input =
    if nat_lt (length input.rest) (byte_len w)
    then fault_at Truncated (length input.before + length input.rest + 1)
    else k (from_be_bytes w (take (byte_len w) input.rest))
    (record { before = input.before ++ take (byte_len w) input.rest; rest = drop (byte_len w) input.rest })

-- the judgement of the field that was read last
unfoldable pub refuse_if : Bool → SnapFault → Part (Unit {0})
refuse_if test kind k input = if test then fault_at kind (length input.before) else k tt input

-- a number from low to high
abbrev pub outside : ℕ → ℕ → ℕ → Bool
outside low high n = nat_lt n low || nat_lt high n

-- a field that is to be from low to high
abbrev pub field_in : Width → ℕ → ℕ → SnapFault → Part ℕ
field_in w low high kind = do
  n ← number w
  _ ← refuse_if (outside low high n) kind
  give n

-- the checksum of all bytes before it
unfoldable pub check : Part (Unit {0})
check k input = number w32 (λ n. refuse_if (not (n == checksum_of input.before)) BadCheck k) input

-- a file of version 3 or later has a checksum here
unfoldable pub check_in : ℕ → Part (Unit {0})
check_in v k = if nat_le checked_version v then check k else k tt

-- a part, and from version 3 on the checksum of all bytes up to its end
abbrev pub checked : {A : Type 0} → ℕ → Part A → Part A
checked v p = do
  x ← p
  _ ← check_in v
  give x

-- one place stands before another, by row, then column
abbrev pub is_below : ℕ → ℕ → ℕ → ℕ → Bool
is_below row col least_row least_col = nat_lt row least_row || ((row == least_row) && nat_lt col least_col)

-- n more cuts, behind those that were read; each is at least `least`, one above the one before
unfoldable pub cuts_behind : ℕ → ℕ → List ℕ → Part (List ℕ)
cuts_behind zero least cuts = give cuts
cuts_behind (suc n) least cuts = do
  cut ← field_in w64 least (2 ^ 40) BadHead
  cuts_behind n (cut + 1) (cuts ++ cut ∷ [])

-- the fields of the head that make the setup, which allows so many batches at most
abbrev pub setup_fields : ℕ → Part Setting
setup_fields most = do
  rows ← field_in w64 1 (2 ^ 60) BadHead
  cols ← field_in w64 1 (2 ^ 60) BadHead
  cut_count ← field_in w8 0 7 BadHead
  cuts ← cuts_behind cut_count 1 []
  shards ← field_in w8 1 64 BadHead
  limit ← field_in w64 1 (2 ^ 64 - 1) BadHead
  max_batches ← field_in w64 1 most BadHead
  give (record { rows = rows; cols = cols; cuts = cuts; shards = shards; limit = limit; max_batches = max_batches })

unfoldable pub head : Part Head
head = do
  _ ← field_in w64 mark mark BadMark
  file_version ← field_in w32 old_version version BadVersion
  setup ← setup_fields (most_batches_of file_version)
  batches ← field_in w64 0 setup.max_batches BadHead
  total ← field_in w64 0 setup.limit BadHead
  give (record { setup = setup; version = file_version; batches = batches; total = total })

-- whose the file is: a book, a window, and whether a log goes with it
unfoldable pub named : Part Origin
named = do
  high ← number w64
  low ← number w64
  window ← number w64
  flag ← field_in w8 0 1 BadHead
  give (origin (identity high low window) (flag == 1))

-- the same in any version: an older one doesn't say it
unfoldable pub origin_by : ℕ → Part Origin
origin_by v k = if v == version then named k else k unknown

-- the cells of a matrix that were read, the least place that the next one may have, and the sum of all counts so far
pub record Tally : Type 0 where
  pub cells : List Cell
  pub least_row : ℕ
  pub least_col : ℕ
  pub counted : ℕ

-- n more cells, behind those that were read; all counts together may come to `most`
unfoldable pub cells_behind : Head → ℕ → ℕ → Tally → Part Tally
cells_behind h most zero tally = give tally
cells_behind h most (suc n) tally = do
  row ← number w64
  _ ← refuse_if (nat_le h.setup.rows row) BadBatch
  col ← number w64
  _ ← refuse_if (nat_le h.setup.cols col) BadBatch
  _ ← refuse_if (is_below row col tally.least_row tally.least_col) OutOfOrder
  count ← number w64
  _ ← refuse_if (nat_lt most (tally.counted + count)) TotalDiffers
  cells_behind h most n (record {
    cells = tally.cells ++ (record { row = row; col = col; count = count }) ∷ [];
    least_row = row;
    least_col = col + 1;
    counted = tally.counted + count;
  })

-- what was read behind the head, and the sum of all counts so far; where a batch is folded, its total
pub record Progress : Type 0 where
  pub state : Accepted
  pub counted : ℕ

abbrev pub nothing_yet : Progress
nothing_yet = record { state = unfolded []; counted = 0 }

abbrev pub no_cells : ℕ → Tally
no_cells counted = record { cells = []; least_row = 0; least_col = 0; counted = counted }

-- with the entry of one folded batch more
abbrev pub with_entry : Progress → Entry → Progress
with_entry p e = record {
  state = accepted p.state.base (p.state.folded ++ e ∷ []) p.state.list;
  counted = p.counted + e.total;
}

-- the entry of a folded batch
unfoldable pub entry : Head → Progress → Part Progress
entry h p = do
  client ← number w64
  batch_number ← number w64
  _ ← refuse_if (stands_in client batch_number p.state.folded) RepeatedNumber
  cells ← number w64
  total ← number w64
  _ ← refuse_if (nat_lt h.total (p.counted + total)) TotalDiffers
  give (with_entry p (record { client = client; number = batch_number; cells = cells; total = total }))

unfoldable pub entries_behind : Head → ℕ → Progress → Part Progress
entries_behind h zero p = give p
entries_behind h (suc n) p = do
  next ← entry h p
  entries_behind h n next

-- with this base
abbrev pub with_base : Progress → List Cell → Progress
with_base p cells = record { state = accepted (built_of cells) p.state.folded p.state.list; counted = p.counted }

-- the matrix that the batches were folded into; it has no cell where nothing is folded, and their total
unfoldable pub base : Head → Progress → Part Progress
base h p = do
  entry_count ← number w64
  _ ← refuse_if ((length p.state.folded == 0) && not (entry_count == 0)) BadBatch
  tally ← cells_behind h p.counted entry_count (no_cells 0)
  _ ← refuse_if (not (tally.counted == p.counted)) TotalDiffers
  give (with_base p tally.cells)

-- what is folded: how many batches, their entries, and their sum
unfoldable pub folded_past : Head → Part Progress
folded_past h = do
  folded ← field_in w64 0 (h.setup.max_batches - h.batches) BadHead
  p ← entries_behind h folded nothing_yet
  base h p

-- the same in any version: in the first nothing is folded
unfoldable pub past : Head → Part Progress
past h k = if h.version == old_version then k nothing_yet else folded_past h k

-- with the batch of these cells
abbrev pub with_cells : Head → Progress → ℕ → ℕ → Tally → Progress
with_cells h p client batch_number tally = record {
  state = with_batch p.state
      (submission client batch_number (matrix h.setup.rows h.setup.cols (built_of tally.cells)));
  counted = tally.counted;
}

unfoldable pub batch : Head → Progress → Part Progress
batch h p = do
  client ← number w64
  batch_number ← number w64
  _ ← refuse_if (stands_in client batch_number (entries_in p.state)) RepeatedNumber
  entry_count ← number w64
  tally ← cells_behind h h.total entry_count (no_cells p.counted)
  give (with_cells h p client batch_number tally)

unfoldable pub batches_behind : Head → ℕ → Progress → Part Progress
batches_behind h zero p = give p
batches_behind h (suc n) p = do
  next ← checked h.version (batch h p)
  batches_behind h n next

-- no byte is left
unfoldable pub end : Contents → Reading
end contents input = if length input.rest == 0 then Ok contents else fault_at ExtraBytes (length input.before + 1)

abbrev pub contents : Origin → Setting → Accepted → Contents
contents o s a = record { origin = o; setup = s; state = a }

abbrev pub contents_of : Head → Origin → Progress → Contents
contents_of h o p = contents o h.setup p.state

-- what follows the batches
abbrev pub ending : Head → Origin → Progress → Reading
ending h o p = refuse_if (not (p.counted == h.total)) TotalDiffers (λ _. end (contents_of h o p))

-- the batches that aren't folded, and the end
abbrev pub rest_of : Head → Origin → Progress → Reading
rest_of h o p = batches_behind h h.batches p (ending h o)

-- what follows the head
abbrev pub body : Head → Origin → Reading
body h o = checked h.version (past h) (rest_of h o)

-- the whole file
abbrev pub whole : Reading
whole = head (λ h. origin_by h.version (λ o. check_in h.version (λ _. body h o)))

abbrev pub from_front : List ℕ → Input
from_front bytes = record { before = []; rest = bytes }

-- what the bytes are read as
unfoldable pub reading_of : List ℕ → Result Contents Fault
reading_of bytes = whole (from_front bytes)
