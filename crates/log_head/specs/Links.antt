-- The link of a log to the batches before it: the checksum of their entries.
use Rattle.std.specs.Prelude.{◌≡◌, ℕ, List, flat_map}
use Rattle.crc32c.specs.Remainders.{checksum_of, after_bytes, all_ones}
use Rattle.batch_store.specs.declared.verdict.Entry.{Entry}
use Rattle.snap_file.specs.Spelling.{entry_bytes}

-- 32 bytes of each: client, number, cells and total, as a snapshot has them of a folded batch
abbrev pub entries_bytes : List Entry → List ℕ
entries_bytes es = flat_map entry_bytes es

unfoldable pub link_in : List Entry → ℕ
link_in es = checksum_of (entries_bytes es)

-- the remainder of a checksum to which these entries were added
abbrev pub HasAdded : ℕ → List Entry → Type 0
HasAdded r es = r ≡ after_bytes all_ones (entries_bytes es)
