-- The batches of a block as bytes, and those as the chunks of the block's pages.
use Rattle.std.specs.Prelude.{ℕ, zero, suc, ◌+◌, ◌*◌, ◌/◌, List, [], ◌∷◌, ◌++◌, length, flat_map, sum_by}
use Rattle.std.specs.Int.{w64}
use Rattle.batch_store.specs.Batches.{Submission}
use Rattle.snap_file.specs.Spelling.{number_bytes, batch_bytes}
use Rattle.log_blocks.specs.Blocks.{Block}
use Rattle.log_blocks.specs.Files.{bytes_from}

-- the number of the batches, then each as a snapshot has it
abbrev pub payload_bytes : List Submission → List ℕ
payload_bytes list = number_bytes w64 (length list) ++ flat_map batch_bytes list

-- n chunks of 4,072 bytes, from chunk i on; behind the end of the bytes stands 00
unfoldable pub chunks_from : ℕ → ℕ → List ℕ → Block
chunks_from i zero bytes = []
chunks_from i (suc n) bytes = bytes_from (4072 * i) 4072 bytes ∷ chunks_from (i + 1) n bytes

-- how many chunks these batches take
abbrev pub chunk_count : List Submission → ℕ
chunk_count list = (length (payload_bytes list) + 4071) / 4072

-- the block of these batches, no page longer than needed
unfoldable pub block_of : List Submission → Block
block_of list = chunks_from 0 (chunk_count list) (payload_bytes list)

-- how many pages batches take of which each is a block of its own
abbrev pub pages_alone : List Submission → ℕ
pages_alone list = sum_by (λ b. length (block_of (b ∷ []))) list
