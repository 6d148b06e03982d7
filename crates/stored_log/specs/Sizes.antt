-- How many pages blocks take.
--     buffer_pages     how many pages the largest block of a group takes: 8 bytes for the number of its batches, 24 for
--                      each of 1,024 batches and 24 for each of 1,048,576 cells, 4,072 to a page
--     most_pages       how many pages a log's file has at most: 2^40 bytes
--     pages_in list    how many pages the block of these batches takes
--     pages_taken list the same, and for more than the buffer holds a number that no room holds
--     pages_alone list how many pages these batches are promised, each for a block of its own
--     cells_in list    how many cells these batches have
use Rattle.std.specs.Prelude.{ℕ, ◌+◌, ◌-◌, ◌*◌, ◌/◌, ◌^◌, nat_le, List, [], ◌∷◌, length, min, sum_by, if◌then◌else◌}
use Rattle.std.specs.FinMap.{len}
use Rattle.batch_store.specs.Batches.{Submission}
use Rattle.log_batches.specs.Payloads.{payload_bytes}

abbrev pub buffer_pages : ℕ
buffer_pages = 6187

abbrev pub most_pages : ℕ
most_pages = 268435456

abbrev pub pages_in : List Submission → ℕ
pages_in list = (min (length (payload_bytes list)) (2 ^ 64 - 1) - 1) / 4072 + 1

abbrev pub pages_taken : List Submission → ℕ
pages_taken list = if nat_le (pages_in list) buffer_pages then pages_in list else 2 ^ 64 - 1

abbrev pub pages_alone : List Submission → ℕ
pages_alone list = sum_by (λ b. pages_taken (b ∷ [])) list

abbrev pub cells_in : List Submission → ℕ
cells_in list = sum_by (λ b. len b.matrix.counts) list
