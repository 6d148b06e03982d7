-- The parts of shards in a matrix, and in a list of batches. The shard of a cell is its row's remainder by the number
-- of shards, with rows counted from 0.
--     part m s k            the rows of shard s of k (of Rattle.hyper_matrix.specs.Counts)
--     part_of s k m         the total of that part
--     below s k m           the total of the parts of all shards below s
--     concerns s k m        whether some cell lies in shard s of k, a stored zero too
--     list_below s k list   `below` of all batches of a list together
--     below_in s k a        `below` of all that was accepted, the base included
--     concerned s k list    the batches of a list that have a cell in shard s of k
--     record_content s k base list
--                           what a record holds: its base, and the parts of its batches
use Rattle.std.specs.Prelude.{ℕ, ◌+◌, Bool, List, [], ◌∷◌, map, filter}
use Rattle.std.specs.List.{list_any}
use Rattle.std.specs.FinMap.{entries}
use Rattle.hyper_matrix.specs.Counts.{Place, Counts, ewise_add, total, part, parts, in_part}
use Rattle.layer_compaction.specs.Shared.{content}
use Rattle.batch_store.specs.Batches.{Submission}
use Rattle.batch_store.specs.Accepted.{Accepted}

abbrev pub part_of : ℕ → ℕ → Counts → ℕ
part_of s k m = total (part m s k)

abbrev pub below : ℕ → ℕ → Counts → ℕ
below s k m = total (parts m s k)

abbrev pub concerns : ℕ → ℕ → Counts → Bool
concerns s k m = list_any (λ (e : Place × ℕ). in_part s k e.0) (entries m)

abbrev pub list_below : ℕ → ℕ → List Submission → ℕ
list_below s k [] = 0
list_below s k (b ∷ bs) = below s k b.matrix.counts + list_below s k bs

abbrev pub below_in : ℕ → ℕ → Accepted → ℕ
below_in s k a = below s k a.base + list_below s k a.list

abbrev pub concerned : ℕ → ℕ → List Submission → List Submission
concerned s k list = filter (λ (b : Submission). concerns s k b.matrix.counts) list

-- the parts of a list of batches in shard s of k
abbrev pub parts_of : ℕ → ℕ → List Submission → List Counts
parts_of s k list = map (λ (b : Submission). part b.matrix.counts s k) list

abbrev pub record_content : ℕ → ℕ → Counts → List Submission → Counts
record_content s k base list = ewise_add base (content (parts_of s k list))
