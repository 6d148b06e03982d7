-- Rows that lie in one shard.
--     LieInShard s k ts    the number of each row leaves s when divided by k
--     LieBelow s k ts      the number of each row leaves less than s when divided by k
use Rattle.std.specs.Prelude.{ℕ, ◌≡◌, ◌<◌, ◌%◌, List}
use Rattle.std.specs.List.{AllByRecursion}
use Rattle.cell_queries.specs.declared.tally.RowTally.{RowTally}

abbrev pub LieInShard : ℕ → ℕ → List RowTally → Type 0
LieInShard s k ts = AllByRecursion (λ t. t.row % k ≡ s) ts

abbrev pub LieBelow : ℕ → ℕ → List RowTally → Type 0
LieBelow s k ts = AllByRecursion (λ t. t.row % k < s) ts
