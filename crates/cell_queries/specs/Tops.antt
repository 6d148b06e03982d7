-- The rows that lead.
--     number_of by t          the number that rows are compared by
--     IsAhead by t u          t has more than u, or as much and the lower row
--     IsTop by most rows top  the first `most` of the rows, or all, in that order
use Rattle.std.specs.Prelude.{ℕ, ◌≡◌, ◌<◌, ◌≤◌, ◌+◌, ◌⊎◌, ◌++◌, List, length, min, All, slice_index_or}
use Rattle.std.specs.List.Sorted.{IsPermutation}
use Rattle.cell_queries.specs.declared.tally.RowTally.{RowTally}
use Rattle.cell_queries.specs.declared.top.TopBy.{TopBy}
use Rattle.cell_queries.specs.declared.top.TopBy.TheVariants.{Total, Entries}

abbrev pub number_of : TopBy → RowTally → ℕ
number_of Total t = t.total
number_of Entries t = t.entries

-- two rows of a list differ
abbrev pub IsAhead : TopBy → RowTally → RowTally → Type 0
IsAhead by t u = (number_of by u < number_of by t) ⊎ ((number_of by t ≡ number_of by u) × (t.row ≤ u.row))

-- each row is ahead of the next
abbrev pub AreRanked : TopBy → List RowTally → Type 0
AreRanked by ts = (k : ℕ) (d : RowTally) → k + 1 < length ts →
    IsAhead by (slice_index_or ts k d) (slice_index_or ts (k + 1) d)

-- the rows of the top and the rest are all rows, and each of the top is ahead of each of the rest
pub record IsTop (by : TopBy) (most : ℕ) (rows top : List RowTally) : Type 0 where
  pub rest : List RowTally
  pub all : IsPermutation rows (top ++ rest)
  pub ranked : AreRanked by top
  pub ahead : All (λ t. All (IsAhead by t) rest) top
  pub long : length top ≡ min most (length rows)
