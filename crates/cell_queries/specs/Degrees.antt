-- How many rows have how many entries: 1, 2 to 3, 4 to 7 and so on.
--     rows_between low high ts   how many rows have from `low` to `high` entries
--     degrees_from n low ts      the n ranges from `low` on, each twice as wide as the one before, that have a row
use Rattle.std.specs.Prelude.{ℕ, zero, suc, ◌+◌, ◌*◌, ◌-◌, ◌==◌, ◌&&◌, nat_le, List, [], ◌∷◌, if◌then◌else◌}
use Rattle.std.specs.Prelude.{◌≡◌, ◌<◌, ◌^◌, slice_index}
use Rattle.std.specs.List.{count_by}
use Rattle.cell_queries.specs.declared.tally.RowTally.{RowTally}
use Rattle.cell_queries.specs.declared.degrees.Degree.{Degree}

abbrev pub rows_between : ℕ → ℕ → List RowTally → ℕ
rows_between low high ts = count_by (λ t. nat_le low t.entries && nat_le t.entries high) ts

abbrev pub degree : ℕ → List RowTally → Degree
degree low ts = record { first = low; last = 2 * low - 1; rows = rows_between low (2 * low - 1) ts }

unfoldable pub degrees_from : ℕ → ℕ → List RowTally → List Degree
degrees_from zero low ts = []
degrees_from (suc n) low ts = if rows_between low (2 * low - 1) ts == 0 then degrees_from n (2 * low) ts
    else degree low ts ∷ degrees_from n (2 * low) ts

-- rows have fewer than 2^64 entries
abbrev pub degrees_of : List RowTally → List Degree
degrees_of ts = degrees_from 64 1 ts

-- what is listed of the range from 2^k on
abbrev pub listed_at : ℕ → ℕ → List Degree
listed_at k rows = if rows == 0 then []
    else (record { first = 2 ^ k; last = 2 ^ k + (2 ^ k - 1); rows = rows }) ∷ []

-- the numbers of rows in each range
abbrev pub AreCounts : List RowTally → List ℕ → Type 0
AreCounts ts counts = (k : ℕ) → k < 64 → slice_index counts k ≡ rows_between (2 ^ k) (2 * 2 ^ k - 1) ts
