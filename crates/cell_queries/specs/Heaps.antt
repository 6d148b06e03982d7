-- The rows that lead so far, in a heap with the last of them on top.
--     ranked by t              a row with the number that it is compared by
--     StandsAhead r s          r has the higher number, or the same and the lower row
--     FallBehind rs            each stands ahead of the next
--     AreLed by most rows l    l has the first `most` of the rows
--     IsOffered most r rs ss   r was given its place among the first `most`, which were rs and are ss
use Rattle.std.specs.Prelude.{ℕ, ◌≡◌, ◌<◌, ◌≤◌, ◌+◌, ◌⊎◌, List, ◌∷◌, ◌++◌, length, map, min, All, slice_index_or}
use Rattle.std.specs.declared.cmp.Ordering.{Ordering}
use Rattle.std.specs.Ordering.{nat_cmp, on, flip_args, then_cmp}
use Rattle.std.specs.List.Sorted.{IsPermutation}
use Rattle.cell_queries.specs.declared.tally.RowTally.{RowTally}
use Rattle.cell_queries.specs.declared.top.TopBy.{TopBy}
use Rattle.cell_queries.specs.declared.top.Ranked.{Ranked}
use Rattle.cell_queries.specs.Tops.{number_of}

abbrev pub ranked : TopBy → RowTally → Ranked
ranked by t = record { number = number_of by t; tally = t }

abbrev pub ranked_cmp : Ranked → Ranked → Ordering
ranked_cmp = then_cmp (flip_args (on (λ r. r.number) nat_cmp)) (on (λ r. r.tally.row) nat_cmp)

abbrev pub StandsAhead : Ranked → Ranked → Type 0
StandsAhead r s = (s.number < r.number) ⊎ ((r.number ≡ s.number) × (r.tally.row ≤ s.tally.row))

abbrev pub FallBehind : List Ranked → Type 0
FallBehind rs = (k : ℕ) (d : Ranked) → k + 1 < length rs →
    StandsAhead (slice_index_or rs k d) (slice_index_or rs (k + 1) d)

-- there was room
pub record Joins (most : ℕ) (r : Ranked) (rs ss : List Ranked) : Type 0 where
  pub room : length rs < most
  pub joined : IsPermutation (r ∷ rs) ss

-- all that led still do
pub record StaysOut (most : ℕ) (r : Ranked) (rs ss : List Ranked) : Type 0 where
  pub full : most ≤ length rs
  pub behind : All (λ s. StandsAhead s r) rs
  pub same : ss ≡ rs

-- the last of those that led made room
pub record Displaces (most : ℕ) (r : Ranked) (rs ss : List Ranked) : Type 0 where
  pub full : most ≤ length rs
  pub last : Ranked
  pub others : List Ranked
  pub parts : IsPermutation rs (last ∷ others)
  pub behind : All (λ s. StandsAhead s last) rs
  pub ahead : StandsAhead r last
  pub joined : IsPermutation (r ∷ others) ss

abbrev pub IsOffered : ℕ → Ranked → List Ranked → List Ranked → Type 0
IsOffered most r rs ss = Joins most r rs ss ⊎ (StaysOut most r rs ss ⊎ Displaces most r rs ss)

-- the rows that lead of those that are done, and those that don't
pub record Leads (by : TopBy) (most : ℕ) (done : List RowTally) (items : List Ranked) : Type 0 where
  pub dropped : List Ranked
  pub all : IsPermutation (map (ranked by) done) (items ++ dropped)
  pub ahead : All (λ r. All (StandsAhead r) dropped) items
  pub long : length items ≡ min most (length done)

-- what leads: by which number, how many at most, and the rows in their heap
pub record Leading : Type 0 where
  pub by : TopBy
  pub most : ℕ
  pub items : List Ranked

pub record AreLed (by : TopBy) (most : ℕ) (rows : List RowTally) (l : Leading) : Type 0 where
  pub by_is : l.by ≡ by
  pub most_is : l.most ≡ most
  pub leads : Leads by most rows l.items
