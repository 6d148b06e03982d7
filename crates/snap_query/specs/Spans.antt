-- What is asked of several snapshots together, and the answers: of the sum of what each of them adds up to.
--     rows_across side xs    the rows or columns of that sum
--     span_text rows cols r xs
--                            the text of its cells in a range, in these dimensions
--     batches_in xs          how many batches they have, folded or not, and 2^64 - 1 where they are more
--     shards_in xs           how many shards the first has
--     span_line rows cols xs the line of all
--     IsCounted n k answer m l
--                            a load that has answered so makes m batches of n, and l of k, the shards of the first
use Rattle.std.specs.Prelude.{◌≡◌, ℕ, ◌+◌, ◌-◌, ◌^◌, List, [], ◌∷◌, map, min, Option, Some, None, Result, Ok, Err}
use Rattle.std.specs.FinMap.{entries, len}
use Rattle.hyper_matrix.specs.Counts.{total}
use Rattle.batch_store.specs.Accepted.{count_in}
use Rattle.batch_store.specs.Books.{accepted_in}
use Rattle.mm_text.specs.Canonical.{canonical}
use Rattle.mm_laws.specs.MatrixText.{cell_of}
use Rattle.cell_queries.specs.declared.tally.RowTally.{RowTally}
use Rattle.cell_queries.specs.declared.range.CellRange.{CellRange}
use Rattle.cell_queries.specs.Ranges.{cells_in}
use Rattle.cell_queries.specs.Tallies.{tallies}
use Rattle.snap_file.specs.Snapshots.{Saved}
use Rattle.snap_report.specs.Checks.{line_of}
use Rattle.snap_report.specs.declared.fault.CheckFault.{CheckFault}
use Rattle.snap_export.specs.Several.{added_up}
use Rattle.snap_query.specs.Queries.{by_side}
use Rattle.snap_query.specs.declared.side.Side.{Side}

abbrev pub rows_across : Side → List Saved → List RowTally
rows_across side xs = tallies (entries (by_side side (added_up xs)))

abbrev pub span_text : ℕ → ℕ → CellRange → List Saved → List ℕ
span_text rows cols r xs = canonical rows cols (map cell_of (cells_in r (entries (added_up xs))))

abbrev pub counted : List Saved → ℕ
counted [] = 0
counted (x ∷ xs) = count_in (accepted_in x.list) + counted xs

abbrev pub batches_in : List Saved → ℕ
batches_in xs = min (counted xs) (2 ^ 64 - 1)

abbrev pub shards_in : List Saved → ℕ
shards_in [] = 0
shards_in (x ∷ xs) = x.setup.shards

abbrev pub span_line : ℕ → ℕ → List Saved → List ℕ
span_line rows cols xs =
    line_of rows cols (shards_in xs) (batches_in xs) (total (added_up xs)) (len (added_up xs))

abbrev pub first_of : Option ℕ → ℕ → Option ℕ
first_of (Some k) n = Some k
first_of None n = Some n

abbrev pub IsCounted : ℕ → Option ℕ → Result Saved CheckFault → ℕ → Option ℕ → Type 0
IsCounted n k (Ok x) m l =
    (m ≡ min (n + count_in (accepted_in x.list)) (2 ^ 64 - 1)) × (l ≡ first_of k x.setup.shards)
IsCounted n k (Err fault) m l = Unit {0}
