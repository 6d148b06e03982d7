-- What is asked of a matrix, and the lines of the answers.
--     by_side side m     the matrix, with rows and columns exchanged where columns are asked for
--     row_lines ts       a line for each row: its number, how many entries it has, and their total
--     degree_lines ds    a line for each range: the fewest entries, the most, and how many rows have so many
use Rattle.std.specs.Prelude.{ℕ, List, map, flat_map}
use Rattle.std.specs.FinMap.{entries}
use Rattle.hyper_matrix.specs.Counts.{Place, Counts, built}
use Rattle.mm_text.specs.Canonical.{numbers_line}
use Rattle.cell_queries.specs.declared.tally.RowTally.{RowTally}
use Rattle.cell_queries.specs.declared.degrees.Degree.{Degree}
use Rattle.snap_query.specs.declared.side.Side.{Side}
use Rattle.snap_query.specs.declared.side.Side.TheVariants.{Rows, Cols}

abbrev pub turned : Place × ℕ → Place × ℕ
turned e = ((e.0.1, e.0.0), e.1)

abbrev pub by_side : Side → Counts → Counts
by_side Rows m = m
by_side Cols m = built (map turned (entries m))

abbrev pub row_line : RowTally → List ℕ
row_line t = numbers_line t.row t.entries t.total

abbrev pub row_lines : List RowTally → List ℕ
row_lines ts = flat_map row_line ts

abbrev pub degree_line : Degree → List ℕ
degree_line d = numbers_line d.first d.last d.rows

abbrev pub degree_lines : List Degree → List ℕ
degree_lines ds = flat_map degree_line ds
