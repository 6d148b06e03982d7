-- The columns of one row.
use Rattle.std.specs.Prelude.{◌≡◌, ℕ, ◌≤◌, ◌^◌}
use Rattle.std.specs.FinMap.{len}
use Rattle.hyper_matrix.specs.Counts.{Counts}
use Rattle.hyper_matrix.specs.RowOf.{row_of, HasNoneFrom}

-- row r has an entry at n columns, all before column 2^60, and none where it lies behind the rows
pub record HasColumns (m : Counts) (rows r n : ℕ) : Type 0 where
  pub counted : n ≡ len (row_of m r)
  pub narrow : HasNoneFrom m r (2 ^ 60)
  pub outside : rows ≤ r → n ≡ 0
