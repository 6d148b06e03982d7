-- The sum of two lists of cells in strict order, as a list in strict order.
--     AppendsSum      the sum of two lists was appended
--     SumsTo          the sum of the first cells of two lists was appended, and lies before all other cells of both
use Rattle.std.specs.Prelude.{◌≡◌, ℕ, ◌-◌, ◌<◌, ◌≤◌, List, ◌++◌, length, take, slice_index_or}
use Rattle.cells.specs.Bounds.{AreWithin}
use Rattle.cells.specs.Order.{Precedes, Rise}
use Rattle.cells.specs.declared.cell.Cell.{Cell}
use Rattle.hyper_matrix.specs.Counts.{ewise_add}
use Rattle.hyper_matrix.specs.Cells.{built_of}

-- cells in order were appended, that build the sum of what two lists build
pub record AppendsSum (old new left right : List Cell) : Type 0 where
  pub cells : List Cell
  pub appended : new ≡ old ++ cells
  pub rises : Rise cells
  pub sums : built_of cells ≡ ewise_add (built_of left) (built_of right)
  pub within : (rows cols : ℕ) → AreWithin rows cols left → AreWithin rows cols right → AreWithin rows cols cells

-- if a list has a cell i, the last of these cells comes before it
abbrev pub LastPrecedes : List Cell → List Cell → ℕ → Type 0
LastPrecedes cells list i = (d : Cell) → 0 < length cells → i < length list →
    Precedes (slice_index_or cells (length cells - 1) d) (slice_index_or list i d)

-- the sum of the first i cells of one list and of the first j of another was appended, and lies before the others
pub record SumsTo (old new left right : List Cell) (i j : ℕ) : Type 0 where
  pub left_within : i ≤ length left
  pub right_within : j ≤ length right
  pub sum : AppendsSum old new (take i left) (take j right)
  pub before_left : LastPrecedes sum.cells left i
  pub before_right : LastPrecedes sum.cells right j
