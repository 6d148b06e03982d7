-- Labels: rows or columns by their numbers, in rising order, each once.
--     label labels i         the i-th label, counted from 0
--     AreLabels P labels     the numbers of which P holds, rising, each once
--     numbers_of axis cells  the rows, or the columns, of cells
--     HaveSame xs ys         two lists have the same numbers, in whatever order, and however often
--     back rows cols cell    a cell read back: its row and column are the labels that stand at those places
--     label_lines labels     a line for each label: its decimal digits, and LF
use Rattle.std.specs.Prelude.{ℕ, List, [], ◌∷◌, ◌++◌, map, flat_map, slice_index_or, decimal}
use Rattle.std.specs.List.{Contains}
use Rattle.std.specs.List.Sorted.{IsStrictlyIncreasing}
use Rattle.cells.specs.declared.cell.Cell.{Cell}
use Rattle.snap_export.specs.declared.axis.Axis.{Axis}
use Rattle.snap_export.specs.declared.axis.Axis.TheVariants.{Rows, Cols}

abbrev pub label : List ℕ → ℕ → ℕ
label labels i = slice_index_or labels i 0

pub record AreLabels (P : ℕ → Type 0) (labels : List ℕ) : Type 0 where
  pub rise : IsStrictlyIncreasing labels
  pub all : (n : ℕ) → P n → Contains labels n
  pub none_else : (n : ℕ) → Contains labels n → P n

abbrev pub number_of : Axis → Cell → ℕ
number_of Rows cell = cell.row
number_of Cols cell = cell.col

abbrev pub numbers_of : Axis → List Cell → List ℕ
numbers_of axis cells = map (number_of axis) cells

abbrev pub HaveSame : List ℕ → List ℕ → Type 0
HaveSame xs ys = (n : ℕ) → (Contains xs n → Contains ys n) × (Contains ys n → Contains xs n)

abbrev pub back : List ℕ → List ℕ → Cell → Cell
back rows cols cell = record { row = label rows cell.row; col = label cols cell.col; count = cell.count }

abbrev pub label_line : ℕ → List ℕ
label_line n = decimal n ++ 10 ∷ []

abbrev pub label_lines : List ℕ → List ℕ
label_lines labels = flat_map label_line labels
