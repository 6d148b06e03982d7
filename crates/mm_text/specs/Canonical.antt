-- The text of a list of cells: the banner, the size line, and a line for each cell in the order of the list.
use Rattle.std.specs.Prelude.{ℕ, ◌+◌, List, [], ◌∷◌, ◌++◌, length, flat_map, codes, decimal}
use Rattle.cells.specs.declared.cell.Cell.{Cell}

-- three numbers, one space between, and LF
abbrev pub numbers_line : ℕ → ℕ → ℕ → List ℕ
numbers_line first second third = decimal first ++ 32 ∷ decimal second ++ 32 ∷ decimal third ++ 10 ∷ []

-- the banner and the size line
abbrev pub canonical_head : ℕ → ℕ → ℕ → List ℕ
canonical_head rows cols entries = (codes "%%MatrixMarket matrix coordinate integer general" ++ 10 ∷ [])
    ++ numbers_line rows cols entries

-- a cell's line; in a text rows and columns count from 1
abbrev pub entry_line : Cell → List ℕ
entry_line c = numbers_line (c.row + 1) (c.col + 1) c.count

abbrev pub entry_lines : List Cell → List ℕ
entry_lines cells = flat_map entry_line cells

abbrev pub canonical : ℕ → ℕ → List Cell → List ℕ
canonical rows cols cells = canonical_head rows cols (length cells) ++ entry_lines cells
