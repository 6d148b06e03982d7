-- Rows and columns exchanged.
use Rattle.cells.specs.declared.cell.Cell.{Cell}

abbrev pub turned_cell : Cell → Cell
turned_cell cell = record { row = cell.col; col = cell.row; count = cell.count }
