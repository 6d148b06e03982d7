-- A matrix without empty rows and columns: those that have an entry are numbered anew, from 0 in rising order.
--     HasRow m r, HasCol m c     the matrix has an entry in this row, in this column
--     IsCompact m rows cols n    n is m so numbered anew: the labels are the rows and columns of m that have an entry,
--                                and n at (i, j) is m at the i-th row and the j-th column of these
--     dimension labels           how many there are, and 1 where there is none, since no text has a dimension of 0
--     compact_text rows cols n   the canonical text of n in these dimensions
use Rattle.std.specs.Prelude.{◌≡◌, ℕ, ◌<◌, List, [], ◌∷◌, length, IsSome}
use Rattle.std.specs.FinMap.{get}
use Rattle.hyper_matrix.specs.Counts.{Counts}
use Rattle.hyper_matrix.specs.Matrix.{matrix}
use Rattle.mm_laws.specs.MatrixText.{matrix_text}
use Rattle.snap_export.specs.Labels.{AreLabels, label}

abbrev pub HasRow : Counts → ℕ → Type 0
HasRow m row = (col : ℕ) × IsSome (get m (row, col))

abbrev pub HasCol : Counts → ℕ → Type 0
HasCol m col = (row : ℕ) × IsSome (get m (row, col))

pub record IsCompact (m : Counts) (rows cols : List ℕ) (n : Counts) : Type 0 where
  pub rows_are : AreLabels (HasRow m) rows
  pub cols_are : AreLabels (HasCol m) cols
  pub within : (i j : ℕ) → IsSome (get n (i, j)) → (i < length rows) × (j < length cols)
  pub counts_are : (i j : ℕ) → i < length rows → j < length cols → get n (i, j) ≡ get m (label rows i, label cols j)

abbrev pub dimension : List ℕ → ℕ
dimension [] = 1
dimension (label ∷ labels) = length (label ∷ labels)

abbrev pub compact_text : List ℕ → List ℕ → Counts → List ℕ
compact_text rows cols n = matrix_text (matrix (dimension rows) (dimension cols) n)
