-- The bytes of a matrix's text that a body can carry.
use Rattle.std.specs.Prelude.{◌≡◌, ℕ, ◌≤◌, length}
use Rattle.std.specs.FinMap.{len}
use Rattle.hyper_matrix.specs.Matrix.{Matrix}
use Rattle.mm_laws.specs.MatrixText.{matrix_text}

-- the bytes of a text that a body can carry, and the cells of the matrix
abbrev pub IsSizeOf : Matrix → ℕ → ℕ → Type 0
IsSizeOf m bytes cells = (bytes ≡ length (matrix_text m)) × (bytes ≤ 67108864) × (cells ≡ len m.counts)
