-- The text of a matrix, line by line.
use Rattle.std.proofs.Common.{◌≡◌, ℕ, ◌+◌, List, [], ◌∷◌, ◌++◌, length, length-append, map, refl, sym, ◌∙◌, ap, arith}
use Rattle.std.proofs.Common.{append_assoc}
use Rattle.std.specs.Prelude.{codes}
use Rattle.std.specs.FinMap.{entries, len, len-entries}
use Rattle.std.proofs.lemmas.List.{length-map}
use Rattle.cells.specs.declared.cell.Cell.{Cell}
use Rattle.mm_text.specs.Canonical.{canonical_head, numbers_line, entry_line, entry_lines}
use Rattle.hyper_matrix.specs.Counts.{Place}
use Rattle.hyper_matrix.specs.Cells.{entry_of}
use Rattle.hyper_matrix.specs.Matrix.{Matrix}
use Rattle.mm_laws.specs.MatrixText.{cell_of, cells_in_order, matrix_text}

-- the head of a matrix's text, and behind it the lines of its cells
pub text_begins : (m : Matrix) (rows cols count : ℕ) (left : List (Place × ℕ)) →
    ◌≡◌ {A = ℕ × ℕ} (rows, cols) (m.rows, m.cols) → count ≡ len m.counts → left ≡ entries m.counts →
    canonical_head rows cols count ++ entry_lines (map cell_of left) ≡ matrix_text m
unfolding matrix_text
text_begins m rows cols count left dims counted is =
    let cells = cells_in_order m.counts in
    let number : count ≡ length cells = omega (
      arith,
      counted,
      len-entries m.counts,
      length-map (entries m.counts) cell_of,
    ) in
    ap (λ (p : ℕ × ℕ). canonical_head p.0 p.1 count ++ entry_lines (map cell_of left)) dims
    ∙ ap (λ n. canonical_head m.rows m.cols n ++ entry_lines (map cell_of left)) number
    ∙ ap (λ (es : List (Place × ℕ)). canonical_head m.rows m.cols (length cells) ++ entry_lines (map cell_of es)) is

-- the lines that are to come, by the cells that are left
pub lines_counted : (m : Matrix) (count left : ℕ) (cells : List (Place × ℕ)) → count ≡ len m.counts → left ≡ count →
    cells ≡ entries m.counts → left ≡ length cells
lines_counted m count left cells counted is order = omega (arith, counted, is, len-entries m.counts, ap length order)

-- a line more, and behind it the lines of the cells that are left
pub line_next : (text whole : List ℕ) (left rest : List (Place × ℕ)) (cell : Cell) → left ≡ entry_of cell ∷ rest →
    text ++ entry_lines (map cell_of left) ≡ whole →
    (text ++ entry_line cell) ++ entry_lines (map cell_of rest) ≡ whole
line_next text whole left rest cell is told =
    append_assoc text (entry_line cell) (entry_lines (map cell_of rest)) ∙
    sym (ap (λ (es : List (Place × ℕ)). text ++ entry_lines (map cell_of es)) is) ∙ told

-- ---- the same in bytes alone
pub length_begins : (m : Matrix) (rows cols count first : ℕ) (left : List (Place × ℕ)) →
    ◌≡◌ {A = ℕ × ℕ} (rows, cols) (m.rows, m.cols) → count ≡ len m.counts → left ≡ entries m.counts →
    first ≡ length (numbers_line rows cols count) → 49 + first + length (entry_lines (map cell_of left)) ≡
    length (matrix_text m)
length_begins m rows cols count first left dims counted is e =
    let whole = ap length (text_begins m rows cols count left dims counted is) in
    let parts = length-append (canonical_head rows cols count) (entry_lines (map cell_of left)) in
    let banner : length (codes "%%MatrixMarket matrix coordinate integer general" ++ 10 ∷ []) ≡ 49 = refl in
    let head = length-append (codes "%%MatrixMarket matrix coordinate integer general" ++ 10 ∷ [])
    (numbers_line rows cols count) in
    omega (arith, whole, parts, head, banner, e)

-- the line of one cell more is counted
pub length_more : (sum all n : ℕ) (left rest : List (Place × ℕ)) (cell : Cell) → left ≡ entry_of cell ∷ rest →
    sum + length (entry_lines (map cell_of left)) ≡ all → n ≡ length (entry_line cell) →
    (sum + n) + length (entry_lines (map cell_of rest)) ≡ all
length_more sum all n left rest cell is told e =
    let lines = ap (λ (es : List (Place × ℕ)). length (entry_lines (map cell_of es))) is in
    let parts = length-append (entry_line cell) (entry_lines (map cell_of rest)) in
    omega (arith, lines, parts, told, e)

-- all lines of cells are counted, and then the line of the sizes
pub length_ends : (m : Matrix) (rows cols count first sum : ℕ) (left : List (Place × ℕ)) →
    ◌≡◌ {A = ℕ × ℕ} (rows, cols) (m.rows, m.cols) → first ≡ length (numbers_line rows cols count) → left ≡ [] →
    count + length left ≡ len m.counts →
    sum + length (entry_lines (map cell_of left)) ≡ 49 + length (entry_lines (map cell_of (entries m.counts))) →
    (sum + first ≡ length (matrix_text m)) × (count ≡ len m.counts)
length_ends m rows cols count first sum left dims e none told counted =
    let number : count ≡ len m.counts = omega (arith, told, ap length none) in
    let whole = length_begins m rows cols count first (entries m.counts) dims number refl e in
    let rest : length (entry_lines (map cell_of left)) ≡ 0 =
    ap (λ (es : List (Place × ℕ)). length (entry_lines (map cell_of es))) none in
    (omega (arith, whole, rest, counted), number)
