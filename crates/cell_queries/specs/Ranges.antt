-- The cells of a range of rows and columns, in the order of a list, and its first page.
--     is_in_range r e     the cell's row and column are among those of the range, and its place is the start or behind
--                         it
--     cells_in r es       the cells of the range
--     page_of r most es   the first of them
--     IsLimit r p Q       of the places that Q holds of, none is in the range before p
--     HasNone r Q         of these places, none is in the range
use Rattle.std.specs.Prelude.{◌≡◌, ℕ, Bool, true, false, ◌&&◌, not, nat_le, List, take}
use Rattle.std.specs.List.{filter}
use Rattle.std.specs.Ordering.{is_lt}
use Rattle.hyper_matrix.specs.Counts.{Place, place_cmp}
use Rattle.cell_queries.specs.declared.range.Span.{Span}
use Rattle.cell_queries.specs.declared.range.CellRange.{CellRange}

abbrev pub is_in_span : Span → ℕ → Bool
is_in_span s n = nat_le s.first n && nat_le n s.last

abbrev pub is_in_range : CellRange → Place × ℕ → Bool
is_in_range r e = is_in_span r.rows e.0.0 && is_in_span r.cols e.0.1 && not (is_lt (place_cmp e.0 r.start))

abbrev pub cells_in : CellRange → List (Place × ℕ) → List (Place × ℕ)
cells_in r es = filter (is_in_range r) es

abbrev pub page_of : CellRange → ℕ → List (Place × ℕ) → List (Place × ℕ)
page_of r most es = take most (cells_in r es)

abbrev pub IsLimit : CellRange → Place → (Place → Type 0) → Type 0
IsLimit r p Q = (e : Place × ℕ) → Q e.0 → is_in_range r e ≡ true → is_lt (place_cmp e.0 p) ≡ false

abbrev pub HasNone : CellRange → (Place → Type 0) → Type 0
HasNone r Q = (e : Place × ℕ) → Q e.0 → is_in_range r e ≡ false
