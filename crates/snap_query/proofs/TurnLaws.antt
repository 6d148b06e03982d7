-- Cells with rows and columns exchanged.
use Rattle.std.proofs.Common.{◌≡◌, ℕ, ◌+◌, List, [], ◌∷◌, map, refl, sym, ◌∙◌, ap}
use Rattle.std.specs.FinMap.{entries}
use Rattle.cells.specs.declared.cell.Cell.{Cell}
use Rattle.cells.specs.Order.{Rise}
use Rattle.cells.specs.Sums.{sum_at}
use Rattle.hyper_matrix.proofs.BuiltOfLaws.{built_of-same}
use Rattle.hyper_matrix.proofs.PlaceOrderLaws.{sorted_rising}
use Rattle.hyper_matrix.proofs.SortedListLaws.{built-in_order, entries-in_order}
use Rattle.hyper_matrix.specs.Counts.{built}
use Rattle.hyper_matrix.specs.Cells.{built_of, cell_total, entry_of}
use Rattle.snap_query.specs.Turned.{turned_cell}
use Rattle.snap_query.specs.Queries.{turned}

-- the total stays
pub total_turned : (cells : List Cell) → cell_total (map turned_cell cells) ≡ cell_total cells
total_turned [] = refl
total_turned (c ∷ cells) = ap (λ n. c.count + n) (total_turned cells)

entries_turned : (cells : List Cell) → map turned (map entry_of cells) ≡ map entry_of (map turned_cell cells)
entries_turned [] = refl
entries_turned (c ∷ cells) = ap (λ es. entry_of (turned_cell c) ∷ es) (entries_turned cells)

-- the cells of a list in order are the entries of what it builds
pub entries_of_list : (cells : List Cell) → Rise cells → entries (built_of cells) ≡ map entry_of cells
entries_of_list cells rises =
    let sorted = sorted_rising cells rises in
    ap entries (built-in_order (map entry_of cells) sorted) ∙ entries-in_order (map entry_of cells) sorted

-- and of a list turned those of what it builds turned
pub entries_turned_of : (cells list : List Cell) → Rise cells → Rise list →
    ((q : ℕ × ℕ) → sum_at q list ≡ sum_at q (map turned_cell cells)) →
    map entry_of list ≡ entries (built (map turned (entries (built_of cells))))
entries_turned_of cells list rises rise same =
    sym (entries_of_list list rise)
    ∙ ap entries (built_of-same (map turned_cell cells) list same)
    ∙ ap (λ es. entries (built es)) (sym (entries_turned cells))
    ∙ ap (λ es. entries (built (map turned es))) (sym (entries_of_list cells rises))
