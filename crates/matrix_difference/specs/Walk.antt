-- The difference of two lists of cells in order, a cell of the later one after the other.
--     step_of c front     what a cell of the later list comes to beside the next one of the earlier list
--     walked ns bs        the cells of the difference, or the place where the count falls first
use Rattle.std.specs.Prelude.{ℕ, ◌-◌, nat_lt, nat_eq, if◌then◌else◌, List, [], ◌∷◌, Option, Some, None, drop, slice_get}
use Rattle.std.specs.Prelude.{Result, Ok, Err}
use Rattle.std.specs.declared.cmp.Ordering.{Ordering}
use Rattle.cells.specs.declared.cell.Cell.{Cell}
use Rattle.hyper_matrix.specs.Counts.{Place, place_cmp}
use Rattle.hyper_matrix.specs.Cells.{place_of}
use Rattle.matrix_difference.specs.declared.walk.Step.{Step}
use Rattle.matrix_difference.specs.declared.walk.Step.TheVariants.{Falls, Keep, Meet}

abbrev pub falls_at : Place → Step
falls_at p = Falls p.0 p.1

abbrev pub counted : Cell → ℕ → Step
counted c n = if nat_lt c.count n then falls_at (place_of c) else if nat_eq c.count n then Meet None else
    Meet (Some (record { row = c.row; col = c.col; count = c.count - n }))

abbrev pub by_order : Ordering → Cell → Cell → Step
by_order Ordering.Less b c = falls_at (place_of b)
by_order Ordering.Equal b c = counted c b.count
by_order Ordering.Greater b c = Keep c

abbrev pub step_of : Cell → Option Cell → Step
step_of c None = Keep c
step_of c (Some b) = by_order (place_cmp (place_of b) (place_of c)) b c

abbrev pub with_more : Option Cell → Result (List Cell) Place → Result (List Cell) Place
with_more None r = r
with_more (Some c) (Ok cells) = Ok (c ∷ cells)
with_more (Some c) (Err p) = Err p

abbrev pub goes_on : Step → Result (List Cell) Place → Result (List Cell) Place → Result (List Cell) Place
goes_on (Falls row col) kept met = Err (row, col)
goes_on (Keep c) kept met = with_more (Some c) kept
goes_on (Meet c) kept met = with_more c met

-- where the later list has ended, whatever the earlier one has left falls
abbrev pub ended : List Cell → Result (List Cell) Place
ended [] = Ok []
ended (b ∷ bs) = Err (place_of b)

abbrev pub walked : List Cell → List Cell → Result (List Cell) Place
walked [] bs = ended bs
walked (a ∷ ns) bs = goes_on (step_of a (slice_get bs 0)) (walked ns bs) (walked ns (drop 1 bs))
