-- What a list of cells builds: it doesn't depend on the order of the list, and each place has the sum of its counts.
use Rattle.std.proofs.Common.{eqb, ◌≡◌, ℕ, ◌+◌, ◌<◌, ◌&&◌, Bool, true, false, cond, List, [], ◌∷◌, ◌++◌, length}
use Rattle.std.proofs.Common.{subst, map, Option, Some, None, sym, ◌∙◌, ap, refl, arith}
use Rattle.std.specs.Prelude.{IsSome, ◌↔◌, unwrap_or}
use Rattle.std.proofs.lemmas.List.{map-append}
use Rattle.hyper_matrix.specs.Counts.{Place, plus, count_at, ewise_add, built, total, count_sum}
use Rattle.cells.specs.Sums.{sum_at, stands_at}
use Rattle.hyper_matrix.specs.Cells.{entry_of, built_of, cell_total, cells_at}
use Rattle.cells.specs.declared.cell.Cell.{Cell}
use Rattle.std.specs.FinMap.{get, empty}
use Rattle.hyper_matrix.proofs.CellLaws.{same_place}
use Rattle.hyper_matrix.proofs.CountLaws.{total-built, gathered, get-built, built-append, same_counts}

pub entries_total : (cells : List Cell) → count_sum (map entry_of cells) ≡ cell_total cells
entries_total [] = refl
entries_total (cell ∷ cells) = ap (λ n. cell.count + n) (entries_total cells)

pub total-built_of : (cells : List Cell) → total (built_of cells) ≡ cell_total cells
total-built_of cells = total-built (map entry_of cells) ∙ entries_total cells

-- no cells build the empty map
pub built_of-none : (cells : List Cell) → length cells ≡ 0 → empty ≡ built_of cells
unfolding built
built_of-none [] h = refl
built_of-none (cell ∷ cells) h = absurd (omega arith)

-- what stands at the place of these cells, if there are any
abbrev pub told_cells : List Cell → Option ℕ
told_cells [] = None
told_cells (cell ∷ cells) = Some (cell_total (cell ∷ cells))

one_more : (cell : Cell) (cells : List Cell) → plus (Some cell.count) (told_cells cells) ≡ told_cells (cell ∷ cells)
one_more cell [] = ap (λ n. Some n) (omega arith)
one_more cell (next ∷ cells) = refl

-- what a list builds at a place is what its cells there come to
pub get-built_of : (cells : List Cell) (q : Place) → get (built_of cells) q ≡ told_cells (cells_at q cells)
get-built_of cells q = get-built (map entry_of cells) q ∙ go cells
  where
    step : (cell : Cell) (cells : List Cell) → gathered q (map entry_of cells) ≡ told_cells (cells_at q cells) →
        (a b : Bool) → plus (cond (cond a b false) (Some cell.count) None) (gathered q (map entry_of cells)) ≡
        told_cells (cond (a && b) (cell ∷ cells_at q cells) (cells_at q cells))
    step cell cells rest true true = ap (plus (Some cell.count)) rest ∙ one_more cell (cells_at q cells)
    step cell cells rest true false = rest
    step cell cells rest false b = rest

    go : (cells : List Cell) → gathered q (map entry_of cells) ≡ told_cells (cells_at q cells)
    go [] = refl
    go (cell ∷ cells) = ap (λ t. plus (cond t (Some cell.count) None) (gathered q (map entry_of cells)))
        (same_place q.0 q.1 cell.row cell.col) ∙ step cell cells (go cells) (eqb q.0 cell.row) (eqb q.1 cell.col)

pub built_names : (cells : List Cell) (q : Place) → IsSome (get (built_of cells) q) ↔ (0 < length (cells_at q cells))
built_names cells q = (
  λ h. some (cells_at q cells) (subst IsSome (get-built_of cells q) h),
  λ h. subst IsSome (sym (get-built_of cells q)) (names (cells_at q cells) h),
)
  where
    some : (cs : List Cell) → IsSome (told_cells cs) → 0 < length cs
    some [] h = absurd (cc)
    some (c ∷ cs) h = omega arith

    names : (cs : List Cell) → 0 < length cs → IsSome (told_cells cs)
    names [] h = absurd (omega arith)
    names (c ∷ cs) h = refl

plain : (cs : List Cell) → unwrap_or (told_cells cs) 0 ≡ cell_total cs
plain [] = refl
plain (c ∷ cs) = refl

pub built_counts : (cells : List Cell) (q : Place) → count_at (built_of cells) q ≡ cell_total (cells_at q cells)
built_counts cells q = ap (λ o. unwrap_or o 0) (get-built_of cells q) ∙ plain (cells_at q cells)

pub built_joined : (xs ys : List Cell) → built_of (xs ++ ys) ≡ ewise_add (built_of xs) (built_of ys)
built_joined xs ys = ap built (map-append entry_of xs ys) ∙ built-append (map entry_of xs) (map entry_of ys)

sum_at-told : (q : Place) (cells : List Cell) → sum_at q cells ≡ told_cells (cells_at q cells)
sum_at-told q [] = refl
sum_at-told q (cell ∷ cells) = step (stands_at q cell) (sum_at-told q cells)
  where
    step : (b : Bool) → sum_at q cells ≡ told_cells (cells_at q cells) →
        cond b (Some (cell.count + unwrap_or (sum_at q cells) 0)) (sum_at q cells) ≡
        told_cells (cond b (cell ∷ cells_at q cells) (cells_at q cells))
    step true rest = ap (λ o. Some (cell.count + unwrap_or o 0)) rest ∙
        ap (λ n. Some (cell.count + n)) (plain (cells_at q cells))
    step false rest = rest

-- lists that come to the same at each place build the same
pub built_of-same : (xs ys : List Cell) → ((q : Place) → sum_at q ys ≡ sum_at q xs) → built_of ys ≡ built_of xs
built_of-same xs ys same = same_counts _ _ (λ q. get-built_of ys q ∙ sym (sum_at-told q ys) ∙ same q ∙
    sum_at-told q xs ∙ sym (get-built_of xs q))
