-- Look-ups in a list of cells by row and then column.
--     is_before p q           the place p comes before q
--     first_from q es         the first cell at q or behind it
--     cells_from q es         the cells at q or behind it
--     row_cells r es          the cells of row r
--     TurnsAt test size n     of the places 0 to size - 1, n is where the test turns: it holds right before n, and not
--     at n
use Rattle.std.specs.Prelude.{◌≡◌, ℕ, ◌-◌, ◌<◌, ◌≤◌, Bool, true, false, not, cond, ◌==◌, List, [], ◌∷◌, length}
use Rattle.std.specs.Prelude.{Option, Some, None}
use Rattle.std.specs.List.{filter}
use Rattle.std.specs.Ordering.{is_lt}
use Rattle.hyper_matrix.specs.Counts.{Place, place_cmp, count_sum}

abbrev pub is_before : Place → Place → Bool
is_before p q = is_lt (place_cmp p q)

abbrev pub first_from : Place → List (Place × ℕ) → Option (Place × ℕ)
first_from q [] = None
first_from q (e ∷ es) = cond (is_before e.0 q) (first_from q es) (Some e)

abbrev pub cells_from : Place → List (Place × ℕ) → List (Place × ℕ)
cells_from q es = filter (λ e. not (is_before e.0 q)) es

abbrev pub row_cells : ℕ → List (Place × ℕ) → List (Place × ℕ)
row_cells r es = filter (λ e. e.0.0 == r) es

pub record TurnsAt (test : ℕ → Bool) (size n : ℕ) : Type 0 where
  pub within : n ≤ size
  pub before : 0 < n → test (n - 1) ≡ true
  pub behind : n < size → test n ≡ false

-- of the cells of row r, how many they are, and their counts together
pub record IsRowSum (r : ℕ) (es : List (Place × ℕ)) (entries total : ℕ) : Type 0 where
  pub counted : entries ≡ length (row_cells r es)
  pub summed : total ≡ count_sum (row_cells r es)
