-- Groups of rows: rows whose numbers are the same but for their last bits.
--     grouped g es    the cells of these rows, each in the row that its group has: the number without those bits
--     IsFrom r es     the cells are in order, and none is in a row before r
--     opened o ts     a group that is not finished, and the groups after it
use Rattle.std.specs.Prelude.{ℕ, ◌/◌, ◌^◌, ◌≤◌, T, List, [], ◌∷◌, Option, Some, None, if◌then◌else◌}
use Rattle.std.specs.FinMap.{is_sorted}
use Rattle.hyper_matrix.specs.Counts.{Place, place_cmp}
use Rattle.hyper_matrix.specs.Places.{AllPlaces}
use Rattle.cell_queries.specs.declared.groups.RowGroups.{RowGroups}
use Rattle.cell_queries.specs.declared.tally.RowTally.{RowTally}
use Rattle.cell_queries.specs.Ranges.{is_in_span}
use Rattle.cell_queries.specs.Tallies.{joined}

abbrev pub in_group : ℕ → Place × ℕ → Place × ℕ
in_group shift e = ((e.0.0 / 2 ^ shift, e.0.1), e.1)

abbrev pub grouped : RowGroups → List (Place × ℕ) → List (Place × ℕ)
grouped g [] = []
grouped g (e ∷ es) = if is_in_span g.rows e.0.0 then in_group g.shift e ∷ grouped g es else grouped g es

pub record IsFrom (row : ℕ) (es : List (Place × ℕ)) : Type 0 where
  pub order : T (is_sorted place_cmp es)
  pub from : AllPlaces (λ p. row ≤ p.0) es

abbrev pub opened : Option RowTally → List RowTally → List RowTally
opened None ts = ts
opened (Some t) ts = joined t ts
