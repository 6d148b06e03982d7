-- The rows of cells, as one cell more is known of them.
use Rattle.std.proofs.Common.{◌≡◌, ℕ, ◌+◌, cond, List, [], ◌∷◌, Option, Some, None}
use Rattle.std.proofs.Common.{◌++◌, refl, sym, ◌∙◌, ap, subst, inl, inr, arith, append_assoc}
use Rattle.std.specs.Prelude.{MatchOption}
use Rattle.std.proofs.lemmas.List.{append-nil}
use Rattle.std.proofs.lemmas.Bool.{cases_eq, eq-eqb, ne_eqb}
use Rattle.cells.specs.declared.cell.Cell.{Cell}
use Rattle.hyper_matrix.specs.Counts.{Place}
use Rattle.hyper_matrix.specs.Cells.{entry_of}
use Rattle.cell_queries.specs.declared.tally.RowTally.{RowTally}
use Rattle.cell_queries.specs.Tallies.{tally, joined, tallies, rows_left}

pub same_row : (t u : RowTally) (us : List RowTally) → u.row ≡ t.row →
    joined t (u ∷ us) ≡ tally t.row (t.entries + u.entries) (t.total + u.total) ∷ us
same_row t u us h =
    ap (λ b. cond b (tally t.row (t.entries + u.entries) (t.total + u.total) ∷ us) (t ∷ (u ∷ us)))
    (eq-eqb u.row t.row h)

pub other_row : (t u : RowTally) (us : List RowTally) → (u.row ≡ t.row → ⊥) → joined t (u ∷ us) ≡ t ∷ (u ∷ us)
other_row t u us h =
    ap (λ b. cond b (tally t.row (t.entries + u.entries) (t.total + u.total) ∷ us) (t ∷ (u ∷ us)))
    (ne_eqb u.row t.row h)

-- the row that a joined list begins with
pub record Begins (t : RowTally) (us : List RowTally) : Type 0 where
  pub n : ℕ
  pub a : ℕ
  pub rest : List RowTally
  pub is : joined t us ≡ tally t.row n a ∷ rest

pub first_is : (t : RowTally) (us : List RowTally) → Begins t us
first_is t [] = record { n = t.entries; a = t.total; rest = []; is = refl }
first_is t (u ∷ us) = elim (cases_eq u.row t.row) [
  | inl same ↦ record { n = t.entries + u.entries; a = t.total + u.total; rest = us; is = same_row t u us same }
  | inr other ↦ record { n = t.entries; a = t.total; rest = u ∷ us; is = other_row t u us other }
]

-- a cell of the same row, and one of another
pub joined_more : (row n a count : ℕ) (us : List RowTally) →
    joined (tally row n a) (joined (tally row 1 count) us) ≡ joined (tally row (n + 1) (a + count)) us
joined_more row n a count [] = same_row (tally row n a) (tally row 1 count) [] refl
joined_more row n a count (u ∷ us) = elim (cases_eq u.row row) [
  | inl same ↦
      ap (joined (tally row n a)) (same_row (tally row 1 count) u us same)
      ∙ same_row (tally row n a) (tally row (1 + u.entries) (count + u.total)) us refl
      ∙ ap (λ k. tally row k (a + (count + u.total)) ∷ us) {x = n + (1 + u.entries)} {y = (n + 1) + u.entries}
      (omega arith)
      ∙ ap (λ k. tally row ((n + 1) + u.entries) k ∷ us) {x = a + (count + u.total)} {y = (a + count) + u.total}
      (omega arith)
      ∙ sym (same_row (tally row (n + 1) (a + count)) u us same)
  | inr other ↦
      ap (joined (tally row n a)) (other_row (tally row 1 count) u us other)
      ∙ same_row (tally row n a) (tally row 1 count) (u ∷ us) refl
      ∙ sym (other_row (tally row (n + 1) (a + count)) u us other)
]

pub joined_other : (t : RowTally) (row count : ℕ) (us : List RowTally) → (row ≡ t.row → ⊥) →
    joined t (joined (tally row 1 count) us) ≡ t ∷ joined (tally row 1 count) us
joined_other t row count us other =
    let first = first_is (tally row 1 count) us in
    ap (joined t) first.is ∙ other_row t (tally row first.n first.a) first.rest other ∙ ap (λ vs. t ∷ vs) (sym first.is)

-- a row as its cells are taken one after the other
pub row_begun : (first : Cell) (t : RowTally) (ahead : Option Cell) (es : List (Place × ℕ)) → ahead ≡ Some first →
    t ≡ tally first.row 1 first.count → joined t (tallies es) ≡ rows_left ahead es
row_begun first t ahead es is begins =
    ap (λ u. joined u (tallies es)) begins ∙ ap (λ o. rows_left o es) (sym is)

pub row_more : (t after : RowTally) (cell : Cell) (es news : List (Place × ℕ)) (whole : List RowTally) →
    joined t (tallies es) ≡ whole → es ≡ entry_of cell ∷ news → cell.row ≡ t.row →
    after ≡ tally t.row (t.entries + 1) (t.total + cell.count) → joined after (tallies news) ≡ whole
row_more t after cell es news whole told is same more =
    ap (λ u. joined u (tallies news)) more
    ∙ sym (joined_more t.row t.entries t.total cell.count (tallies news))
    ∙ ap (λ r. joined t (joined (tally r 1 cell.count) (tallies news))) (sym same)
    ∙ ap (λ xs. joined t (tallies xs)) (sym is) ∙ told

pub row_other : (t : RowTally) (cell : Cell) (es news : List (Place × ℕ)) (whole : List RowTally) →
    joined t (tallies es) ≡ whole → es ≡ entry_of cell ∷ news → (cell.row ≡ t.row → ⊥) →
    whole ≡ t ∷ rows_left (Some cell) news
row_other t cell es news whole told is other =
    sym told ∙ ap (λ xs. joined t (tallies xs)) is ∙ joined_other t cell.row cell.count (tallies news) other

pub row_ends : (t : RowTally) (es : List (Place × ℕ)) (whole : List RowTally) → joined t (tallies es) ≡ whole →
    es ≡ [] →
    whole ≡ t ∷ []
row_ends t es whole told is = sym told ∙ ap (λ xs. joined t (tallies xs)) is

-- the rows of a source of which the first cell was taken
pub rows_begun : (ahead : Option Cell) (es news : List (Place × ℕ)) →
    MatchOption ahead ((es ≡ []) × (news ≡ [])) (λ cell. es ≡ entry_of cell ∷ news) → rows_left ahead news ≡ tallies es
rows_begun None es news h = sym (ap tallies h.0)
rows_begun (Some cell) es news h = sym (ap tallies h)

pub rows_more : (done olds news whole : List RowTally) (t : RowTally) → done ++ olds ≡ whole → olds ≡ t ∷ news →
    (done ++ t ∷ []) ++ news ≡ whole
rows_more done olds news whole t told is = append_assoc done (t ∷ []) news ∙ ap (λ ts. done ++ ts) (sym is) ∙ told

pub rows_end : (done olds whole : List RowTally) → done ++ olds ≡ whole → olds ≡ [] → whole ≡ done
rows_end done olds whole told is = sym told ∙ ap (λ ts. done ++ ts) is ∙ append-nil done

-- what is said of the item of an option
pub at_some : {X : Type 0} (o : Option X) (x : X) (P : Type 0) (Q : X → Type 0) → o ≡ Some x → MatchOption o P Q → Q x
at_some o x P Q is h = subst (λ v. MatchOption v P Q) is h

pub at_none : {X : Type 0} (o : Option X) (P : Type 0) (Q : X → Type 0) → o ≡ None → MatchOption o P Q → P
at_none o P Q is h = subst (λ v. MatchOption v P Q) is h
