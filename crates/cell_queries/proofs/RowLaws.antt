-- The rows of cells in order: each once, and with exactly its cells.
use Rattle.std.proofs.Common.{◌≡◌, ℕ, ◌+◌, ◌<◌, ◌≤◌, ◌⊎◌, T, cond, List, [], ◌∷◌, length, refl, sym, ◌∙◌, ap, subst}
use Rattle.std.proofs.Common.{inl, inr, arith}
use Rattle.std.specs.List.{AllByRecursion}
use Rattle.std.specs.FinMap.{is_sorted}
use Rattle.std.proofs.lemmas.Bool.{cases_eq, cases_order, eq-eqb, ne_eqb}
use Rattle.hyper_matrix.specs.Counts.{Place, place_cmp, count_sum}
use Rattle.hyper_matrix.specs.Places.{Less, AllPlaces}
use Rattle.hyper_matrix.proofs.CountLaws.{T_first, T_second}
use Rattle.hyper_matrix.proofs.PlaceOrderLaws.{all_map, to_all, place_less}
use Rattle.cell_queries.specs.declared.tally.RowTally.{RowTally}
use Rattle.cell_queries.specs.Rows.{row_cells, IsRight, RowsRise, HasRow}
use Rattle.cell_queries.specs.Tallies.{tally, joined, tallies}
use Rattle.cell_queries.proofs.TallyLaws.{same_row, other_row}

-- what holds of the row that is joined and of those behind it holds of all
joined_all : (Q : ℕ → Type 0) (t : RowTally) (ts : List RowTally) → Q t.row → AllByRecursion (λ u. Q u.row) ts →
    AllByRecursion (λ u. Q u.row) (joined t ts)
joined_all Q t [] one all = (one, tt)
joined_all Q t (u ∷ us) one all = elim (cases_eq u.row t.row) [
  | inl same ↦ subst (AllByRecursion (λ v. Q v.row)) (sym (same_row t u us same)) (one, all.1)
  | inr other ↦ subst (AllByRecursion (λ v. Q v.row)) (sym (other_row t u us other)) (one, all)
]

pub all_rows : (Q : ℕ → Type 0) (es : List (Place × ℕ)) → AllPlaces (λ p. Q p.0) es →
    AllByRecursion (λ t. Q t.row) (tallies es)
all_rows Q [] h = tt
all_rows Q (e ∷ es) h = joined_all Q (tally e.0.0 1 e.1) (tallies es) h.0 (all_rows Q es h.1)

pub weaker : (P Q : RowTally → Type 0) → ((t : RowTally) → P t → Q t) → (ts : List RowTally) → AllByRecursion P ts →
    AllByRecursion Q ts
weaker P Q f [] h = tt
weaker P Q f (t ∷ ts) h = (f t h.0, weaker P Q f ts h.1)

strictly : {m n : ℕ} → m ≤ n → (n ≡ m → ⊥) → m < n
strictly {m} {n} le differ = elim (cases_order m n) [
  | inl same ↦ absurd (differ (sym same))
  | inr (inl less) ↦ less
  | inr (inr more) ↦ absurd (omega (arith, le, more))
]

-- no cell behind another stands in a row before it
pub not_lower : (e : Place × ℕ) (es : List (Place × ℕ)) → T (is_sorted place_cmp (e ∷ es)) →
    AllPlaces (λ p. e.0.0 ≤ p.0) es
not_lower e es sorted = all_map (Less e.0) (λ p. e.0.0 ≤ p.0) further es (to_all e.0 es (T_first _ _ sorted))
  where
    further : (p : Place) → Less e.0 p → e.0.0 ≤ p.0
    further p less = elim (place_less e.0 p less) [ inl a ↦ omega arith | inr b ↦ omega (arith, b.0) ]

joined_rise : (t : RowTally) (ts : List RowTally) → AllByRecursion (λ u. t.row ≤ u.row) ts → RowsRise ts →
    RowsRise (joined t ts)
joined_rise t [] from rise = (tt, tt)
joined_rise t (u ∷ us) from rise = elim (cases_eq u.row t.row) [
  | inl same ↦ subst RowsRise (sym (same_row t u us same)) (
    weaker (λ v. u.row < v.row) (λ v. t.row < v.row) (λ v h. omega (arith, h, same)) us rise.0,
    rise.1,
  )
  | inr other ↦
      let less : t.row < u.row = above from.0 other in
      subst RowsRise (sym (other_row t u us other)) (
        (less, weaker (λ v. u.row < v.row) (λ v. t.row < v.row) (λ v h. omega (arith, h, less)) us rise.0),
        rise,
      )
]
  where
    above : t.row ≤ u.row → (u.row ≡ t.row → ⊥) → t.row < u.row
    above le other = elim (cases_eq u.row t.row) [ inl same ↦ absurd (other same) | inr differ ↦ strictly le differ ]

-- no cell is in a row below that of the one before
abbrev pub NeverFall : List (Place × ℕ) → Type 0
NeverFall [] = Unit {0}
NeverFall (e ∷ es) = AllPlaces (λ p. e.0.0 ≤ p.0) es × NeverFall es

pub never_fall : (es : List (Place × ℕ)) → T (is_sorted place_cmp es) → NeverFall es
never_fall [] h = tt
never_fall (e ∷ es) h = (not_lower e es h, never_fall es (T_second _ _ h))

pub rise_of : (es : List (Place × ℕ)) → NeverFall es → RowsRise (tallies es)
rise_of [] h = tt
rise_of (e ∷ es) h = joined_rise (tally e.0.0 1 e.1) (tallies es) (all_rows (λ r. e.0.0 ≤ r) es h.0) (rise_of es h.1)

pub rows_rise : (es : List (Place × ℕ)) → T (is_sorted place_cmp es) → RowsRise (tallies es)
rows_rise es h = rise_of es (never_fall es h)

-- a cell of another row changes nothing of a row
cell_of_row : (r : ℕ) (e : Place × ℕ) (es : List (Place × ℕ)) → e.0.0 ≡ r → row_cells r (e ∷ es) ≡ e ∷ row_cells r es
cell_of_row r e es h = ap (λ b. cond b (e ∷ row_cells r es) (row_cells r es)) (eq-eqb e.0.0 r h)

cell_of_other : (r : ℕ) (e : Place × ℕ) (es : List (Place × ℕ)) → (e.0.0 ≡ r → ⊥) →
    row_cells r (e ∷ es) ≡ row_cells r es
cell_of_other r e es h = ap (λ b. cond b (e ∷ row_cells r es) (row_cells r es)) (ne_eqb e.0.0 r h)

none_of_row : (r : ℕ) (es : List (Place × ℕ)) → AllPlaces (λ p. r < p.0) es → row_cells r es ≡ []
none_of_row r [] h = refl
none_of_row r (e ∷ es) h = cell_of_other r e es (λ same. omega (arith, same, h.0)) ∙ none_of_row r es h.1

still_right : (e : Place × ℕ) (es : List (Place × ℕ)) (t : RowTally) → e.0.0 < t.row → IsRight es t → IsRight (e ∷ es) t
still_right e es t less h =
    let same : row_cells t.row (e ∷ es) ≡ row_cells t.row es =
    cell_of_other t.row e es (λ eq. omega (arith, eq, less)) in
    record {
      some = h.some;
      entries_are = h.entries_are ∙ ap length (sym same);
      total_is = h.total_is ∙ ap count_sum (sym same);
    }

all_still : (e : Place × ℕ) (es : List (Place × ℕ)) (ts : List RowTally) → AllByRecursion (λ t. e.0.0 < t.row) ts →
    AllByRecursion (IsRight es) ts → AllByRecursion (IsRight (e ∷ es)) ts
all_still e es [] above h = tt
all_still e es (t ∷ ts) above h = (still_right e es t above.0 h.0, all_still e es ts above.1 h.1)

first_right : (e : Place × ℕ) (es : List (Place × ℕ)) (u : RowTally) → u.row ≡ e.0.0 → IsRight es u →
    IsRight (e ∷ es) (tally e.0.0 (1 + u.entries) (e.1 + u.total))
first_right e es u same h =
    let cells : row_cells e.0.0 (e ∷ es) ≡ e ∷ row_cells e.0.0 es = cell_of_row e.0.0 e es refl in
    let here : row_cells u.row es ≡ row_cells e.0.0 es = ap (λ r. row_cells r es) same in
    record {
      some = omega arith;
      entries_are = omega (arith, h.entries_are, ap length here, ap length cells);
      total_is = omega (arith, h.total_is, ap count_sum here, ap count_sum cells);
    }

alone_right : (e : Place × ℕ) (es : List (Place × ℕ)) → row_cells e.0.0 es ≡ [] → IsRight (e ∷ es) (tally e.0.0 1 e.1)
alone_right e es none =
    let cells : row_cells e.0.0 (e ∷ es) ≡ e ∷ row_cells e.0.0 es = cell_of_row e.0.0 e es refl in
    record {
      some = omega arith;
      entries_are = omega (arith, ap length cells, ap length none);
      total_is = omega (arith, ap count_sum cells, ap count_sum none);
    }

joined_right : (e : Place × ℕ) (es : List (Place × ℕ)) (ts : List RowTally) → tallies es ≡ ts →
    AllPlaces (λ p. e.0.0 ≤ p.0) es → RowsRise ts → AllByRecursion (λ t. e.0.0 ≤ t.row) ts →
    AllByRecursion (IsRight es) ts → AllByRecursion (λ x. HasRow x.0.0 ts) es →
    AllByRecursion (IsRight (e ∷ es)) (joined (tally e.0.0 1 e.1) ts)
joined_right e es [] is places rise from right told =
    (alone_right e es (no_rows es told), tt)
  where
    no_rows : (xs : List (Place × ℕ)) → AllByRecursion (λ x. HasRow x.0.0 []) xs → row_cells e.0.0 xs ≡ []
    no_rows [] h = refl
    no_rows (x ∷ xs) h = absurd h.0
joined_right e es (u ∷ us) is places rise from right told = elim (cases_eq u.row e.0.0) [
  | inl same ↦
      subst (AllByRecursion (IsRight (e ∷ es))) (sym (same_row (tally e.0.0 1 e.1) u us same)) (
        first_right e es u same right.0,
        all_still e es us (weaker (λ t. u.row < t.row) (λ t. e.0.0 < t.row) (λ t h. omega (arith, h, same)) us rise.0)
            right.1,
      )
  | inr other ↦
      let less : e.0.0 < u.row = above from.0 other in
      let all_above : AllByRecursion (λ t. e.0.0 < t.row) (u ∷ us) =
      (less, weaker (λ t. u.row < t.row) (λ t. e.0.0 < t.row) (λ t h. omega (arith, h, less)) us rise.0) in
      subst (AllByRecursion (IsRight (e ∷ es))) (sym (other_row (tally e.0.0 1 e.1) u us other)) (
        alone_right e es (none_of_row e.0.0 es (places_above (u ∷ us) all_above es told)),
        all_still e es (u ∷ us) all_above right,
      )
]
  where
    above : e.0.0 ≤ u.row → (u.row ≡ e.0.0 → ⊥) → e.0.0 < u.row
    above le other = elim (cases_eq u.row e.0.0) [ inl same ↦ absurd (other same) | inr differ ↦ strictly le differ ]

    row_above : (r : ℕ) (ts : List RowTally) → AllByRecursion (λ t. e.0.0 < t.row) ts → HasRow r ts → e.0.0 < r
    row_above r [] all h = absurd h
    row_above r (t ∷ ts) all (inl same) = omega (arith, all.0, same)
    row_above r (t ∷ ts) all (inr h) = row_above r ts all.1 h

    places_above : (ts : List RowTally) → AllByRecursion (λ t. e.0.0 < t.row) ts → (xs : List (Place × ℕ)) →
        AllByRecursion (λ x. HasRow x.0.0 ts) xs → AllPlaces (λ p. e.0.0 < p.0) xs
    places_above ts all [] h = tt
    places_above ts all (x ∷ xs) h = (row_above x.0.0 ts all h.0, places_above ts all xs h.1)

-- the row of each cell is told
has_first : (t : RowTally) (ts : List RowTally) → HasRow t.row (joined t ts)
has_first t [] = inl refl
has_first t (u ∷ us) = elim (cases_eq u.row t.row) [
  | inl same ↦ subst (HasRow t.row) (sym (same_row t u us same)) (inl refl)
  | inr other ↦ subst (HasRow t.row) (sym (other_row t u us other)) (inl refl)
]

has_still : (r : ℕ) (t : RowTally) (ts : List RowTally) → HasRow r ts → HasRow r (joined t ts)
has_still r t [] h = absurd h
has_still r t (u ∷ us) h = elim (cases_eq u.row t.row) [
  | inl same ↦ subst (HasRow r) (sym (same_row t u us same)) (moved h same)
  | inr other ↦ subst (HasRow r) (sym (other_row t u us other)) (inr h)
]
  where
    moved : (u.row ≡ r) ⊎ HasRow r us → u.row ≡ t.row →
        HasRow r (tally t.row (t.entries + u.entries) (t.total + u.total) ∷ us)
    moved (inl is) same = inl (sym same ∙ is)
    moved (inr rest) same = inr rest

all_have_still : (t : RowTally) (ts : List RowTally) (xs : List (Place × ℕ)) →
    AllByRecursion (λ x. HasRow x.0.0 ts) xs → AllByRecursion (λ x. HasRow x.0.0 (joined t ts)) xs
all_have_still t ts [] h = tt
all_have_still t ts (x ∷ xs) h = (has_still x.0.0 t ts h.0, all_have_still t ts xs h.1)

pub rows_told : (es : List (Place × ℕ)) → AllByRecursion (λ e. HasRow e.0.0 (tallies es)) es
rows_told [] = tt
rows_told (e ∷ es) = (
  has_first (tally e.0.0 1 e.1) (tallies es),
  all_have_still (tally e.0.0 1 e.1) (tallies es) es (rows_told es),
)

pub right_of : (es : List (Place × ℕ)) → NeverFall es → AllByRecursion (IsRight es) (tallies es)
right_of [] h = tt
right_of (e ∷ es) h = joined_right e es (tallies es) refl h.0 (rise_of es h.1) (all_rows (λ r. e.0.0 ≤ r) es h.0)
    (right_of es h.1) (rows_told es)

pub rows_right : (es : List (Place × ℕ)) → T (is_sorted place_cmp es) → AllByRecursion (IsRight es) (tallies es)
rows_right es h = right_of es (never_fall es h)
