-- Groups of rows, as one cell more is known of them.
use Rattle.std.proofs.Common.{◌≡◌, ℕ, ◌+◌, ◌/◌, ◌^◌, ◌<◌, ◌≤◌, Bool, true, false, not, cond, leb, T, List, [], ◌∷◌, ◌++◌}
use Rattle.std.proofs.Common.{Option, Some, None, refl, sym, ◌∙◌, ap, subst, inl, inr, arith, append_assoc}
use Rattle.std.specs.FinMap.{is_sorted}
use Rattle.std.specs.List.{AllByRecursion}
use Rattle.std.proofs.lemmas.Bool.{lt-leb, le-leb, and_from, and_left, cases_lt, false≢true}
use Rattle.std.proofs.lemmas.List.{append-nil}
use Rattle.std.proofs.Math.Pow.{shr_mono}
use Rattle.cells.specs.declared.cell.Cell.{Cell}
use Rattle.hyper_matrix.specs.Cells.{entry_of}
use Rattle.hyper_matrix.specs.Counts.{Place, place_cmp}
use Rattle.hyper_matrix.specs.Places.{Less, AllPlaces}
use Rattle.hyper_matrix.specs.Search.{is_before, cells_from}
use Rattle.hyper_matrix.proofs.CountLaws.{T_first, T_second}
use Rattle.hyper_matrix.proofs.PlaceOrderLaws.{all_map, to_all, place_less}
use Rattle.hyper_matrix.proofs.LookUpLaws.{before_is, before_row}
use Rattle.hyper_matrix.proofs.SkipLaws.{sorted_from}
use Rattle.cell_queries.specs.declared.groups.RowGroups.{RowGroups}
use Rattle.cell_queries.specs.declared.range.Span.{Span}
use Rattle.cell_queries.specs.declared.tally.RowTally.{RowTally}
use Rattle.cell_queries.specs.declared.top.TopBy.{TopBy}
use Rattle.cell_queries.specs.Gathering.{Gathers}
use Rattle.cell_queries.specs.Heaps.{Leading, AreLed}
use Rattle.cell_queries.specs.Groups.{in_group, grouped, IsFrom, opened}
use Rattle.cell_queries.specs.Ranges.{is_in_span}
use Rattle.cell_queries.specs.Rows.{IsRight, RowsRise}
use Rattle.cell_queries.specs.Tallies.{tally, joined, tallies}
use Rattle.cell_queries.proofs.RangeLaws.{behind_span}
use Rattle.cell_queries.proofs.RowLaws.{NeverFall, never_fall, rise_of, right_of}
use Rattle.cell_queries.proofs.TallyLaws.{joined_more, joined_other}

in_span : (s : Span) (n : ℕ) → s.first ≤ n → n ≤ s.last → is_in_span s n ≡ true
in_span s n from to = and_from (leb s.first n) (leb n s.last) (le-leb s.first n from) (le-leb n s.last to)

before_span : (s : Span) (n : ℕ) → n < s.first → is_in_span s n ≡ false
before_span s n h = and_left (leb s.first n) (leb n s.last) (lt-leb s.first n h)

-- a cell of these rows, and one of others
first_grouped : (g : RowGroups) (e : Place × ℕ) (es : List (Place × ℕ)) → is_in_span g.rows e.0.0 ≡ true →
    grouped g (e ∷ es) ≡ in_group g.shift e ∷ grouped g es
first_grouped g e es h = ap (λ b. cond b (in_group g.shift e ∷ grouped g es) (grouped g es)) h

first_left_out : (g : RowGroups) (e : Place × ℕ) (es : List (Place × ℕ)) → is_in_span g.rows e.0.0 ≡ false →
    grouped g (e ∷ es) ≡ grouped g es
first_left_out g e es h = ap (λ b. cond b (in_group g.shift e ∷ grouped g es) (grouped g es)) h

none_after : (g : RowGroups) (es : List (Place × ℕ)) → AllPlaces (λ p. g.rows.last < p.0) es → grouped g es ≡ []
none_after g [] h = refl
none_after g (e ∷ es) h = first_left_out g e es (behind_span g.rows e.0.0 h.0) ∙ none_after g es h.1

-- nothing is left of these rows where a cell after the last one comes
pub ends_after : (g : RowGroups) (es rest : List (Place × ℕ)) (e : Place × ℕ) → es ≡ e ∷ rest →
    IsFrom g.rows.first es → g.rows.last < e.0.0 → grouped g es ≡ []
ends_after g es rest e is from past = ap (grouped g) is ∙ none_after g (e ∷ rest) (
  past,
  all_map (Less e.0) (λ p. g.rows.last < p.0) further rest (to_all e.0 rest (T_first _ _ sorted)),
)
  where
    sorted : T (is_sorted place_cmp (e ∷ rest))
    sorted = subst (λ (l : List (Place × ℕ)). T (is_sorted place_cmp l)) is from.order

    further : (p : Place) → Less e.0 p → g.rows.last < p.0
    further p less = elim (place_less e.0 p less) [ inl a ↦ omega (arith, past) | inr b ↦ omega (arith, past, b.0) ]

pub from_rest : (row : ℕ) (es rest : List (Place × ℕ)) (e : Place × ℕ) → es ≡ e ∷ rest → IsFrom row es → IsFrom row rest
from_rest row es rest e is h = record {
  order = T_second _ _ (subst (λ (l : List (Place × ℕ)). T (is_sorted place_cmp l)) is h.order);
  from = (subst (AllPlaces (λ p. row ≤ p.0)) is h.from).1;
}

-- the next cell of these rows
pub next_is : (g : RowGroups) (es rest : List (Place × ℕ)) (e : Place × ℕ) (cell : Cell) → es ≡ e ∷ rest →
    IsFrom g.rows.first es → e.0.0 ≤ g.rows.last → entry_of cell ≡ in_group g.shift e →
    grouped g es ≡ entry_of cell ∷ grouped g rest
next_is g es rest e cell is from to same =
    ap (grouped g) is
    ∙ first_grouped g e rest (in_span g.rows e.0.0 (subst (AllPlaces (λ p. g.rows.first ≤ p.0)) is from.from).0 to)
    ∙ ap (λ f. f ∷ grouped g rest) (sym same)

-- what a skip to the first row leaves
pub grouped_skipped : (g : RowGroups) (es : List (Place × ℕ)) →
    grouped g (cells_from (g.rows.first, 0) es) ≡ grouped g es
grouped_skipped g [] = refl
grouped_skipped g (x ∷ es) = elim (is_before x.0 (g.rows.first, 0)) as
    (λ t. is_before x.0 (g.rows.first, 0) ≡ t → grouped g (cells_from (g.rows.first, 0) (x ∷ es)) ≡ grouped g (x ∷ es)) [
      | true ↦ λ b.
          ap (λ t. grouped g (cond (not t) (x ∷ cells_from (g.rows.first, 0) es) (cells_from (g.rows.first, 0) es))) b
          ∙ grouped_skipped g es ∙ sym (first_left_out g x es (before_span g.rows x.0.0 (below b)))
      | false ↦ λ b.
          ap (λ t. grouped g (cond (not t) (x ∷ cells_from (g.rows.first, 0) es) (cells_from (g.rows.first, 0) es))) b
          ∙ ap (λ (l : List (Place × ℕ)). cond (is_in_span g.rows x.0.0) (in_group g.shift x ∷ l) l)
          (grouped_skipped g es)
    ] refl
  where
    below : is_before x.0 (g.rows.first, 0) ≡ true → x.0.0 < g.rows.first
    below b = elim (before_is x.0 (g.rows.first, 0) b) [ inl less ↦ less | inr same ↦ absurd (omega (arith, same.1)) ]

all_from : (row : ℕ) (es : List (Place × ℕ)) → AllPlaces (λ p. row ≤ p.0) (cells_from (row, 0) es)
all_from row [] = tt
all_from row (x ∷ es) = elim (is_before x.0 (row, 0)) as
    (λ t. is_before x.0 (row, 0) ≡ t → AllPlaces (λ p. row ≤ p.0) (cond (not t) (x ∷ cells_from (row, 0) es)
    (cells_from (row, 0) es))) [
      | true ↦ λ b. all_from row es
      | false ↦ λ b. (above b, all_from row es)
    ] refl
  where
    above : is_before x.0 (row, 0) ≡ false → row ≤ x.0.0
    above b = elim (cases_lt x.0.0 row) [
      | inl less ↦ absurd (false≢true (sym b ∙ before_row x.0.0 x.0.1 row 0 less))
      | inr le ↦ le
    ]

pub from_skipped : (row : ℕ) (es : List (Place × ℕ)) → T (is_sorted place_cmp es) → IsFrom row (cells_from (row, 0) es)
from_skipped row es sorted = record { order = sorted_from (row, 0) es sorted; from = all_from row es }

-- a cell is taken into a group
pub opens : (cell : Cell) (next : RowTally) → next ≡ tally cell.row 1 cell.count → (ts : List RowTally) →
    joined (tally cell.row 1 cell.count) ts ≡ joined next ts
opens cell next is ts = ap (λ t. joined t ts) (sym is)

pub goes_on : (t next : RowTally) (cell : Cell) → t.row ≡ cell.row →
    next ≡ tally t.row (t.entries + 1) (t.total + cell.count) → (ts : List RowTally) →
    joined t (joined (tally cell.row 1 cell.count) ts) ≡ joined next ts
goes_on t next cell same is ts =
    ap (λ r. joined t (joined (tally r 1 cell.count) ts)) (sym same)
    ∙ joined_more t.row t.entries t.total cell.count ts ∙ ap (λ u. joined u ts) (sym is)

pub begins_next : (t next : RowTally) (cell : Cell) → (t.row ≡ cell.row → ⊥) → next ≡ tally cell.row 1 cell.count →
    (ts : List RowTally) → joined t (joined (tally cell.row 1 cell.count) ts) ≡ t ∷ joined next ts
begins_next t next cell other is ts =
    joined_other t cell.row cell.count ts (λ same. other (sym same)) ∙ ap (λ u. t ∷ joined u ts) (sym is)

-- the groups of all cells, as a cell more is taken
pub groups_more : (before now : List RowTally) (current : Option RowTally) (cell : Cell) (next : RowTally)
    (es news : List (Place × ℕ)) (all : List RowTally) → before ++ opened current (tallies es) ≡ all →
    es ≡ entry_of cell ∷ news →
    ((ts : List RowTally) → opened current (joined (tally cell.row 1 cell.count) ts) ≡ now ++ joined next ts) →
    (before ++ now) ++ opened (Some next) (tallies news) ≡ all
groups_more before now current cell next es news all told is whole =
    append_assoc before now (joined next (tallies news))
    ∙ ap (λ ts. before ++ ts) (sym (whole (tallies news)) ∙ ap (λ xs. opened current (tallies xs)) (sym is)) ∙ told

-- and where none is left
pub groups_end : (before : List RowTally) (current : Option RowTally) (t : RowTally) (es : List (Place × ℕ))
    (rows all : List RowTally) → current ≡ Some t → before ++ opened current (tallies es) ≡ all → es ≡ [] →
    (rows ++ before) ++ t ∷ [] ≡ rows ++ all
groups_end before current t es rows all one told is =
    append_assoc rows before (t ∷ [])
    ∙ ap (λ ts. rows ++ ts) (ap (λ xs. before ++ joined t (tallies xs)) (sym is)
    ∙ ap (λ o. before ++ opened o (tallies es)) (sym one) ∙ told)

pub no_group : (before : List RowTally) (current : Option RowTally) (es : List (Place × ℕ)) (rows all : List RowTally) →
    current ≡ None → before ++ opened current (tallies es) ≡ all → es ≡ [] → rows ++ before ≡ rows ++ all
no_group before current es rows all none told is =
    ap (λ ts. rows ++ ts) (sym (append-nil before) ∙ ap (λ xs. before ++ tallies xs) (sym is)
    ∙ ap (λ o. before ++ opened o (tallies es)) (sym none) ∙ told)

-- what a call of `gather` does
pub gathers_more : (l : Leading) (current : Option RowTally) (group next : RowTally) (cell : Cell) →
    current ≡ Some group → group.row ≡ cell.row → next ≡ tally group.row (group.entries + 1) (group.total + cell.count) →
    Gathers l l current cell next
gathers_more l current group next cell one same is = record {
  done = [];
  led = λ by most rows led. subst (λ (ts : List RowTally). AreLed by most ts l) (sym (append-nil rows)) led;
  whole = λ ts.
      ap (λ o. opened o (joined (tally cell.row 1 cell.count) ts)) one ∙ goes_on group next cell same is ts;
}

pub gathers_next : (old new : Leading) (current : Option RowTally) (group next : RowTally) (cell : Cell) →
    current ≡ Some group → (group.row ≡ cell.row → ⊥) →
    ((by : TopBy) (most : ℕ) (rows : List RowTally) → AreLed by most rows old →
    AreLed by most (rows ++ group ∷ []) new) → next ≡ tally cell.row 1 cell.count → Gathers old new current cell next
gathers_next old new current group next cell one other offered is = record {
  done = group ∷ [];
  led = offered;
  whole = λ ts.
      ap (λ o. opened o (joined (tally cell.row 1 cell.count) ts)) one ∙ begins_next group next cell other is ts;
}

-- the groups rise, and each has exactly its cells
all_grouped : (g : RowGroups) (row : ℕ) (es : List (Place × ℕ)) → AllPlaces (λ p. row ≤ p.0) es →
    AllPlaces (λ p. row / 2 ^ g.shift ≤ p.0) (grouped g es)
all_grouped g row [] h = tt
all_grouped g row (e ∷ es) h = elim (is_in_span g.rows e.0.0) as
    (λ b. AllPlaces (λ p. row / 2 ^ g.shift ≤ p.0) (cond b (in_group g.shift e ∷ grouped g es) (grouped g es))) [
      | true ↦ (shr_mono g.shift h.0, all_grouped g row es h.1)
      | false ↦ all_grouped g row es h.1
    ]

groups_never_fall : (g : RowGroups) (es : List (Place × ℕ)) → NeverFall es → NeverFall (grouped g es)
groups_never_fall g [] h = tt
groups_never_fall g (e ∷ es) h = elim (is_in_span g.rows e.0.0) as
    (λ b. NeverFall (cond b (in_group g.shift e ∷ grouped g es) (grouped g es))) [
      | true ↦ (all_grouped g e.0.0 es h.0, groups_never_fall g es h.1)
      | false ↦ groups_never_fall g es h.1
    ]

pub groups_rise : (g : RowGroups) (es : List (Place × ℕ)) → T (is_sorted place_cmp es) →
    RowsRise (tallies (grouped g es))
groups_rise g es sorted = rise_of (grouped g es) (groups_never_fall g es (never_fall es sorted))

pub groups_right : (g : RowGroups) (es : List (Place × ℕ)) → T (is_sorted place_cmp es) →
    AllByRecursion (IsRight (grouped g es)) (tallies (grouped g es))
groups_right g es sorted = right_of (grouped g es) (groups_never_fall g es (never_fall es sorted))
