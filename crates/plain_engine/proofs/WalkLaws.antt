-- A way through the cells of a sum: it begins with nothing added, and its list builds the sum.
use Rattle.std.proofs.Common.{◌≡◌, ℕ, List, [], ◌∷◌, ◌++◌, length, map, append_assoc, sym, ◌∙◌, ap, subst, refl, arith}
use Rattle.std.proofs.lemmas.List.{append-nil, map-append}
use Rattle.std.specs.FinMap.{empty, entries, entries_sorted, len-entries, len-empty, get-from_entries, get-entries}
use Rattle.cells.specs.declared.cell.Cell.{Cell}
use Rattle.hyper_matrix.specs.Counts.{Place, place_cmp, Counts, built}
use Rattle.hyper_matrix.specs.Cells.{entry_of, built_of}
use Rattle.hyper_matrix.proofs.CountLaws.{places_total, same_counts}
use Rattle.hyper_matrix.proofs.SortedListLaws.{built-in_order}
use Rattle.merged_cells.specs.Within.{LieWithin}
use Rattle.hyper_matrix.specs.Shared.{LiesWithin}
use Rattle.std.specs.List.{AllByRecursion}

pub no_items : {X : Type 0} (xs : List X) → length xs ≡ 0 → xs ≡ []
no_items [] e = refl
no_items (x ∷ xs) e = absurd (omega arith)

pub none_within : (rows cols : ℕ) (m : Counts) → m ≡ empty → LieWithin rows cols m
none_within rows cols m is =
    let none : entries m ≡ [] = no_items (entries m) (ap (λ (n : Counts). length (entries n)) is
    ∙ sym (len-entries empty) ∙ len-empty place_cmp ℕ) in
    subst (AllByRecursion (LiesWithin rows cols)) (sym none) tt

-- a list of a map's entries builds the map
pub built_listed : (cells : List Cell) (m : Counts) → map entry_of cells ≡ entries m → built_of cells ≡ m
built_listed cells m is =
    ap built is ∙ built-in_order (entries m) (entries_sorted m)
    ∙ same_counts _ _ (λ q. get-from_entries places_total (entries m) q ∙ sym (get-entries m q))

-- one cell more is in the list, and one less is left
pub listed_next : (old new : List Cell) (cell : Cell) (left rest all : List (Place × ℕ)) → new ≡ old ++ cell ∷ [] →
    left ≡ entry_of cell ∷ rest → map entry_of old ++ left ≡ all → map entry_of new ++ rest ≡ all
listed_next old new cell left rest all pushed step told =
    ap (λ (cs : List Cell). map entry_of cs ++ rest) pushed
    ∙ ap (λ (es : List (Place × ℕ)). es ++ rest) (map-append entry_of old (cell ∷ []))
    ∙ append_assoc (map entry_of old) (entry_of cell ∷ []) rest
    ∙ ap (λ (es : List (Place × ℕ)). map entry_of old ++ es) (sym step) ∙ told

-- at the end all cells are in the list
pub listed_all : (cells : List Cell) (left all : List (Place × ℕ)) → left ≡ [] → map entry_of cells ++ left ≡ all →
    map entry_of cells ≡ all
listed_all cells left all none told =
    sym (append-nil (map entry_of cells)) ∙ ap (λ (es : List (Place × ℕ)). map entry_of cells ++ es) (sym none) ∙ told
