-- A walk over the cells of all pieces of a matrix, in order.
--     entries_left left   the entries of each piece that are still to come
--     entries_each ms     the entries of each of these matrices
--     AreParts s k ls es  each of these lists has exactly the entries of its shard of k, from shard s on
--     HasFirst e cells    the list begins with a cell of this entry
--     IsLater e cells     its first cell, if it has one, comes after this entry
--     merged ls           what these lists of entries come to together
--     IsWalk k ls         these lists are what is left of so many pieces of a matrix
--     Leads k n ls found first
--                         of the first n lists `first` is the one whose first entry comes before those of the others, and
--                         `found` its index: where e is the first of all entries, it is in that list, or not in these
use Rattle.std.specs.Borrow.{Bor}
use Rattle.std.specs.FinMap.{is_sorted, entries}
use Rattle.std.specs.Prelude.{◌≡◌, ℕ, ◌+◌, ◌%◌, ◌<◌, ◌≤◌, T, true, List, [], ◌∷◌, map, length, Option, None, Some, IfSome}
use Rattle.cells.specs.declared.cell.Cell.{Cell}
use Rattle.hyper_matrix.specs.Counts.{Place, built, place_cmp}
use Rattle.hyper_matrix.specs.Cells.{entry_of, place_of}
use Rattle.hyper_matrix.specs.Matrix.{Matrix}
use Rattle.hyper_matrix.specs.Parts.{part_entries}
use Rattle.hyper_matrix.specs.Search.{is_before}
use Rattle.layer_compaction.specs.Shared.{content}

abbrev pub entries_left : List (Bor (List Cell)) → List (List (Place × ℕ))
entries_left left = map (λ (cells : Bor (List Cell)). map entry_of cells.now) left

abbrev pub entries_each : List Matrix → List (List (Place × ℕ))
entries_each ms = map (λ (m : Matrix). entries m.counts) ms

abbrev pub AreParts : ℕ → ℕ → List (List (Place × ℕ)) → List (Place × ℕ) → Type 0
AreParts s k [] es = Unit {0}
AreParts s k (l ∷ ls) es = (l ≡ part_entries s k es) × AreParts (s + 1) k ls es

abbrev pub HasFirst : Place × ℕ → List Cell → Type 0
HasFirst e cells = (c : Cell) × (cs : List Cell) × (cells ≡ c ∷ cs) × (entry_of c ≡ e)

abbrev pub IsLater : Place × ℕ → List Cell → Type 0
IsLater e cells = (c : Cell) (cs : List Cell) → cells ≡ c ∷ cs → is_before e.0 (place_of c) ≡ true

pub record Leads (k n : ℕ) (ls : List (List (Place × ℕ))) (found : Option ℕ) (first : List Cell) : Type 0 where
  pub within : IfSome found (λ i. i < n)
  pub none : AreParts 0 k ls [] → (found ≡ None) × (first ≡ [])
  pub some : (e : Place × ℕ) (es : List (Place × ℕ)) → T (is_sorted place_cmp (e ∷ es)) → AreParts 0 k ls (e ∷ es) →
      (e.0.0 % k < n → (found ≡ Some (e.0.0 % k)) × HasFirst e first) × (n ≤ e.0.0 % k → IsLater e first)

abbrev pub merged : List (List (Place × ℕ)) → List (Place × ℕ)
merged ls = entries (content (map built ls))

abbrev pub IsWalk : ℕ → List (List (Place × ℕ)) → Type 0
IsWalk k ls = (0 < k) × (k ≤ 64) × (length ls ≡ k)
    × ((es : List (Place × ℕ)) × T (is_sorted place_cmp es) × AreParts 0 k ls es)
