-- Cells as bytes, and what the cells of a PutCells lead to.
use Rattle.std.proofs.Common.{◌≡◌, ℕ, zero, suc, ◌+◌, ◌*◌, ◌/◌, ◌<◌, ◌^◌, List, [], ◌∷◌, ◌++◌, length, map, refl}
use Rattle.std.proofs.Common.{sym, ◌∙◌, ap, arith, length-append}
use Rattle.std.proofs.Common.{subst}
use Rattle.std.specs.Prelude.{All, flat_map}
use Rattle.std.specs.List.{range_with_len}
use Rattle.std.proofs.lemmas.List.{drop_at, drop-drop}
use Rattle.std.proofs.lemmas.List.Elements.{All-head, All-tail}
use Rattle.std.proofs.lemmas.List.FromFn.{length-map-range_with_len, map-range_with_len_more}
use Rattle.cells.specs.declared.cell.Cell.{Cell}
use Rattle.batch_store.specs.Setups.{Setting}
use Rattle.batch_store.specs.Lists.{RefusesList}
use Rattle.batch_store.specs.declared.fault.CellsFault.{CellsFault}
use Rattle.batch_store.specs.declared.fault.CellsFault.TheVariants.{IndexOutOfRange}
use Rattle.wire_proto.specs.CellBytes.{cell_at, cells_of, cell_bytes, spelled_cells, FitsBytes}
use Rattle.wire_frames.specs.Frames.{number, number_at}
use Rattle.wire_proto.specs.Answering.{RefusesCells, too_many, outside}
use Rattle.std.proofs.lemmas.Nat.{from_be_bytes-to_be_bytes_8}

-- the cells of the first 24 * n bytes
abbrev pub first_cells : ℕ → List ℕ → List Cell
first_cells n bytes = map (λ k. cell_at (24 * k) bytes) (range_with_len 0 n)

pub cells_are : (bytes : List ℕ) (n : ℕ) → n ≡ length bytes / 24 → first_cells n bytes ≡ cells_of bytes
unfolding cells_of
cells_are bytes n e = ap (λ m. first_cells m bytes) e

pub next_cell : (bytes : List ℕ) (n : ℕ) (list : List Cell) (cell : Cell) → list ≡ first_cells n bytes →
    cell ≡ cell_at (24 * n) bytes → list ++ cell ∷ [] ≡ first_cells (n + 1) bytes
next_cell bytes n list cell e f =
    ap (λ l. l ++ cell ∷ []) e ∙ ap (λ c. first_cells n bytes ++ c ∷ []) f ∙
    sym (map-range_with_len_more (λ k. cell_at (24 * k) bytes) 0 n n (omega arith))

pub cells_counted : (bytes : List ℕ) → length (cells_of bytes) ≡ length bytes / 24
unfolding cells_of
cells_counted bytes = length-map-range_with_len (λ k. cell_at (24 * k) bytes) 0 (length bytes / 24)

-- ---- refusals of what a body spells
pub too_many_cells : (v : Setting) (body : List ℕ) (n : ℕ) → n ≡ length body → 1048576 < n / 24 →
    RefusesCells v body 23 0
too_many_cells v body n e h = too_many (omega (arith, e, h, cells_counted body)) refl refl

pub cell_outside : (v : Setting) (body : List ℕ) (list : List Cell) (f : CellsFault) (at : ℕ) → RefusesList v list f →
    f ≡ IndexOutOfRange at → list ≡ cells_of body → RefusesCells v body 22 at
cell_outside v body list f at h is same = outside at
    (subst (λ l. RefusesList v l (IndexOutOfRange at)) same (subst (RefusesList v list) is h)) refl refl

-- ---- what a list of cells spells is read again
number_behind : (front rest : List ℕ) (place : ℕ) → number_at (length front + place) (front ++ rest) ≡
    number_at place rest
unfolding number_at
number_behind front rest place = rw (← drop-drop place (length front) (front ++ rest))
    (rw (drop_at front rest (length front) refl) refl)

cell_length : (cell : Cell) → length (cell_bytes cell) ≡ 24
unfolding number
cell_length cell = refl

cell_behind : (cell : Cell) (rest : List ℕ) (place : ℕ) → cell_at (24 + place) (cell_bytes cell ++ rest) ≡
    cell_at place rest
cell_behind cell rest place =
    let at : (n : ℕ) → number_at (24 + n) (cell_bytes cell ++ rest) ≡ number_at n rest =
    λ n. ap (λ m. number_at (m + n) (cell_bytes cell ++ rest)) (sym (cell_length cell)) ∙
    number_behind (cell_bytes cell) rest n in
    let row = at place in let col = at (place + 8) in let count = at (place + 16) in
    let one : 24 + place + 8 ≡ 24 + (place + 8) = omega arith in
    let two : 24 + place + 16 ≡ 24 + (place + 16) = omega arith in
    rw (one, two, row, col, count) refl

third : (a b c : ℕ) (rest : List ℕ) → c < 2 ^ 64 → number_at 16 (number a ++ number b ++ number c ++ rest) ≡ c
unfolding number_at number
third a b c rest h = from_be_bytes-to_be_bytes_8 c h

second : (a b c : ℕ) (rest : List ℕ) → b < 2 ^ 64 → number_at 8 (number a ++ number b ++ number c ++ rest) ≡ b
unfolding number_at number
second a b c rest h = from_be_bytes-to_be_bytes_8 b h

first : (a b c : ℕ) (rest : List ℕ) → a < 2 ^ 64 → number_at 0 (number a ++ number b ++ number c ++ rest) ≡ a
unfolding number_at number
first a b c rest h = from_be_bytes-to_be_bytes_8 a h

cell_first : (cell : Cell) (rest : List ℕ) → FitsBytes cell → cell_at 0 (cell_bytes cell ++ rest) ≡ cell
cell_first cell rest h =
    let row = first cell.row cell.col cell.count rest h.0 in
    let col = second cell.row cell.col cell.count rest h.1 in
    let count = third cell.row cell.col cell.count rest h.2 in
    rw (row, col, count) refl

-- functions of places that agree
same_map : {X : Type 0} (f g : ℕ → X) (a b n : ℕ) → ((k : ℕ) → f (a + k) ≡ g (b + k)) →
    map f (range_with_len a n) ≡ map g (range_with_len b n)
same_map f g a b zero h = refl
same_map f g a b (suc n) h =
    let here : f a ≡ g b = ap f {x = a} {y = a + 0} (omega arith) ∙ h 0 ∙ ap g {x = b + 0} {y = b} (omega arith) in
    let there = same_map f g (a + 1) (b + 1) n
    (λ k. ap f {x = a + 1 + k} {y = a + (k + 1)} (omega arith) ∙ h (k + 1) ∙
    ap g {x = b + (k + 1)} {y = b + 1 + k} (omega arith)) in
    ap (λ x. x ∷ map f (range_with_len (a + 1) n)) here ∙ ap (λ xs. g b ∷ xs) there

one_more : (cell : Cell) (rest : List ℕ) → FitsBytes cell →
    cells_of (cell_bytes cell ++ rest) ≡ cell ∷ cells_of rest
unfolding cells_of
one_more cell rest h =
    let bytes = cell_bytes cell ++ rest in
    let count : length bytes / 24 ≡ suc (length rest / 24) = omega (
      arith,
      length-append (cell_bytes cell) rest,
      cell_length cell,
    ) in
    let tail = same_map (λ k. cell_at (24 * k) bytes) (λ k. cell_at (24 * k) rest) 1 0 (length rest / 24)
    (λ k. ap (λ p. cell_at p bytes) {x = 24 * (1 + k)} {y = 24 + 24 * (0 + k)} (omega arith) ∙
    cell_behind cell rest (24 * (0 + k))) in
    ap (λ n. map (λ k. cell_at (24 * k) bytes) (range_with_len 0 n)) count ∙
    ap (λ c. c ∷ map (λ k. cell_at (24 * k) bytes) (range_with_len 1 (length rest / 24))) (cell_first cell rest h) ∙
    ap (λ cs. cell ∷ cs) tail

pub read_again : (cells : List Cell) → All FitsBytes cells → cells_of (spelled_cells cells) ≡ cells
unfolding spelled_cells cells_of
read_again [] h = refl
read_again (cell ∷ cells) h =
    one_more cell (flat_map cell_bytes cells) (All-head FitsBytes cell cells h) ∙
    ap (λ cs. cell ∷ cs) (read_again cells (All-tail FitsBytes cell cells h))
