-- Replies that tell cells or rows, and how long they are.
use Rattle.std.proofs.Common.{◌≡◌, ℕ, ◌+◌, ◌*◌, ◌≤◌, ◌^◌, Bool, List, [], ◌∷◌, ◌++◌, length, map, take, refl, sym, ◌∙◌, ap, arith}
use Rattle.std.proofs.Common.{length-append}
use Rattle.std.specs.Prelude.{flat_map}
use Rattle.std.proofs.Common.{true, false, IsTrue, ◌↔◌, ◌<◌, ltb, inl, inr}
use Rattle.std.specs.FinMap.{entries}
use Rattle.std.proofs.Math.Nat.{min-le_left}
use Rattle.std.proofs.lemmas.Bool.{cases_lt, lt-ltb, le-ltb}
use Rattle.std.proofs.lemmas.List.{append_assoc, take_all, length-take}
use Rattle.std.proofs.lemmas.List.Concat.{flat_map-cons}
use Rattle.std.proofs.lemmas.List.Folds.{flat_map-map}
use Rattle.cells.specs.declared.cell.Cell.{Cell}
use Rattle.hyper_matrix.specs.Counts.{Place}
use Rattle.hyper_matrix.specs.Cells.{entry_of}
use Rattle.hyper_matrix.specs.Matrix.{Matrix}
use Rattle.cell_queries.specs.Ranges.{cells_in, page_of}
use Rattle.cell_queries.specs.Tops.{IsTop}
use Rattle.cell_queries.specs.declared.range.CellRange.{CellRange}
use Rattle.cell_queries.specs.declared.tally.RowTally.{RowTally}
use Rattle.cell_queries.specs.declared.top.TopBy.{TopBy}
use Rattle.wire_frames.specs.Frames.{frame, head_bytes, number}
use Rattle.wire_proto.specs.Questions.{entry_bytes, row_bytes, more_byte, cells_reply, rows_reply, range_reply}

flat_length : {X : Type 0} (f : X → List ℕ) → ((x : X) → length (f x) ≡ 24) → (xs : List X) →
    length (flat_map f xs) ≡ 24 * length xs
flat_length f h [] = refl
flat_length f h (x ∷ xs) =
    let a = ap length (flat_map-cons f x xs) in let b = length-append (f x) (flat_map f xs) in let c = h x in
    let d = flat_length f h xs in omega (arith, a, b, c, d)

entry_length : (e : Place × ℕ) → length (entry_bytes e) ≡ 24
unfolding number
entry_length e = refl

row_length : (t : RowTally) → length (row_bytes t) ≡ 24
unfolding number
row_length t = refl

-- all cells were appended
pub cells_pushed : (old : List ℕ) (cells : List Cell) (n : ℕ) → length cells ≤ n →
    old ++ flat_map (λ cell. entry_bytes (entry_of cell)) (take n cells) ≡
    old ++ flat_map entry_bytes (map entry_of cells)
cells_pushed old cells n h =
    ap (λ l. old ++ flat_map (λ cell. entry_bytes (entry_of cell)) l) (take_all n cells h) ∙
    ap (λ l. old ++ l) (sym (flat_map-map entry_bytes entry_of cells))

-- a reply, made of its parts
pub cells_made : (more : Bool) (es : List (Place × ℕ)) (n : ℕ) (head one all : List ℕ) → n ≡ 1 + 24 * length es →
    head ≡ head_bytes 136 n → one ≡ head ++ more_byte more ∷ [] → all ≡ one ++ flat_map entry_bytes es →
    all ≡ cells_reply more es
unfolding frame
cells_made more es n head one all size a b c =
    let f = flat_map entry_bytes es in
    let len = flat_length entry_bytes entry_length es in
    c ∙ ap (λ l. l ++ f) b ∙ append_assoc head (more_byte more ∷ []) f ∙ ap (λ l. l ++ more_byte more ∷ f) a ∙
    ap (λ m. head_bytes 136 m ++ more_byte more ∷ f) (omega (arith, size, len))

pub rows_made : (ts : List RowTally) (n : ℕ) (head all : List ℕ) → n ≡ 24 * length ts → head ≡ head_bytes 137 n →
    all ≡ head ++ flat_map row_bytes ts → all ≡ rows_reply ts
unfolding frame
rows_made ts n head all size a b =
    let len = flat_length row_bytes row_length ts in
    b ∙ ap (λ l. l ++ flat_map row_bytes ts) a ∙
    ap (λ m. head_bytes 137 m ++ flat_map row_bytes ts) (omega (arith, size, len))

frame_length : (kind : ℕ) (body : List ℕ) → length (frame kind body) ≡ 5 + length body
unfolding frame head_bytes
frame_length kind body = omega arith

pub cells_short : (more : Bool) (es : List (Place × ℕ)) → length es ≤ 1000000 →
    length (cells_reply more es) ≤ 2 ^ 27
cells_short more es h =
    let a = frame_length 136 (more_byte more ∷ flat_map entry_bytes es) in
    let b = flat_length entry_bytes entry_length es in omega (arith, a, b, h)

pub rows_short : (ts : List RowTally) → length ts ≤ 1000000 → length (rows_reply ts) ≤ 2 ^ 27
rows_short ts h =
    let a = frame_length 137 (flat_map row_bytes ts) in
    let b = flat_length row_bytes row_length ts in omega (arith, a, b, h)

-- ---- what a page and a top come to
more_is : (b : Bool) (m n : ℕ) → (IsTrue b ↔ (m < n)) → b ≡ ltb m n
more_is true m n h = sym (lt-ltb m n (h.0 refl))
more_is false m n h = elim (cases_lt m n) [
  | inl less ↦ absurd (let t = h.1 less in cc)
  | inr le ↦ sym (le-ltb m n le)
]

pub range_made : (r : CellRange) (most : ℕ) (m : Matrix) (more : Bool) (cells : List (Place × ℕ)) (bytes : List ℕ) →
    cells ≡ page_of r most (entries m.counts) →
    (IsTrue more ↔ (most < length (cells_in r (entries m.counts)))) → bytes ≡ cells_reply more cells →
    bytes ≡ range_reply r most m
range_made r most m more cells bytes a b c =
    c ∙ ap (λ x. cells_reply x cells) (more_is more most (length (cells_in r (entries m.counts))) b) ∙
    ap (cells_reply (ltb most (length (cells_in r (entries m.counts))))) a

pub page_few : (r : CellRange) (most : ℕ) (es cells : List (Place × ℕ)) → cells ≡ page_of r most es →
    length cells ≤ most
page_few r most es cells a =
    let e = ap length a ∙ length-take most (cells_in r es) in
    let low = min-le_left most (length (cells_in r es)) in omega (arith, e, low)

pub top_few : (by : TopBy) (most : ℕ) (rows top : List RowTally) → IsTop by most rows top → length top ≤ most
top_few by most rows top h =
    let low = min-le_left most (length rows) in let e = h.long in omega (arith, e, low)

-- lines behind their head
pub lines_made : (text front out : List ℕ) → front ≡ head_bytes 138 (length text) → out ≡ front ++ text →
    out ≡ frame 138 text
unfolding frame
lines_made text front out h e = e ∙ ap (λ l. l ++ text) h

pub lines_short : (text out : List ℕ) → length text ≤ 67108864 → out ≡ frame 138 text → length out ≤ 134217728
lines_short text out short e = let a = frame_length 138 text in let b = ap length e in omega (arith, a, b, short)
