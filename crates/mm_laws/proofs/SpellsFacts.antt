-- What a text spells is a matrix: its dimensions, its cells within them, and counts of 64 bits.
use Rattle.std.proofs.Common.{◌≡◌, ℕ, ◌^◌, ◌<◌, ◌≤◌, Bool, true, false, not, ◌&&◌, cond, List, [], ◌∷◌, length, refl}
use Rattle.std.proofs.Common.{subst, arith}
use Rattle.std.proofs.lemmas.Bool.Decides.{nat_tests}
use Rattle.std.proofs.lemmas.List.Elements.{All-nil, All-cons, All-append}
use Rattle.std.specs.Prelude.{Option, Some, None, Result, Ok, Err, map, flat_map, drop, nat_lt, nat_eq, All}
use Rattle.mm_text.specs.Words.{words, word, has_word, number_of, is_negative}
use Rattle.mm_text.specs.Judging.{◌>>=◌, refuse_if, number, is_dimension, size, index, entry, cells_of}
use Rattle.mm_text.specs.Texts.{Spells}
use Rattle.cells.specs.Bounds.{IsDimension, IsWithin, AreWithin}
use Rattle.mm_text.specs.declared.fault.MmKind.{MmKind}
use Rattle.mm_text.specs.declared.fault.MmKind.TheVariants.{BadSize, BadDimension, NotSquare, TooManyEntries, BadEntry}
use Rattle.mm_text.specs.declared.fault.MmKind.TheVariants.{Negative, NumberTooLarge}
use Rattle.cells.specs.declared.cell.Cell.{Cell}
use Rattle.mm_text.specs.declared.size.Size.{Size}
use Rattle.mm_text.specs.declared.limits.TextLimits.{TextLimits}
use Rattle.mm_text.proofs.BoundLemmas.{square_of, dimension_of, index_below, ok_bind}

-- and where that step is a refusal, its test failed
pub refuse_first : {B : Type 0} (test : Bool) (k : MmKind) (f : Unit {0} → Result B MmKind) (y : B) →
    (refuse_if test k >>= f) ≡ Ok y → (test ≡ false) × (f tt ≡ Ok y)
refuse_first true k f y e = cc
refuse_first false k f y e = (refl, e)

pub number_bound : (bad : MmKind) (w : List ℕ) (n : ℕ) → number bad w ≡ Ok n → n < 2 ^ 64
unfolding number
number_bound bad w n e = by_value (number_of w) refl
  where
    fits : (m : ℕ) (b : Bool) → nat_lt m (2 ^ 64) ≡ b →
        ◌≡◌ {A = Result ℕ MmKind} (cond b (Ok m) (Err NumberTooLarge)) (Ok n) → n < 2 ^ 64
    fits m true t f = grind (arith, nat_tests)
    fits m false t f = cc

    by_value : (o : Option ℕ) → number_of w ≡ o → n < 2 ^ 64
    by_value None h = let f = rw h at e in cc
    by_value (Some m) h = let f = rw h at e in fits m (nat_lt m (2 ^ 64)) refl f

-- an entry is a cell within the dimensions, with a count of 64 bits
pub entry_within : (rows cols : ℕ) (line : List ℕ) (cell : Cell) → entry rows cols line ≡ Ok cell →
    IsWithin rows cols cell × (cell.count < 2 ^ 64)
unfolding entry
entry_within rows cols line cell e =
    let r = ok_bind (index rows (word (words line))) _ cell e in
    let c = ok_bind (index cols (word (drop 1 (words line)))) _ cell r.2 in
    let n = refuse_first (is_negative (word (drop 2 (words line)))) Negative _ cell c.2 in
    let k = ok_bind (number BadEntry (word (drop 2 (words line)))) _ cell n.1 in
    let m = refuse_first (has_word (drop 3 (words line))) BadEntry _ cell k.2 in
    let is : ◌≡◌ {A = Cell} (record { row = r.0; col = c.0; count = k.0 }) cell = let f = m.1 in cc in
    subst (λ x. IsWithin rows cols x × (x.count < 2 ^ 64)) is (
      (index_below rows (word (words line)) r.0 r.1, index_below cols (word (drop 1 (words line))) c.0 c.1),
      number_bound BadEntry (word (drop 2 (words line))) k.0 k.1,
    )

-- a size line declares dimensions, and equal ones where the banner says symmetric
pub size_bounds : (symmetric : Bool) (most : ℕ) (line : List ℕ) (s : Size) → size symmetric most line ≡ Ok s →
    IsDimension s.rows × IsDimension s.cols × (symmetric ≡ true → s.rows ≡ s.cols) × (s.entries ≤ most)
unfolding size
size_bounds symmetric most line s e =
    let r = ok_bind (number BadSize (word (words line))) _ s e in
    let rd = refuse_first (not (is_dimension r.0)) BadDimension _ s r.2 in
    let c = ok_bind (number BadSize (word (drop 1 (words line)))) _ s rd.1 in
    let cd = refuse_first (not (is_dimension c.0)) BadDimension _ s c.2 in
    let q = refuse_first (symmetric && not (nat_eq r.0 c.0)) NotSquare _ s cd.1 in
    let n = ok_bind (number BadSize (word (drop 2 (words line)))) _ s q.1 in
    let m = refuse_first (nat_lt most n.0) TooManyEntries _ s n.2 in
    let x = refuse_first (has_word (drop 3 (words line))) BadSize _ s m.1 in
    let is : ◌≡◌ {A = Size} (record { rows = r.0; cols = c.0; entries = n.0 }) s = let f = x.1 in cc in
    subst (λ s. IsDimension s.rows × IsDimension s.cols × (symmetric ≡ true → s.rows ≡ s.cols) × (s.entries ≤ most)) is
    (dimension_of r.0 rd.0, dimension_of c.0 cd.0, square_of symmetric r.0 c.0 q.0, few n.0 m.0)
  where
    few : (n : ℕ) → nat_lt most n ≡ false → n ≤ most
    few n h = grind (arith, nat_tests)

-- within the dimensions, and of 64 bits
abbrev pub IsCellOf : ℕ → ℕ → Cell → Type 0
IsCellOf rows cols c = IsWithin rows cols c × (c.count < 2 ^ 64)

both_within : (rows cols : ℕ) (c : Cell) (symmetric : Bool) → (symmetric ≡ true → rows ≡ cols) → IsCellOf rows cols c →
    All (IsCellOf rows cols) (cells_of symmetric c)
both_within rows cols c symmetric square h = by_test (symmetric && not (nat_eq c.row c.col)) refl
  where
    one : All (IsCellOf rows cols) (c ∷ [])
    one = All-cons (IsCellOf rows cols) c [] h (All-nil (IsCellOf rows cols))

    only_symmetric : (v w : Bool) → (v && w) ≡ true → v ≡ true
    only_symmetric true w e = refl
    only_symmetric false w e = cc

    by_test : (v : Bool) → (symmetric && not (nat_eq c.row c.col)) ≡ v →
        All (IsCellOf rows cols) (cond v (c ∷ record c { row = c.col; col = c.row } ∷ []) (c ∷ []))
    by_test false e = one
    by_test true e =
        let same = square (only_symmetric symmetric (not (nat_eq c.row c.col)) e) in
        let r = h.0.0 in let k = h.0.1 in
        All-cons (IsCellOf rows cols) c (record c { row = c.col; col = c.row } ∷ []) h
        (All-cons (IsCellOf rows cols) (record c { row = c.col; col = c.row }) [] ((omega arith, omega arith), h.1)
        (All-nil (IsCellOf rows cols)))

all_within : (rows cols : ℕ) (symmetric : Bool) (lines : List (List ℕ)) (entries : List Cell) →
    (symmetric ≡ true → rows ≡ cols) →
    map (entry rows cols) lines ≡ map Ok entries → All (IsCellOf rows cols) (flat_map (cells_of symmetric) entries)
all_within rows cols symmetric lines [] square e = All-nil (IsCellOf rows cols)
all_within rows cols symmetric [] (c ∷ cs) square e = cc
all_within rows cols symmetric (line ∷ lines) (c ∷ cs) square e =
    let first : entry rows cols line ≡ Ok c = cc in
    let rest : map (entry rows cols) lines ≡ map Ok cs = cc in
    All-append (IsCellOf rows cols) (cells_of symmetric c) (flat_map (cells_of symmetric) cs)
    (both_within rows cols c symmetric square (entry_within rows cols line c first))
    (all_within rows cols symmetric lines cs square rest)

module _ (text : List ℕ) (limits : TextLimits) (rows cols : ℕ) (cells : List Cell)
    (s : Spells text limits rows cols cells) where
  bounds : IsDimension rows × IsDimension cols × (s.symmetric ≡ true → rows ≡ cols) ×
      (length s.others ≤ limits.max_entries)
  bounds = size_bounds s.symmetric limits.max_entries s.second (record {
    rows = rows;
    cols = cols;
    entries = length s.others;
  }) s.is_size

  pub spells_cells : All (IsCellOf rows cols) cells
  spells_cells = rw s.cells_are (all_within rows cols s.symmetric s.others s.entries bounds.2 s.are_entries)

  -- the dimensions are within their bounds, and the cells within the dimensions
  pub spells_bounds : IsDimension rows × IsDimension cols × AreWithin rows cols cells
  spells_bounds = (bounds.0, bounds.1, λ k d l. (spells_cells k d l).0)

  -- each count has at most 64 bits
  pub spells_counts : All (λ c. c.count < 2 ^ 64) cells
  spells_counts k d l = (spells_cells k d l).1
