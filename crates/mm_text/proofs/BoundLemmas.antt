-- The dimensions of a text, and its cells within them.
use Rattle.std.proofs.Common.{◌≡◌, ℕ, zero, suc, ◌-◌, ◌<◌, ◌||◌, ◌&&◌, Bool, true, false, not, cond, List, [], ◌∷◌}
use Rattle.std.proofs.Common.{drop, refl, subst, arith}
use Rattle.std.proofs.lemmas.Bool.Decides.{nat_tests}
use Rattle.std.proofs.lemmas.List.Elements.{All-append}
use Rattle.std.specs.Prelude.{Result, Ok, Err, nat_lt, nat_eq, map, flat_map}
use Rattle.cells.specs.Bounds.{IsDimension, IsWithin, AreWithin}
use Rattle.mm_text.specs.Judging.{◌>>=◌, refuse_if, is_dimension, number, size, index, entry, cells_of}
use Rattle.mm_text.specs.Texts.{Spells}
use Rattle.mm_text.specs.Stages.{StageIs, declared_size}
use Rattle.mm_text.specs.Readings.{AreSized}
use Rattle.mm_text.specs.declared.fault.MmKind.{MmKind}
use Rattle.cells.specs.declared.cell.Cell.{Cell}
use Rattle.mm_text.specs.declared.size.Size.{Size}
use Rattle.mm_text.specs.declared.limits.TextLimits.{TextLimits}
use Rattle.mm_text.specs.declared.stages.Stage.{Stage}
use Rattle.mm_text.specs.declared.stages.Stage.TheVariants.{AtBanner, AtSize, AtEntries}
use Rattle.mm_text.specs.declared.fault.MmKind.TheVariants.{BadSize, BadDimension, NotSquare, TooManyEntries, BadEntry}
use Rattle.mm_text.specs.declared.fault.MmKind.TheVariants.{Negative, IndexOutOfRange}
use Rattle.mm_text.specs.Words.{words, word, has_word, is_negative}

-- a chain that gives a value passed each of its steps
pub ok_bind : {A B : Type 0} (r : Result A MmKind) (f : A → Result B MmKind) (y : B) → (r >>= f) ≡ Ok y → (x : A) ×
    (r ≡ Ok x) × (f x ≡ Ok y)
ok_bind (Ok x) f y e = (x, refl, e)
ok_bind (Err k) f y e = cc

pub ok_refuse : (b : Bool) (k : MmKind) (u : Unit {0}) → refuse_if b k ≡ Ok u → b ≡ false
ok_refuse true k u e = cc
ok_refuse false k u e = refl

pub index_below : (limit : ℕ) (w : List ℕ) (n : ℕ) → index limit w ≡ Ok n → n < limit
unfolding index
index_below limit w n e =
    let a = ok_bind (number BadEntry w) (λ x. refuse_if (nat_eq x 0 || nat_lt limit x) IndexOutOfRange >>= λ u. Ok
    (x - 1)) n e in
    let b = ok_bind (refuse_if (nat_eq a.0 0 || nat_lt limit a.0) IndexOutOfRange) (λ u. Ok (a.0 - 1)) n a.2 in
    let t = ok_refuse (nat_eq a.0 0 || nat_lt limit a.0) IndexOutOfRange b.0 b.1 in
    let f : Ok (a.0 - 1) ≡ Ok n = b.2 in
    let v : a.0 - 1 ≡ n = cc in
    below limit a.0 n t v
  where
    below : (limit m n : ℕ) → (nat_eq m 0 || nat_lt limit m) ≡ false → m - 1 ≡ n → n < limit
    below limit m n t v = grind (arith, nat_tests)

abbrev cell_of : ℕ → ℕ → ℕ → Cell
cell_of row col count = record { row = row; col = col; count = count }

entry_within : (rows cols : ℕ) (line : List ℕ) (c : Cell) → entry rows cols line ≡ Ok c → IsWithin rows cols c
unfolding entry
entry_within rows cols line c e =
    let ws = words line in
    let a = ok_bind (index rows (word (words line)))
    (λ row. index cols (word (drop 1 (words line))) >>= λ col. refuse_if (is_negative (word (drop 2 (words line))))
    Negative >>= λ u.
    number BadEntry (word (drop 2 (words line))) >>= λ count. refuse_if (has_word (drop 3 (words line))) BadEntry >>=
    λ v. Ok (cell_of row col count)) c e in
    let b = ok_bind (index cols (word (drop 1 (words line))))
    (λ col. refuse_if (is_negative (word (drop 2 (words line)))) Negative >>= λ u.
    number BadEntry (word (drop 2 (words line))) >>= λ count. refuse_if (has_word (drop 3 (words line))) BadEntry >>=
    λ v. Ok (cell_of a.0 col count)) c a.2 in
    let d = ok_bind (refuse_if (is_negative (word (drop 2 (words line)))) Negative) (λ u.
    number BadEntry (word (drop 2 (words line))) >>= λ count. refuse_if (has_word (drop 3 (words line))) BadEntry >>=
    λ v. Ok (cell_of a.0 b.0 count)) c b.2 in
    let f = ok_bind (number BadEntry (word (drop 2 (words line))))
    (λ count. refuse_if (has_word (drop 3 (words line))) BadEntry >>= λ v. Ok (cell_of a.0 b.0 count)) c d.2 in
    let g = ok_bind (refuse_if (has_word (drop 3 (words line))) BadEntry) (λ v. Ok (cell_of a.0 b.0 f.0)) c f.2 in
    let h : Ok (cell_of a.0 b.0 f.0) ≡ Ok c = g.2 in
    let same : cell_of a.0 b.0 f.0 ≡ c = cc in
    rw (← same) (index_below rows (word (words line)) a.0 a.1, index_below cols (word (drop 1 (words line))) b.0 b.1)

-- what a size line says of its dimensions
pub record SoundSize (symmetric : Bool) (s : Size) : Type 0 where
  pub rows : IsDimension s.rows
  pub cols : IsDimension s.cols
  pub square : symmetric ≡ true → s.rows ≡ s.cols

abbrev size_is : ℕ → ℕ → ℕ → Size
size_is rows cols entries = record { rows = rows; cols = cols; entries = entries }

pub dimension_of : (n : ℕ) → not (is_dimension n) ≡ false → IsDimension n
dimension_of n e = grind (arith, nat_tests)

pub square_of : (symmetric : Bool) (m n : ℕ) → (symmetric && not (nat_eq m n)) ≡ false → symmetric ≡ true → m ≡ n
square_of true m n e t = grind (arith, nat_tests)
square_of false m n e t = cc

pub size_sound : (symmetric : Bool) (most : ℕ) (line : List ℕ) (s : Size) → size symmetric most line ≡ Ok s →
    SoundSize symmetric s
unfolding size
size_sound symmetric most line s e =
    let a = ok_bind (number BadSize (word (words line)))
    (λ rows. refuse_if (not (is_dimension rows)) BadDimension >>= λ u. number BadSize (word (drop 1 (words line)))
    >>= λ cols.
    refuse_if (not (is_dimension cols)) BadDimension >>= λ u. refuse_if (symmetric && not (nat_eq rows cols)) NotSquare
    >>= λ u. number BadSize (word (drop 2 (words line))) >>= λ entries.
    refuse_if (nat_lt most entries) TooManyEntries >>= λ u. refuse_if (has_word (drop 3 (words line))) BadSize >>= λ u.
    Ok (size_is rows cols entries)) s e in
    let b = ok_bind (refuse_if (not (is_dimension a.0)) BadDimension)
    (λ u. number BadSize (word (drop 1 (words line))) >>= λ cols.
    refuse_if (not (is_dimension cols)) BadDimension >>= λ u. refuse_if (symmetric && not (nat_eq a.0 cols)) NotSquare
    >>= λ u. number BadSize (word (drop 2 (words line))) >>= λ entries.
    refuse_if (nat_lt most entries) TooManyEntries >>= λ u. refuse_if (has_word (drop 3 (words line))) BadSize >>= λ u.
    Ok (size_is a.0 cols entries)) s a.2 in
    let d = ok_bind (number BadSize (word (drop 1 (words line)))) (λ cols.
    refuse_if (not (is_dimension cols)) BadDimension >>= λ u. refuse_if (symmetric && not (nat_eq a.0 cols)) NotSquare
    >>= λ u. number BadSize (word (drop 2 (words line))) >>= λ entries.
    refuse_if (nat_lt most entries) TooManyEntries >>= λ u. refuse_if (has_word (drop 3 (words line))) BadSize >>= λ u.
    Ok (size_is a.0 cols entries)) s b.2 in
    let f = ok_bind (refuse_if (not (is_dimension d.0)) BadDimension)
    (λ u. refuse_if (symmetric && not (nat_eq a.0 d.0)) NotSquare >>= λ u. number BadSize
    (word (drop 2 (words line))) >>= λ entries.
    refuse_if (nat_lt most entries) TooManyEntries >>= λ u. refuse_if (has_word (drop 3 (words line))) BadSize >>= λ u.
    Ok (size_is a.0 d.0 entries)) s d.2 in
    let g = ok_bind (refuse_if (symmetric && not (nat_eq a.0 d.0)) NotSquare)
    (λ u. number BadSize (word (drop 2 (words line))) >>= λ entries.
    refuse_if (nat_lt most entries) TooManyEntries >>= λ u. refuse_if (has_word (drop 3 (words line))) BadSize >>= λ u.
    Ok (size_is a.0 d.0 entries)) s f.2 in
    let h = ok_bind (number BadSize (word (drop 2 (words line)))) (λ entries.
    refuse_if (nat_lt most entries) TooManyEntries >>= λ u. refuse_if (has_word (drop 3 (words line))) BadSize >>= λ u.
    Ok (size_is a.0 d.0 entries)) s g.2 in
    let i = ok_bind (refuse_if (nat_lt most h.0) TooManyEntries)
    (λ u. refuse_if (has_word (drop 3 (words line))) BadSize >>= λ u. Ok (size_is a.0 d.0 h.0)) s h.2 in
    let j = ok_bind (refuse_if (has_word (drop 3 (words line))) BadSize) (λ u. Ok (size_is a.0 d.0 h.0)) s i.2 in
    let last : Ok (size_is a.0 d.0 h.0) ≡ Ok s = j.2 in
    let same : size_is a.0 d.0 h.0 ≡ s = cc in
    let sound : SoundSize symmetric (size_is a.0 d.0 h.0) = record {
      rows = dimension_of a.0 (ok_refuse (not (is_dimension a.0)) BadDimension b.0 b.1);
      cols = dimension_of d.0 (ok_refuse (not (is_dimension d.0)) BadDimension f.0 f.1);
      square = square_of symmetric a.0 d.0 (ok_refuse (symmetric && not (nat_eq a.0 d.0)) NotSquare g.0 g.1);
    } in
    subst (λ t. SoundSize symmetric t) same sound

no_cells : (rows cols : ℕ) → AreWithin rows cols []
no_cells rows cols = λ k d l. absurd (omega arith)

one_cell : (rows cols : ℕ) (c : Cell) → IsWithin rows cols c → AreWithin rows cols (c ∷ [])
one_cell rows cols c h zero d l = h
one_cell rows cols c h (suc k) d l = absurd (omega arith)

two_cells : (rows cols : ℕ) (c e : Cell) → IsWithin rows cols c → IsWithin rows cols e →
    AreWithin rows cols (c ∷ e ∷ [])
two_cells rows cols c e h i zero d l = h
two_cells rows cols c e h i (suc k) d l = one_cell rows cols e i k d (omega arith)

cells_within : (symmetric : Bool) (rows cols : ℕ) (c : Cell) → (symmetric ≡ true → rows ≡ cols) →
    IsWithin rows cols c → AreWithin rows cols (cells_of symmetric c)
cells_within false rows cols c square h = one_cell rows cols c h
cells_within true rows cols c square h = either (not (nat_eq c.row c.col))
  where
    either : (v : Bool) → AreWithin rows cols (cond v (c ∷ record c { row = c.col; col = c.row } ∷ []) (c ∷ []))
    either false = one_cell rows cols c h
    either true = let e = square refl in two_cells rows cols c (record c { row = c.col; col = c.row }) h
        (omega (arith, h.1), omega (arith, h.0))

all_within : (symmetric : Bool) (rows cols : ℕ) (lines : List (List ℕ)) (entries : List Cell) →
    (symmetric ≡ true → rows ≡ cols) → map (entry rows cols) lines ≡ map Ok entries →
    AreWithin rows cols (flat_map (cells_of symmetric) entries)
all_within symmetric rows cols [] [] square e = no_cells rows cols
all_within symmetric rows cols [] (c ∷ cs) square e = cc
all_within symmetric rows cols (l ∷ ls) [] square e = cc
all_within symmetric rows cols (l ∷ ls) (c ∷ cs) square e =
    let one : entry rows cols l ≡ Ok c = cc in
    let more : map (entry rows cols) ls ≡ map Ok cs = cc in
    All-append (IsWithin rows cols) (cells_of symmetric c) (flat_map (cells_of symmetric) cs)
    (cells_within symmetric rows cols c square (entry_within rows cols l c one))
    (all_within symmetric rows cols ls cs square more)

-- the cells of a stage are sized by what it declares
pub stage_sized : (limits : TextLimits) (lines : List (List ℕ)) (given : List Cell) (stage : Stage) →
    StageIs limits lines given stage → AreSized given (declared_size stage)
stage_sized limits lines given AtBanner h = h.1
stage_sized limits lines given (AtSize symmetric) h = h.3
stage_sized limits lines given (AtEntries symmetric s seen) h =
    let sound = size_sound symmetric limits.max_entries h.second s h.is_size in
    record {
      rows = sound.rows;
      cols = sound.cols;
      within = rw h.cells_are (all_within symmetric s.rows s.cols h.others h.entries sound.square h.are_entries);
    }

-- a text that spells a file has sound dimensions, and its cells lie within them
pub spells_bounds : (text : List ℕ) (limits : TextLimits) (rows cols : ℕ) (cells : List Cell) →
    Spells text limits rows cols cells → IsDimension rows × IsDimension cols × AreWithin rows cols cells
spells_bounds text limits rows cols cells s =
    let sound = size_sound s.symmetric limits.max_entries s.second _ s.is_size in (
      sound.rows,
      sound.cols,
      rw s.cells_are (all_within s.symmetric rows cols s.others s.entries sound.square
          s.are_entries),
    )
