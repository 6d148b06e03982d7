-- What a line's words mean, judged from left to right: the value that they spell, or the first fault.
use Rattle.std.specs.Prelude.{ℕ, ◌-◌, ◌^◌, Bool, not, ◌&&◌, ◌||◌, ◌==◌, if◌then◌else◌, nat_lt, nat_le, List, [], ◌∷◌}
use Rattle.std.specs.Prelude.{drop, slice_index, Option, Some, None, Result, Ok, Err, codes}
use Rattle.std.specs.List.{list_any}
use Rattle.std.specs.Str.{str_eq_ignore_ascii_case}
use Rattle.mm_text.specs.Lines.{is_blank}
use Rattle.mm_text.specs.Words.{words, word, has_word, number_of, is_negative}
use Rattle.mm_text.specs.declared.fault.MmKind.{MmKind}
use Rattle.mm_text.specs.declared.fault.MmKind.TheVariants.{BadBanner, Unsupported, BadSize, BadDimension, NotSquare}
use Rattle.mm_text.specs.declared.fault.MmKind.TheVariants.{TooManyEntries, BadEntry, Negative, NumberTooLarge}
use Rattle.mm_text.specs.declared.fault.MmKind.TheVariants.{IndexOutOfRange}
use Rattle.cells.specs.declared.cell.Cell.{Cell}
use Rattle.mm_text.specs.declared.size.Size.{Size}

infixl 10 ◌>>=◌
abbrev pub ◌>>=◌ : {A B : Type 0} → Result A MmKind → (A → Result B MmKind) → Result B MmKind
(Ok x) >>= f = f x
(Err e) >>= f = Err e

-- go on unless the test holds, which is this fault
abbrev pub refuse_if : Bool → MmKind → Result (Unit {0}) MmKind
refuse_if test kind = if test then Err kind else Ok tt

-- the word is one of these, whatever the case of its ASCII letters
abbrev pub is_one_of : List ℕ → List (List ℕ) → Bool
is_one_of w keywords = list_any (λ k. str_eq_ignore_ascii_case w k) keywords

-- a word of the banner: these are known and not supported, and all but those are bad
abbrev pub keyword : List (List ℕ) → List (List ℕ) → List ℕ → Result (Unit {0}) MmKind
keyword unsupported known w = do
  _ ← refuse_if (is_one_of w unsupported) Unsupported
  refuse_if (not (is_one_of w known)) BadBanner

unfoldable pub mark : List ℕ → Result (Unit {0}) MmKind
mark w = keyword [] (codes "%%matrixmarket" ∷ []) w

unfoldable pub object : List ℕ → Result (Unit {0}) MmKind
object w = keyword [] (codes "matrix" ∷ []) w

unfoldable pub format : List ℕ → Result (Unit {0}) MmKind
format w = keyword (codes "array" ∷ []) (codes "coordinate" ∷ []) w

unfoldable pub field : List ℕ → Result (Unit {0}) MmKind
field w = keyword (codes "real" ∷ codes "complex" ∷ codes "pattern" ∷ [])
    (codes "integer" ∷ codes "unsigned-integer" ∷ []) w

unfoldable pub symmetry : List ℕ → Result Bool MmKind
symmetry w = do
  _ ← keyword (codes "skew-symmetric" ∷ codes "hermitian" ∷ []) (codes "general" ∷ codes "symmetric" ∷ []) w
  Ok (is_one_of w (codes "symmetric" ∷ []))

-- Whether the banner says symmetric. It begins at the first byte of its line.
unfoldable pub banner : List ℕ → Result Bool MmKind
banner line = do
  let ws = words line
  _ ← refuse_if (is_blank (slice_index line 0)) BadBanner
  _ ← mark (word ws)
  _ ← object (word (drop 1 ws))
  _ ← format (word (drop 2 ws))
  _ ← field (word (drop 3 ws))
  symmetric ← symmetry (word (drop 4 ws))
  _ ← refuse_if (has_word (drop 5 ws)) BadBanner
  Ok symmetric

-- the number that a word writes, of at most 64 bits; a word that writes none is bad in its own way
unfoldable pub number : MmKind → List ℕ → Result ℕ MmKind
number bad w = within_64_bits (number_of w)
  where
    within_64_bits : Option ℕ → Result ℕ MmKind
    within_64_bits None = Err bad
    within_64_bits (Some n) = if nat_lt n (2 ^ 64) then Ok n else Err NumberTooLarge

abbrev pub is_dimension : ℕ → Bool
is_dimension n = nat_le 1 n && nat_le n (2 ^ 60)

unfoldable pub size : Bool → ℕ → List ℕ → Result Size MmKind
size symmetric max_entries line = do
  let ws = words line
  rows ← number BadSize (word ws)
  _ ← refuse_if (not (is_dimension rows)) BadDimension
  cols ← number BadSize (word (drop 1 ws))
  _ ← refuse_if (not (is_dimension cols)) BadDimension
  _ ← refuse_if (symmetric && not (rows == cols)) NotSquare
  entries ← number BadSize (word (drop 2 ws))
  _ ← refuse_if (nat_lt max_entries entries) TooManyEntries
  _ ← refuse_if (has_word (drop 3 ws)) BadSize
  Ok (record { rows = rows; cols = cols; entries = entries })

-- an index from 1 to limit, counted from 0
unfoldable pub index : ℕ → List ℕ → Result ℕ MmKind
index limit w = do
  n ← number BadEntry w
  _ ← refuse_if (n == 0 || nat_lt limit n) IndexOutOfRange
  Ok (n - 1)

unfoldable pub entry : ℕ → ℕ → List ℕ → Result Cell MmKind
entry rows cols line = do
  let ws = words line
  row ← index rows (word ws)
  col ← index cols (word (drop 1 ws))
  _ ← refuse_if (is_negative (word (drop 2 ws))) Negative
  count ← number BadEntry (word (drop 2 ws))
  _ ← refuse_if (has_word (drop 3 ws)) BadEntry
  Ok (record { row = row; col = col; count = count })

-- the cells that an entry stands for
abbrev pub cells_of : Bool → Cell → List Cell
cells_of symmetric c =
    if symmetric && not (c.row == c.col) then c ∷ record c { row = c.col; col = c.row } ∷ [] else c ∷ []

-- the fault of a judgement, if it is one
abbrev pub fault_of : {A : Type 0} → Result A MmKind → Option MmKind
fault_of (Ok x) = None
fault_of (Err kind) = Some kind
