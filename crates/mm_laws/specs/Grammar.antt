-- What the lines of a coordinate text look like, as the format has them: with no order in which they are judged.
use Rattle.std.specs.Prelude.{◌≡◌, ◌⊎◌, ℕ, ◌+◌, ◌<◌, ◌≤◌, ◌^◌, Bool, true, false, List, [], ◌∷◌, ◌++◌, length, flat_map}
use Rattle.std.specs.Prelude.{All, codes}
use Rattle.std.specs.List.{AllZip}
use Rattle.std.specs.Char.{is_ascii_digit}
use Rattle.std.specs.Str.{str_to_ascii_lowercase}
use Rattle.std.specs.Str.Parse.{digits_value}
use Rattle.mm_text.specs.Lines.{lines_of, is_blank, is_limited, content, counted}
use Rattle.mm_text.specs.Judging.{cells_of}
use Rattle.cells.specs.Bounds.{IsDimension, IsWithin}
use Rattle.cells.specs.declared.cell.Cell.{Cell}
use Rattle.mm_text.specs.declared.size.Size.{Size}
use Rattle.mm_text.specs.declared.limits.TextLimits.{TextLimits}

-- spaces and tabs alone
abbrev pub AreBlanks : List ℕ → Type 0
AreBlanks bytes = All (λ b. is_blank b ≡ true) bytes

-- one byte or more, and none of them a blank
pub record IsWord (bytes : List ℕ) : Type 0 where
  pub some : 0 < length bytes
  pub solid : All (λ b. is_blank b ≡ false) bytes

-- A word may end before these bytes: there are none, or the first is a blank.
abbrev pub EndsWord : List ℕ → Type 0
EndsWord [] = Unit {0}
EndsWord (b ∷ bs) = is_blank b ≡ true

-- The line has these words in this order, with blanks between them, and otherwise blanks alone.
abbrev pub HasWords : List ℕ → List (List ℕ) → Type 0
HasWords line [] = AreBlanks line
HasWords line (word ∷ more) = (blanks rest : List ℕ) × (line ≡ blanks ++ (word ++ rest)) × AreBlanks blanks ×
    IsWord word × EndsWord rest × HasWords rest more

-- The word writes this number of at most 64 bits: at most one plus, and then one digit or more.
pub record Writes (word : List ℕ) (n : ℕ) : Type 0 where
  pub sign : List ℕ
  pub digits : List ℕ
  pub word_is : word ≡ sign ++ digits
  pub sign_is : (sign ≡ []) ⊎ (sign ≡ codes "+")
  pub some : 0 < length digits
  pub are_digits : All (λ b. is_ascii_digit b ≡ true) digits
  pub value_is : digits_value 10 digits ≡ n
  pub fits : n < 2 ^ 64

-- The word has the form of a number, with this value, of whatever size.
pub record IsNumeral (word : List ℕ) (n : ℕ) : Type 0 where
  pub sign : List ℕ
  pub digits : List ℕ
  pub word_is : word ≡ sign ++ digits
  pub sign_is : (sign ≡ []) ⊎ (sign ≡ codes "+")
  pub some : 0 < length digits
  pub are_digits : All (λ b. is_ascii_digit b ≡ true) digits
  pub value_is : digits_value 10 digits ≡ n

-- a minus, and then one digit or more
pub record IsMinus (word : List ℕ) : Type 0 where
  pub digits : List ℕ
  pub word_is : word ≡ codes "-" ++ digits
  pub some : 0 < length digits
  pub are_digits : All (λ b. is_ascii_digit b ≡ true) digits

-- The words are the same but for the case of ASCII letters.
abbrev pub IsKeyword : List ℕ → List ℕ → Type 0
IsKeyword word keyword = str_to_ascii_lowercase word ≡ str_to_ascii_lowercase keyword

abbrev pub IsOneOf : List ℕ → List (List ℕ) → Type 0
IsOneOf word [] = ⊥
IsOneOf word (keyword ∷ keywords) = IsKeyword word keyword ⊎ IsOneOf word keywords

-- which keyword says so
abbrev pub symmetry_keyword : Bool → List ℕ
symmetry_keyword true = codes "symmetric"
symmetry_keyword false = codes "general"

-- A banner: five keywords, from the line's first byte on.
pub record IsBannerLine (line : List ℕ) (symmetric : Bool) : Type 0 where
  pub mark : List ℕ
  pub object : List ℕ
  pub format : List ℕ
  pub field : List ℕ
  pub symmetry : List ℕ
  pub has_words : HasWords line (mark ∷ object ∷ format ∷ field ∷ symmetry ∷ [])
  pub at_start : (rest : List ℕ) × (line ≡ mark ++ rest)
  pub mark_is : IsKeyword mark (codes "%%MatrixMarket")
  pub object_is : IsKeyword object (codes "matrix")
  pub format_is : IsKeyword format (codes "coordinate")
  pub field_is : IsKeyword field (codes "integer") ⊎ IsKeyword field (codes "unsigned-integer")
  pub symmetry_is : IsKeyword symmetry (symmetry_keyword symmetric)

-- The line begins with the mark of a banner, and has these words behind it.
pub record IsMarked (line : List ℕ) (ws : List (List ℕ)) : Type 0 where
  pub mark : List ℕ
  pub has_words : HasWords line (mark ∷ ws)
  pub at_start : (rest : List ℕ) × (line ≡ mark ++ rest)
  pub mark_is : IsKeyword mark (codes "%%MatrixMarket")

-- A size line: three numbers. A symmetric matrix is square.
pub record IsSizeLine (symmetric : Bool) (line : List ℕ) (s : Size) : Type 0 where
  pub rows : List ℕ
  pub cols : List ℕ
  pub entries : List ℕ
  pub has_words : HasWords line (rows ∷ cols ∷ entries ∷ [])
  pub rows_are : Writes rows s.rows
  pub cols_are : Writes cols s.cols
  pub entries_are : Writes entries s.entries
  pub row_bounds : IsDimension s.rows
  pub col_bounds : IsDimension s.cols
  pub square : symmetric ≡ true → s.rows ≡ s.cols

-- An entry's line: three numbers, of which row and column count from 1 and lie within the dimensions.
pub record IsEntryLine (rows cols : ℕ) (line : List ℕ) (cell : Cell) : Type 0 where
  pub row : List ℕ
  pub col : List ℕ
  pub count : List ℕ
  pub has_words : HasWords line (row ∷ col ∷ count ∷ [])
  pub row_is : Writes row (cell.row + 1)
  pub col_is : Writes col (cell.col + 1)
  pub count_is : Writes count cell.count
  pub within : IsWithin rows cols cell

-- A coordinate text of these cells, in the order of its lines, that keeps both limits: but for comments and blank lines
-- behind its first line, it is a banner, a size line, and as many entries as that declares.
pub record IsCoordinateText (text : List ℕ) (limits : TextLimits) (rows cols : ℕ) (cells : List Cell) : Type 0 where
  pub fits : length text ≤ limits.max_bytes
  pub short : (before after : List (List ℕ)) (line : List ℕ) →
      lines_of text ≡ before ++ line ∷ after → is_limited before line ≡ true → length (content line) ≤ 1024
  pub banner_line : List ℕ
  pub size_line : List ℕ
  pub entry_lines : List (List ℕ)
  pub lines : counted (lines_of text) ≡ banner_line ∷ size_line ∷ entry_lines
  pub symmetric : Bool
  pub is_banner : IsBannerLine banner_line symmetric
  pub is_size : IsSizeLine symmetric size_line (record { rows = rows; cols = cols; entries = length entry_lines })
  pub few : length entry_lines ≤ limits.max_entries
  pub entries : List Cell
  pub are_entries : AllZip (IsEntryLine rows cols) entry_lines entries
  pub cells_are : cells ≡ flat_map (cells_of symmetric) entries
