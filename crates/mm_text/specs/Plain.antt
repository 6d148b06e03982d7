-- Lines of the plainest form: digits, a blank, digits, a blank, digits, LF or CR LF.
use Rattle.std.specs.Prelude.{◌≡◌, ◌⊎◌, ℕ, ◌+◌, ◌<◌, ◌≤◌, true, false, List, [], ◌∷◌, ◌++◌, length, Ok}
use Rattle.std.specs.List.{list_all}
use Rattle.std.specs.Char.{is_ascii_digit}
use Rattle.std.specs.Str.Parse.{digits_value, digits_value_after}
use Rattle.mm_text.specs.Lines.{is_blank, is_skipped, content, IsLine}
use Rattle.mm_text.specs.Judging.{index, entry}
use Rattle.cells.specs.declared.cell.Cell.{Cell}

-- so few digits that the number which they write has 64 bits
pub record IsShortNumeral (word : List ℕ) : Type 0 where
  pub digits : list_all is_ascii_digit word ≡ true
  pub short : length word ≤ 19

-- The bytes begin with a word of digits, which write n (0 where there are none), and go on like this.
pub record BeginsWithDigits (bytes : List ℕ) (n : ℕ) (rest : List ℕ) : Type 0 where
  pub word : List ℕ
  pub whole : bytes ≡ word ++ rest
  pub numeral : IsShortNumeral word
  pub value : digits_value 10 word ≡ n

-- The bytes begin with at most so many digits, which with a number before them write n, and go on like this.
pub record GoesOnWithDigits (most start : ℕ) (bytes : List ℕ) (n : ℕ) (rest : List ℕ) : Type 0 where
  pub word : List ℕ
  pub whole : bytes ≡ word ++ rest
  pub digits : list_all is_ascii_digit word ≡ true
  pub short : length word ≤ most
  pub value : digits_value_after 10 start word ≡ n

-- The bytes begin with eight digits, which write n, and go on like this.
pub record BeginsWithEight (bytes : List ℕ) (n : ℕ) (rest : List ℕ) : Type 0 where
  pub word : List ℕ
  pub whole : bytes ≡ word ++ rest
  pub digits : list_all is_ascii_digit word ≡ true
  pub eight : length word ≡ 8
  pub value : digits_value 10 word ≡ n

-- The bytes begin with a word that writes an index, counted here from 0, and a blank, and go on like this.
pub record BeginsWithIndex (limit : ℕ) (bytes : List ℕ) (i : ℕ) (rest : List ℕ) : Type 0 where
  pub word : List ℕ
  pub blank : ℕ
  pub whole : bytes ≡ word ++ blank ∷ rest
  pub numeral : IsShortNumeral word
  pub some : 0 < length word
  pub is_blank_too : is_blank blank ≡ true
  pub index_is : index limit word ≡ Ok i

-- The bytes begin with a word that writes a count, then LF or CR LF, and go on like this.
pub record BeginsWithCount (bytes : List ℕ) (n : ℕ) (rest : List ℕ) : Type 0 where
  pub word : List ℕ
  pub ending : List ℕ
  pub ending_is : (ending ≡ []) ⊎ (ending ≡ 13 ∷ [])
  pub whole : bytes ≡ word ++ (ending ++ 10 ∷ rest)
  pub numeral : IsShortNumeral word
  pub some : 0 < length word
  pub value : digits_value 10 word ≡ n

-- A line that counts wherever it stands, is not too long, and is this entry of a matrix with these dimensions.
pub record IsEntry (rows cols : ℕ) (line : List ℕ) (cell : Cell) : Type 0 where
  pub is_line : IsLine line
  pub counted : is_skipped line ≡ false
  pub short : length (content line) ≤ 1024
  pub entry_is : entry rows cols (content line) ≡ Ok cell

-- The bytes begin with such a line and its LF, which take so many bytes.
pub record BeginsWithEntry (rows cols : ℕ) (bytes : List ℕ) (cell : Cell) (size : ℕ) : Type 0 where
  pub line : List ℕ
  pub rest : List ℕ
  pub whole : bytes ≡ line ++ 10 ∷ rest
  pub is_entry : IsEntry rows cols line cell
  pub size_is : size ≡ length line + 1
