-- What an option's words mean: a number, or a list of numbers.
use Rattle.std.specs.Prelude.{ℕ, ◌^◌, Bool, ◌&&◌, if◌then◌else◌, nat_lt, nat_le, eqb, List, [], length, codes}
use Rattle.std.specs.Prelude.{Option, Some, None, is_some, filter_map}
use Rattle.std.specs.List.{slice_split, list_all}
use Rattle.std.specs.Char.{is_ascii_digit}
use Rattle.std.specs.Str.Parse.{digits_value}
use Rattle.std.specs.Str.{bytes_eq}

-- one to twenty ASCII digits
abbrev pub is_numeral : List ℕ → Bool
is_numeral word = nat_le 1 (length word) && nat_le (length word) 20 && list_all is_ascii_digit word

-- the number that a word writes, if it has at most 64 bits
abbrev pub option_number : List ℕ → Option ℕ
option_number word =
    if is_numeral word && nat_lt (digits_value 10 word) (2 ^ 64) then Some (digits_value 10 word) else None

abbrev pub is_comma : ℕ → Bool
is_comma byte = eqb byte 44

-- the word writes a number
abbrev pub writes_number : List ℕ → Bool
writes_number word = is_some (option_number word)

-- `none`, or numbers with single commas between
abbrev pub option_list : List ℕ → Option (List ℕ)
option_list word =
    let pieces = slice_split is_comma word in
    if bytes_eq word (codes "none") then Some []
    else (if list_all writes_number pieces then Some (filter_map option_number pieces) else None)
