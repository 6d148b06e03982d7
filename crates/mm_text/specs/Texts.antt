-- What a text spells, and its first fault.
use Rattle.std.specs.Prelude.{◌≡◌, ℕ, ◌+◌, ◌*◌, ◌<◌, ◌≤◌, Bool, true, List, [], ◌∷◌, ◌++◌, length, map, flat_map}
use Rattle.std.specs.Prelude.{nat_lt, if◌then◌else◌, Option, Some, None, Ok, Err}
pub use Rattle.mm_text.specs.Canonical.{numbers_line, canonical}
use Rattle.mm_text.specs.Lines.{lines_of, bytes_of, line_at, content, counts, is_limited, counted, OverrunsAt}
use Rattle.mm_text.specs.Judging.{◌>>=◌, refuse_if, banner, size, entry, cells_of, fault_of}
use Rattle.mm_text.specs.declared.fault.MmKind.{MmKind}
use Rattle.mm_text.specs.declared.fault.MmKind.TheVariants.{BadBanner, LineTooLong, BadSize, TooFewEntries, ExtraText}
use Rattle.mm_text.specs.declared.fault.MmKind.TheVariants.{TooLong}
use Rattle.cells.specs.declared.cell.Cell.{Cell}
use Rattle.mm_text.specs.declared.limits.TextLimits.{TextLimits}

-- The text spells a matrix of these dimensions with this list of cells: both limits hold, no line is too long,
-- and the lines that count are a banner, a size line, and as many entries as it declares.
pub record Spells (text : List ℕ) (limits : TextLimits) (rows cols : ℕ) (cells : List Cell) : Type 0 where
  pub fits : length text ≤ limits.max_bytes
  pub short : (before after : List (List ℕ)) (line : List ℕ) →
      lines_of text ≡ before ++ line ∷ after → is_limited before line ≡ true → length (content line) ≤ 1024
  pub first : List ℕ
  pub second : List ℕ
  pub others : List (List ℕ)
  pub lines : counted (lines_of text) ≡ first ∷ second ∷ others
  pub symmetric : Bool
  pub is_banner : banner first ≡ Ok symmetric
  pub is_size : size symmetric limits.max_entries second ≡ Ok (record {
    rows = rows;
    cols = cols;
    entries = length others;
  })
  pub entries : List Cell
  pub are_entries : map (entry rows cols) others ≡ map Ok entries
  pub cells_are : cells ≡ flat_map (cells_of symmetric) entries

-- The fault of a line that counts, behind the lines that count before it.
abbrev pub fault_behind : TextLimits → List (List ℕ) → List ℕ → Option MmKind
fault_behind limits [] line = fault_of (banner line)
fault_behind limits (first ∷ []) line = fault_of (banner first >>= λ symmetric. size symmetric limits.max_entries line)
fault_behind limits (first ∷ second ∷ others) line = fault_of (do
  symmetric ← banner first
  s ← size symmetric limits.max_entries second
  if nat_lt (length others) s.entries then entry s.rows s.cols line else Err ExtraText)

-- What the text lacks, if these are all its lines that count.
abbrev pub lack_of : TextLimits → List (List ℕ) → Option MmKind
lack_of limits [] = Some BadBanner
lack_of limits (first ∷ []) = Some BadSize
lack_of limits (first ∷ second ∷ others) = fault_of (do
  symmetric ← banner first
  s ← size symmetric limits.max_entries second
  refuse_if (nat_lt (length others) s.entries) TooFewEntries)

-- Behind these lines this one counts, and is an entry without a fault: a banner and a size line stand before it.
pub record IsGoodEntry (limits : TextLimits) (before : List (List ℕ)) (line : List ℕ) : Type 0 where
  pub counted_too : counts before line ≡ true
  pub behind_size : 2 ≤ length (counted before)
  pub right : fault_behind limits (counted before) (content line) ≡ None

-- A place is the number of bytes that were read when a fault shows; the end of the text counts as one byte more.
-- Four judgements are made at a place, in this order.

-- 1. Byte number max_bytes + 1 was read.
pub record TooManyBytes (text : List ℕ) (limits : TextLimits) (place : ℕ) (kind : MmKind) (line : ℕ) : Type 0 where
  pub longer : limits.max_bytes < length text
  pub place_is : place ≡ limits.max_bytes + 1
  pub kind_is : kind ≡ TooLong
  pub line_is : line ≡ line_at text limits.max_bytes

-- 2. A line that has a limit shows that it is too long.
pub record LineOverruns (text : List ℕ) (place : ℕ) (kind : MmKind) (line : ℕ) : Type 0 where
  pub before : List (List ℕ)
  pub this : List ℕ
  pub after : List (List ℕ)
  pub lines : lines_of text ≡ before ++ this ∷ after
  pub limited : is_limited before this ≡ true
  pub count : ℕ
  pub overruns : OverrunsAt this count
  pub place_is : place ≡ bytes_of before + count
  pub kind_is : kind ≡ LineTooLong
  pub line_is : line ≡ length before + 1

-- 3. A line that counts was read to its end, its LF or the text's end, and its words are wrong.
pub record LineIsWrong (text : List ℕ) (limits : TextLimits) (place : ℕ) (kind : MmKind) (line : ℕ) : Type 0 where
  pub before : List (List ℕ)
  pub this : List ℕ
  pub after : List (List ℕ)
  pub lines : lines_of text ≡ before ++ this ∷ after
  pub counted_too : counts before this ≡ true
  pub wrong : fault_behind limits (counted before) (content this) ≡ Some kind
  pub place_is : place ≡ bytes_of before + length this + 1
  pub line_is : line ≡ length before + 1

-- 4. The text has ended, and a line is missing.
pub record LineIsMissing (text : List ℕ) (limits : TextLimits) (place : ℕ) (kind : MmKind) (line : ℕ) : Type 0 where
  pub missing : lack_of limits (counted (lines_of text)) ≡ Some kind
  pub place_is : place ≡ length text + 1
  pub line_is : line ≡ line_at text (length text)

pub data Turn : Type 0 where
  at_limit : Turn
  in_line : Turn
  at_line_end : Turn
  at_text_end : Turn

abbrev pub turn_number : Turn → ℕ
turn_number at_limit = 0
turn_number in_line = 1
turn_number at_line_end = 2
turn_number at_text_end = 3

-- A fault of this kind shows at this place and turn, on this line.
abbrev pub FaultAt : Turn → List ℕ → TextLimits → ℕ → MmKind → ℕ → Type 0
FaultAt at_limit text limits place kind line = TooManyBytes text limits place kind line
FaultAt in_line text limits place kind line = LineOverruns text place kind line
FaultAt at_line_end text limits place kind line = LineIsWrong text limits place kind line
FaultAt at_text_end text limits place kind line = LineIsMissing text limits place kind line

-- the order of judging: by place, and at one place by turn
abbrev pub moment : ℕ → Turn → ℕ
moment place turn = 4 * place + turn_number turn

-- The first fault of the text, which shows at this place.
pub record FirstFaultAt (text : List ℕ) (limits : TextLimits) (place : ℕ) (kind : MmKind) (line : ℕ) : Type 0 where
  pub turn : Turn
  pub stands : FaultAt turn text limits place kind line
  pub least : (t : Turn) (p : ℕ) (k : MmKind) (n : ℕ) → FaultAt t text limits p k n → moment place turn ≤ moment p t

-- The first fault of the text, at some place.
pub record FirstFault (text : List ℕ) (limits : TextLimits) (kind : MmKind) (line : ℕ) : Type 0 where
  pub place : ℕ
  pub first : FirstFaultAt text limits place kind line

-- The bytes bear no fault, except for those that show at the text's end.
pub record NoFaultWithin (text : List ℕ) (limits : TextLimits) : Type 0 where
  pub none_within : (t : Turn) (p : ℕ) (k : MmKind) (n : ℕ) → FaultAt t text limits p k n → length text < p
