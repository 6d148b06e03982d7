-- What the reader keeps of the lines that it has read, and how one more changes it.
use Rattle.std.specs.Prelude.{◌≡◌, ◌⊎◌, ℕ, ◌+◌, ◌<◌, ◌≤◌, Bool, true, false, not, ◌&&◌, ◌||◌, nat_lt, nat_eq}
use Rattle.std.specs.Prelude.{if◌then◌else◌, List, [], ◌∷◌, ◌++◌, length, take, map, flat_map, Option, Some, None}
use Rattle.std.specs.Prelude.{Result, Ok, Err}
use Rattle.mm_text.specs.Lines.{lines_of, content, counts, is_limited, counted, is_comment, is_skipped, IsLine, joined}
use Rattle.std.specs.List.{AllByRecursion}
use Rattle.mm_text.specs.Judging.{◌>>=◌, banner, size, entry, cells_of}
use Rattle.mm_text.specs.Texts.{fault_behind, Spells, IsGoodEntry}
use Rattle.mm_text.specs.declared.fault.MmKind.{MmKind}
use Rattle.mm_text.specs.declared.fault.MmKind.TheVariants.{ExtraText, LineTooLong, TooLong, Memory, BadBanner, BadSize}
use Rattle.mm_text.specs.declared.fault.MmKind.TheVariants.{TooFewEntries}
use Rattle.cells.specs.declared.cell.Cell.{Cell}
use Rattle.mm_text.specs.declared.size.Size.{Size}
use Rattle.mm_text.specs.declared.limits.TextLimits.{TextLimits}
use Rattle.mm_text.specs.declared.stages.Stage.{Stage}
use Rattle.mm_text.specs.declared.line_reader.LineReader.{LineReader}
use Rattle.mm_text.specs.declared.progress.Progress.{Progress}
use Rattle.mm_text.specs.declared.stages.Stage.TheVariants.{AtBanner, AtSize, AtEntries}

-- one more entry was seen
abbrev pub after_entry : Bool → Size → ℕ → Cell → Stage × Option Cell
after_entry symmetric s seen cell = (AtEntries symmetric s (seen + 1), Some cell)

-- what a line that counts makes of a stage
abbrev pub step : TextLimits → Stage → List ℕ → Result (Stage × Option Cell) MmKind
step limits AtBanner line = banner line >>= λ symmetric. Ok (AtSize symmetric, None)
step limits (AtSize symmetric) line = size symmetric limits.max_entries line >>= λ s. Ok (AtEntries symmetric s 0, None)
step limits (AtEntries symmetric s seen) line =
    if nat_lt seen s.entries then (entry s.rows s.cols line >>= λ cell. Ok (after_entry symmetric s seen cell)) else
    Err ExtraText

abbrev pub is_symmetric : Stage → Bool
is_symmetric AtBanner = false
is_symmetric (AtSize symmetric) = symmetric
is_symmetric (AtEntries symmetric s seen) = symmetric

-- the cells that a line adds
abbrev pub added : Stage → Option Cell → List Cell
added stage None = []
added stage (Some cell) = cells_of (is_symmetric stage) cell

pub record EntriesSoFar (limits : TextLimits) (lines : List (List ℕ)) (symmetric : Bool) (s : Size) (seen : ℕ)
    (cells : List Cell) : Type 0 where
  pub first : List ℕ
  pub second : List ℕ
  pub others : List (List ℕ)
  pub lines_are : lines ≡ first ∷ second ∷ others
  pub is_banner : banner first ≡ Ok symmetric
  pub is_size : size symmetric limits.max_entries second ≡ Ok s
  pub entries : List Cell
  pub are_entries : map (entry s.rows s.cols) others ≡ map Ok entries
  pub cells_are : cells ≡ flat_map (cells_of symmetric) entries
  pub seen_is : length others ≡ seen
  pub within : seen ≤ s.entries

-- The lines that count mean this much.
abbrev pub StageIs : TextLimits → List (List ℕ) → List Cell → Stage → Type 0
StageIs limits lines cells AtBanner = (lines ≡ []) × (cells ≡ [])
StageIs limits lines cells (AtSize symmetric) = (first : List ℕ) × (lines ≡ first ∷ []) ×
    (banner first ≡ Ok symmetric) × (cells ≡ [])
StageIs limits lines cells (AtEntries symmetric s seen) = EntriesSoFar limits lines symmetric s seen cells

-- Behind these lines this one bears no fault.
pub record IsFine (limits : TextLimits) (before : List (List ℕ)) (line : List ℕ) : Type 0 where
  pub short : is_limited before line ≡ true → length (content line) ≤ 1024
  pub right : counts before line ≡ true → fault_behind limits (counted before) (content line) ≡ None

-- Each of these lines is fine behind those before it.
pub record Clean (limits : TextLimits) (lines : List (List ℕ)) : Type 0 where
  pub each : (before after : List (List ℕ)) (line : List ℕ) → lines ≡ before ++ line ∷ after → IsFine limits before line

-- What the reader has kept of these whole lines, which bear no fault.
pub record Keeps (limits : TextLimits) (done : List (List ℕ)) (stage : Stage) (cells : List Cell) (lines : ℕ) : Type
    0 where
  pub clean : Clean limits done
  pub stage_is : StageIs limits (counted done) cells stage
  pub lines_are : lines ≡ length done

-- what a line, the first or another, makes of a stage: nothing where it is skipped
abbrev pub judged : TextLimits → Stage → Bool → List ℕ → Result (Option (Stage × Option Cell)) MmKind
judged limits stage is_first line =
    if (is_first || not (is_comment line)) && nat_lt 1024 (length (content line)) then Err LineTooLong
    else (if is_first || not (is_skipped line) then (step limits stage (content line) >>= λ next. Ok (Some next)) else
    Ok None)

-- Behind these lines, this line is too long.
pub record IsOverlong (done : List (List ℕ)) (line : List ℕ) (kind : MmKind) : Type 0 where
  pub kind_is : kind ≡ LineTooLong
  pub limited : is_limited done line ≡ true
  pub long : 1024 < length (content line)

-- Behind these lines, this line's words bear this fault.
pub record IsWrong (limits : TextLimits) (done : List (List ℕ)) (line : List ℕ) (kind : MmKind) : Type 0 where
  pub short : is_limited done line ≡ true → length (content line) ≤ 1024
  pub counted_too : counts done line ≡ true
  pub wrong : fault_behind limits (counted done) (content line) ≡ Some kind

-- Behind these lines, this line is a good entry, but memory for its cells ran out.
pub record IsUnstored (limits : TextLimits) (done : List (List ℕ)) (line : List ℕ) (kind : MmKind) : Type 0 where
  pub kind_is : kind ≡ Memory
  pub short : is_limited done line ≡ true → length (content line) ≤ 1024
  pub entry : IsGoodEntry limits done line

-- what a line that isn't taken is: too long or wrong, or memory ran out
abbrev pub LineFault : TextLimits → List (List ℕ) → List ℕ → MmKind → Type 0
LineFault limits done line kind = IsOverlong done line kind ⊎
    (IsWrong limits done line kind ⊎ IsUnstored limits done line kind)

-- what the size line declared, once it was read
abbrev pub declared_size : Stage → Option Size
declared_size AtBanner = None
declared_size (AtSize symmetric) = None
declared_size (AtEntries symmetric s seen) = Some s

-- this stage, behind so many lines
abbrev pub at : Stage → ℕ → Progress
at stage lines = record { stage = stage; lines = lines }

-- A line of this description was judged: it adds these cells, whatever lines and cells are kept before it.
pub record AddsLine (limits : TextLimits) (IsThis : List ℕ → Type 0) (old : Progress) (block : List Cell)
    (new : Progress) (block' : List Cell) : Type 0 where
  pub cells : List Cell
  pub block_is : block' ≡ block ++ cells
  pub few : length cells ≤ 2
  pub keeps : (line : List ℕ) (done : List (List ℕ)) (given : List Cell) → IsThis line →
      Keeps limits done old.stage given old.lines →
      Keeps limits (done ++ line ∷ []) new.stage (given ++ cells) new.lines
  pub size_kept : (s : Size) → declared_size old.stage ≡ Some s → declared_size new.stage ≡ Some s

-- These bytes are whole lines and then a rest without LF, and the lines are kept behind the ones before.
pub record TakesLines (limits : TextLimits) (done : List (List ℕ)) (bytes rest : List ℕ) (stage : Stage)
    (cells : List Cell) (count : ℕ) : Type 0 where
  pub lines : List (List ℕ)
  pub all : AllByRecursion IsLine lines
  pub whole : bytes ≡ joined lines ++ rest
  pub partial : IsLine rest
  pub keeps : Keeps limits (done ++ lines) stage cells count

-- what is missing if the text ends here
abbrev pub lack_at : Stage → Option MmKind
lack_at AtBanner = Some BadBanner
lack_at (AtSize symmetric) = Some BadSize
lack_at (AtEntries symmetric s seen) = if nat_lt seen s.entries then Some TooFewEntries else None

-- the fault of a text that goes on past its limit behind these bytes of a line, the first or another
abbrev pub cut_kind : Bool → List ℕ → MmKind
cut_kind is_first rest = if (is_first || not (is_comment rest)) && nat_lt 1024 (length (content rest)) then LineTooLong
    else TooLong

-- What is carried of the present line: all of it, or no more than shows that it is a comment.
abbrev pub IsCarried : ℕ → List ℕ → List ℕ → Type 0
IsCarried count rest carry = (carry ≡ rest) ⊎ ((0 < count) × (is_comment rest ≡ true) × (is_comment carry ≡ true))

-- What is kept of the lines of a text so far: which line that counts comes next, how many lines were judged, and what
-- is
-- carried of the present one.
pub record LineState : Type 0 where
  pub carry : List ℕ
  pub stage : Stage
  pub count : ℕ

abbrev pub state : List ℕ → Stage → ℕ → LineState
state carry stage count = record { carry = carry; stage = stage; count = count }

abbrev pub state_of : LineReader → LineState
state_of reader = state reader.carry.items reader.progress.stage reader.progress.lines

-- What the reader keeps of the bytes that it has judged: they are whole lines, which it keeps, and the present line
-- so far, which it carries; they are within the limit, and the present line isn't too long yet.
pub record Holds (limits : TextLimits) (text : List ℕ) (now : LineState) (cells : List Cell) : Type 0 where
  pub rest : List ℕ
  pub takes : TakesLines limits [] text rest now.stage cells now.count
  pub carried : IsCarried now.count rest now.carry
  pub fits : length text ≤ limits.max_bytes
  pub short : cut_kind (nat_eq now.count 0) rest ≡ TooLong

-- The line ends with these bytes, behind what is carried of it.
abbrev pub EndsCarried : ℕ → List ℕ → List ℕ → List ℕ → Type 0
EndsCarried count carry front line = (rest : List ℕ) × IsCarried count rest carry × (line ≡ rest ++ front)

-- These bytes were judged: they add these cells, whatever text within the limit they continue.
pub record Advances (limits : TextLimits) (bytes : List ℕ) (old : LineState) (block : List Cell) (new : LineState)
    (block' : List Cell) : Type 0 where
  pub cells : List Cell
  pub block_is : block' ≡ block ++ cells
  pub holds : (text : List ℕ) (given : List Cell) → length text + length bytes ≤ limits.max_bytes →
      Holds limits text old given → Holds limits (text ++ bytes) new (given ++ cells)
  pub size_kept : (s : Size) → declared_size old.stage ≡ Some s → declared_size new.stage ≡ Some s

-- A front of these bytes was judged before a fault: it added these cells, whatever text within the limit the bytes
-- continue.
pub record StopsWithin (limits : TextLimits) (bytes : List ℕ) (old : LineState) (block block' : List Cell) : Type
    0 where
  pub front : ℕ
  pub within : front ≤ length bytes
  pub reached : LineState
  pub advances : Advances limits (take front bytes) old block reached block'

-- The text begins with lines that bear no fault, and these are their cells.
pub record BeginsWith (limits : TextLimits) (text : List ℕ) (cells : List Cell) : Type 0 where
  pub done : List (List ℕ)
  pub after : List (List ℕ)
  pub lines : lines_of text ≡ done ++ after
  pub stage : Stage
  pub count : ℕ
  pub keeps : Keeps limits done stage cells count

-- What is carried was judged as the last line of a text: it adds these cells, whatever text ends with it.
pub record EndsLast (limits : TextLimits) (old : LineState) (block : List Cell) (new : Progress)
    (block' : List Cell) : Type 0 where
  pub cells : List Cell
  pub block_is : block' ≡ block ++ cells
  pub few : length cells ≤ 2
  pub keeps : (text : List ℕ) (given : List Cell) → Holds limits text old given →
      Keeps limits (lines_of text) new.stage (given ++ cells) new.lines
  pub size_kept : (s : Size) → declared_size old.stage ≡ Some s → declared_size new.stage ≡ Some s

-- The text has ended, and nothing is missing: it spells the cells that were given before and these.
pub record EndsText (limits : TextLimits) (old : LineState) (block : List Cell) (stage : Stage)
    (block' : List Cell) : Type 0 where
  pub cells : List Cell
  pub block_is : block' ≡ block ++ cells
  pub few : length cells ≤ 2
  pub size : Size
  pub size_is : declared_size stage ≡ Some size
  pub spells : (text : List ℕ) (given : List Cell) → Holds limits text old given →
      Spells text limits size.rows size.cols (given ++ cells)
  pub size_kept : (s : Size) → declared_size old.stage ≡ Some s → declared_size stage ≡ Some s

-- The text ends with a fault: before it these cells were added, whatever text ends with what is carried.
pub record EndsWithin (limits : TextLimits) (old : LineState) (block block' : List Cell) : Type 0 where
  pub cells : List Cell
  pub block_is : block' ≡ block ++ cells
  pub begins : (text : List ℕ) (given : List Cell) → Holds limits text old given →
      BeginsWith limits text (given ++ cells)
