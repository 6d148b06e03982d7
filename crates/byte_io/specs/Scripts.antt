-- A source and a sink in memory: what a call may answer, and what it leaves.
use Rattle.std.specs.Prelude.{◌≡◌, ◌≢◌, ℕ, ◌+◌, ◌-◌, ◌<◌, List, [], ◌∷◌, length, take, drop, ◌++◌, Option, Some, None}
use Rattle.std.specs.Prelude.{Ok, Err}
use Rattle.byte_io.specs.Streams.{Answer}

-- a piece before others, unless it is empty
abbrev pub before_pieces : List ℕ → List (List ℕ) → List (List ℕ)
before_pieces [] pieces = pieces
before_pieces (byte ∷ bytes) pieces = (byte ∷ bytes) ∷ pieces

-- the pieces that aren't empty
abbrev pub nonempty_pieces : List (List ℕ) → List (List ℕ)
nonempty_pieces [] = []
nonempty_pieces (piece ∷ pieces) = before_pieces piece (nonempty_pieces pieces)

-- the piece that is read from now
abbrev pub first_piece : List (List ℕ) → List ℕ
first_piece [] = []
first_piece (piece ∷ pieces) = piece

-- what is left of the pieces after a read into n bytes
abbrev pub pieces_behind : ℕ → List (List ℕ) → List (List ℕ)
pieces_behind n [] = []
pieces_behind n (piece ∷ pieces) = before_pieces (drop n piece) pieces

-- as many bytes as there is room for; without a limit, all
abbrev pub take_within : Option ℕ → List ℕ → List ℕ
take_within None bytes = bytes
take_within (Some n) bytes = take n bytes

-- a limit after n of what it limits
abbrev pub limit_less : Option ℕ → ℕ → Option ℕ
limit_less None n = None
limit_less (Some limit) n = Some (limit - n)

-- the pieces that a Script still gives, none of them empty, and how many reads it answers before they fail; what it
-- has taken, and how many bytes more it takes before writes fail; and how many calls failed
pub record ScriptState : Type 0 where
  pub pieces : List (List ℕ)
  pub reads_left : Option ℕ
  pub written : List ℕ
  pub room : Option ℕ
  pub failures : ℕ

-- A read into n bytes: no more than the rest of the present piece, and a failure exactly where no read is left.
abbrev pub IsRead : ℕ → ScriptState → Answer → ScriptState → Type 0
IsRead n s (Ok bytes) t = (s.reads_left ≢ Some 0) × (bytes ≡ take n (first_piece s.pieces))
    × (t ≡ record s { pieces = pieces_behind n s.pieces; reads_left = limit_less s.reads_left 1 })
IsRead n s (Err fault) t = (s.reads_left ≡ Some 0) × (t ≡ record s { failures = s.failures + 1 })

-- A write that is offered these bytes: as many as there is room for. It fails where there is room for none of them, and
-- for want of memory.
abbrev pub IsWrite : List ℕ → ScriptState → Answer → ScriptState → Type 0
IsWrite offered s (Ok bytes) t = (bytes ≡ take_within s.room offered) × (0 < length offered → 0 < length bytes)
    × (t ≡ record s { written = s.written ++ bytes; room = limit_less s.room (length bytes) })
IsWrite offered s (Err fault) t = (0 < length offered) × (t ≡ record s { failures = s.failures + 1 })

-- A write failed though there was room for some of the bytes: there was no memory to keep them.
abbrev pub LacksMemory : List ℕ → ScriptState → Answer → ScriptState → Type 0
LacksMemory offered s (Ok bytes) t = ⊥
LacksMemory offered s (Err fault) t = (0 < length (take_within s.room offered)) ×
    (t ≡ record s { failures = s.failures + 1 })

abbrev pub script_gives : ScriptState → Answer → ScriptState → Type 0
script_gives s answer t = (n : ℕ) × IsRead n s answer t

abbrev pub script_takes : ScriptState → List ℕ → Answer → ScriptState → Type 0
script_takes s offered answer t = IsWrite offered s answer t
