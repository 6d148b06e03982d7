-- What a folder holds, and what one call does to it.
use Rattle.std.specs.Prelude.{◌≡◌, ◌≢◌, ℕ, List, [], ◌++◌, Option, Some, None, Ok, Err, unwrap_or}
use Rattle.std.specs.Ordering.{nat_cmp}
use Rattle.std.specs.Cmp.Lexicographic.{slice_cmp}
use Rattle.std.specs.FinMap.{FinMap, get, insert, remove}
use Rattle.byte_io.specs.Streams.{Answer}

-- the bytes of the file under each name
abbrev pub Files : Type 0
Files = FinMap (slice_cmp nat_cmp) (List ℕ)

-- Where the files are told before a call, they are told after it, and the two are so related. None is a folder that
-- doesn't tell its files, and goes on so.
abbrev pub WhereTold : (Files → Files → Type 0) → Option Files → Option Files → Type 0
WhereTold R None None = Unit {0}
WhereTold R None (Some n) = ⊥
WhereTold R (Some m) None = ⊥
WhereTold R (Some m) (Some n) = R m n

-- every file but the one under this name is as before
abbrev pub KeepsOthers : List ℕ → Files → Files → Type 0
KeepsOthers name m n = (other : List ℕ) → other ≢ name → get n other ≡ get m other

-- the file under the name is empty
abbrev pub IsMade : List ℕ → Files → Files → Type 0
IsMade name m n = n ≡ insert m name []

-- these bytes stand behind those that the file had
abbrev pub HasMore : List ℕ → List ℕ → Files → Files → Type 0
HasMore name bytes m n = n ≡ insert m name (unwrap_or (get m name) [] ++ bytes)

-- the file under the name has these bytes, and every other file is as before
abbrev pub HasFile : List ℕ → List ℕ → Files → Files → Type 0
HasFile name bytes m n = (get n name ≡ Some bytes) × KeepsOthers name m n

-- what a write of the file under the name does: one that failed leaves every other file as it was
abbrev pub IsWritten : List ℕ → Answer → Files → Files → Type 0
IsWritten name (Ok bytes) m n = HasMore name bytes m n
IsWritten name (Err fault) m n = KeepsOthers name m n

-- the file stands under the name `to` and no longer under `from`
abbrev pub IsMoved : List ℕ → List ℕ → Files → Files → Type 0
IsMoved from to m n = n ≡ insert (remove m from) to (unwrap_or (get m from) [])

-- Under `path` stands a file of these bytes, under `beside` none, and every other file is as before.
pub record IsReplaced (path beside bytes : List ℕ) (m n : Files) : Type 0 where
  pub written : get n path ≡ Some bytes
  pub gone : get n beside ≡ None
  pub others : (other : List ℕ) → other ≢ path → other ≢ beside → get n other ≡ get m other
