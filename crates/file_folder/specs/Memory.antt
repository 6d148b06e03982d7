-- A folder in memory: a list of files, of which the first under a name counts.
use Rattle.std.specs.Prelude.{◌≡◌, ℕ, ◌+◌, ◌-◌, ◌^◌, List, [], ◌∷◌, map, min, Bool, true, false, Option, Some, None, Ok, Err}
use Rattle.std.specs.Prelude.{String, Vec, string_bytes}
use Rattle.std.specs.FinMap.{from_entries}
use Rattle.byte_io.specs.Streams.{Answer}
use Rattle.file_folder.specs.Files.{Files, WhereTold, IsWritten}

-- the name of each file, and its bytes
abbrev pub listed : {Y Z : Type 0} → List (String Y × Vec ℕ Z) → List (List ℕ × List ℕ)
listed files = map (λ f. (string_bytes f.0, f.1.items)) files

abbrev pub files_of : {Y Z : Type 0} → List (String Y × Vec ℕ Z) → Files
files_of files = from_entries (listed files)

-- the name of the first file, where it is the one last created
abbrev pub first_name : Bool → List (List ℕ × List ℕ) → Option (List ℕ)
first_name false files = None
first_name true [] = None
first_name true (file ∷ files) = Some file.0

-- the number of calls after one more, which stays at 2^64 - 1 once there
abbrev pub next_call : ℕ → ℕ
next_call calls = min (calls + 1) (2 ^ 64 - 1)

-- a write takes all that it is offered, or fails
abbrev pub TakesAll : List ℕ → Answer → Type 0
TakesAll offered (Ok bytes) = bytes ≡ offered
TakesAll offered (Err fault) = Unit {0}

-- what a write does, of the file last created and of all files
pub record IsMemoryWrite (offered : List ℕ) (answer : Answer) (created created' : Option (List ℕ)) (m n : Files) :
    Type 0 where
  pub all : TakesAll offered answer
  pub written : (name : List ℕ) → created ≡ Some name →
      (created' ≡ Some name) × WhereTold (IsWritten name answer) (Some m) (Some n)
