-- The files of a compact matrix, and what a folder that tells its files holds of them.
--     parts_of rows cols matrix  the three files with these bytes, in the order in which they are made and renamed
--     HaveNew rows cols matrix m n
--                                they stand under their names with `.new`, and every other file is as before
--     AreThere m                 all three do
--     named_in m name            the file of this name with `.new` has the name
--     AreMoved m n               all three have theirs
use Rattle.std.specs.Prelude.{◌≡◌, ℕ, Bool, true, false, List, [], ◌∷◌, codes, Option, Some, None, IsSome, unwrap_or}
use Rattle.std.specs.FinMap.{get, insert, remove}
use Rattle.file_folder.specs.Files.{Files}
use Rattle.snap_file.specs.Saving.{unfinished}
use Rattle.snap_export.specs.Saved.{FilePart, KeepsNamed}

abbrev pub rows_name : List ℕ
rows_name = codes "rows.txt"

abbrev pub cols_name : List ℕ
cols_name = codes "cols.txt"

abbrev pub matrix_name : List ℕ
matrix_name = codes "matrix.mtx"

abbrev pub parts_of : List ℕ → List ℕ → List ℕ → List FilePart
parts_of rows cols matrix = (rows_name, rows) ∷ (cols_name, cols) ∷ (matrix_name, matrix) ∷ []

pub record HaveNew (rows cols matrix : List ℕ) (m n : Files) : Type 0 where
  pub rows_are : get n (unfinished rows_name) ≡ Some rows
  pub cols_are : get n (unfinished cols_name) ≡ Some cols
  pub matrix_is : get n (unfinished matrix_name) ≡ Some matrix
  pub others : KeepsNamed (parts_of rows cols matrix) m n

abbrev pub AreThere : Files → Type 0
AreThere m = IsSome (get m (unfinished rows_name)) × IsSome (get m (unfinished cols_name))
    × IsSome (get m (unfinished matrix_name))

abbrev pub named_in : Files → List ℕ → Files
named_in m name = insert (remove m (unfinished name)) name (unwrap_or (get m (unfinished name)) [])

abbrev pub AreMoved : Files → Files → Type 0
AreMoved m n = n ≡ named_in (named_in (named_in m rows_name) cols_name) matrix_name

-- the name last created in a folder that keeps it
abbrev pub created_name : Bool → List ℕ → Option (List ℕ)
created_name true name = Some name
created_name false name = None
