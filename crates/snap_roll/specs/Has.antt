-- Whether a snapshot has the batch of a client with a number.
--     entry_at a i             the entry of the batch at an index, counted from 0 over all, folded or not
--     IsAt a client number f   the batch at this index, folded or not, has this entry, and is of this client and number
--     IsSaid a client number o it is this one; or there is none
--     found_line f, has_line o the line of it
use Rattle.std.specs.Prelude.{◌≡◌, ℕ, List, [], ◌∷◌, ◌++◌, slice_get, codes, decimal, Option, Some, None}
use Rattle.batch_store.specs.Accepted.{Accepted, entries_in}
use Rattle.batch_store.specs.declared.verdict.Entry.{Entry}
use Rattle.snap_roll.specs.declared.has.Found.{Found}

abbrev pub entry_at : Accepted → ℕ → Option Entry
entry_at a i = slice_get (entries_in a) i

pub record IsAt (a : Accepted) (client number : ℕ) (found : Found) : Type 0 where
  pub entry : entry_at a found.index ≡ Some found.entry
  pub client_is : found.entry.client ≡ client
  pub number_is : found.entry.number ≡ number

abbrev pub IsSaid : Accepted → ℕ → ℕ → Option Found → Type 0
IsSaid a client number (Some found) = IsAt a client number found
IsSaid a client number None = (found : Found) → IsAt a client number found → ⊥

abbrev pub found_line : Found → List ℕ
found_line found =
    (codes "index " ++ decimal found.index) ++ (codes " cells " ++ decimal found.entry.cells)
    ++ (codes " total " ++ decimal found.entry.total) ++ 10 ∷ []

abbrev pub has_line : Option Found → List ℕ
has_line (Some found) = found_line found
has_line None = codes "none" ++ 10 ∷ []
