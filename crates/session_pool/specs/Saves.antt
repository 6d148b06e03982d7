-- What was saved, by the word of a disk.
--     IsSaved saves d path v a
--                     where there is a path, the disk d has answered that this was saved under it as what was accepted,
--                     folded batches included, with its setup
--     path_of path    a path as its bytes, if there is one
--     of_origin saves o
--                     what a disk has answered to be saved as of this origin
--     of_book saves i what a disk has answered to be saved by a book of this identity
--     IsBegun names d log path es
--                     where there is a path of a log and one to save to, the place d has answered that a log of these
--                     entries was given the name under the log's path
use Rattle.std.specs.Prelude.{◌≡◌, ℕ, List, Option, Some, None, String, string_bytes}
use Rattle.batch_store.specs.Setups.{Setting}
use Rattle.batch_store.specs.declared.verdict.Entry.{Entry}
use Rattle.batch_store.specs.Accepted.{Accepted}
use Rattle.snap_file.specs.declared.origin.Identity.{Identity}
use Rattle.snap_file.specs.declared.origin.Origin.{Origin}

abbrev pub IsSaved : {D Z : Type 0} → (D → List ℕ → Setting → Accepted → Type 0) → D → Option (String Z) →
    Setting → Accepted → Type 0
IsSaved saves d None v a = Unit {0}
IsSaved saves d (Some path) v a = saves d (string_bytes path) v a

abbrev pub path_of : {Z : Type 0} → Option (String Z) → Option (List ℕ)
path_of None = None
path_of (Some path) = Some (string_bytes path)

abbrev pub of_origin : {D : Type 0} → (D → List ℕ → Origin → Setting → Accepted → Type 0) → Origin → D → List ℕ →
    Setting → Accepted → Type 0
of_origin saves o d path = saves d path o

abbrev pub of_book : {D : Type 0} → (D → List ℕ → Origin → Setting → Accepted → Type 0) → Identity → D → List ℕ →
    Setting → Accepted → Type 0
of_book saves i d path v a = (o : Origin) × (o.identity ≡ i) × saves d path o v a

abbrev pub IsBegun : {D Z : Type 0} → (D → List ℕ → List Entry → Type 0) → D → Option (String Z) → Option (String Z) →
    List Entry → Type 0
IsBegun names d None path es = Unit {0}
IsBegun names d (Some log) None es = Unit {0}
IsBegun names d (Some log) (Some path) es = names d (string_bytes log) es
