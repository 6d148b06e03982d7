-- A setup that a start is given, over that of its files.
--     IsPlan g f p q   the setup of a server, q, whose files say f: the given numbers over these, of no fewer rows and
--                      columns. Until all is read and judged it is p: of the files' rows and columns, else as q
--     IsMisfit g s m   a number that was given is too small for a snapshot: for its rows or columns, or for the total
--                      or the number of batches that it has
--     IsHeadMisfit g u m
--                      so for the head of a log, whose rows or columns are more
--     IsRenewed begins names h log p i a
--                      where there is a log, one of setup p and identity i was begun, and one of all that was accepted
--                      was named
--     IsGrown saves begins names h path log p q x b a
--                      what was accepted under setup p is the same under q: where these are one nothing was done; else
--                      it was saved under the snapshot's path with setup q and origin x, and the log renewed so
use Rattle.std.specs.Prelude.{◌≡◌, ◌⊎◌, ℕ, ◌≤◌, List, Option, Some, None, String, string_bytes}
use Rattle.batch_store.specs.Setups.{Setting}
use Rattle.batch_store.specs.declared.verdict.Entry.{Entry}
use Rattle.batch_store.specs.Accepted.{Accepted, entries_in}
use Rattle.batch_store.specs.Books.{accepted_in, listed_in}
use Rattle.batch_store.specs.Growth.{IsDimMisfit, IsGrowthMisfit, given_over, grown_to, with_dims}
use Rattle.batch_store.specs.declared.given_numbers.GivenNumbers.{GivenNumbers}
use Rattle.batch_store.specs.declared.misfit.Misfit.{Misfit}
use Rattle.snap_file.specs.Snapshots.{Saved}
use Rattle.snap_file.specs.declared.origin.Identity.{Identity}
use Rattle.snap_file.specs.declared.origin.Origin.{Origin}
use Rattle.session_pool.specs.Saves.{IsSaved, of_origin}

pub record IsPlan (g : GivenNumbers) (f p q : Setting) : Type 0 where
  pub last : q ≡ given_over g f
  pub first : p ≡ with_dims q f
  pub rows : f.rows ≤ q.rows
  pub cols : f.cols ≤ q.cols

abbrev pub IsMisfit : GivenNumbers → Saved → Misfit → Type 0
IsMisfit g s m = IsGrowthMisfit s.setup (given_over g s.setup) (accepted_in s.list) m

abbrev pub IsHeadMisfit : GivenNumbers → Setting → Misfit → Type 0
IsHeadMisfit g u m = IsDimMisfit u (given_over g u) m

abbrev pub IsRenewed : {H Z : Type 0} → (H → List ℕ → Setting → Identity → List Entry → Type 0) →
    (H → List ℕ → List Entry → Type 0) → H → Option (String Z) → Setting → Identity → Accepted → Type 0
IsRenewed begins names h None p i a = Unit {0}
IsRenewed begins names h (Some log) p i a =
    ((es : List Entry) × begins h (string_bytes log) p i es) × names h (string_bytes log) (entries_in a)

pub record HasGrown {H Y Z : Type 0} (saves : H → List ℕ → Origin → Setting → Accepted → Type 0)
    (begins : H → List ℕ → Setting → Identity → List Entry → Type 0) (names : H → List ℕ → List Entry → Type 0) (h : H)
    (path : Option (String Y)) (log : Option (String Z)) (p q : Setting) (x : Origin) (b a : Accepted) : Type 0 where
  pub same : a ≡ accepted_in (grown_to q (listed_in p b))
  pub saved : IsSaved (of_origin saves x) h path q a
  pub renewed : IsRenewed begins names h log q x.identity a

abbrev pub IsGrown : {H Y Z : Type 0} → (H → List ℕ → Origin → Setting → Accepted → Type 0) →
    (H → List ℕ → Setting → Identity → List Entry → Type 0) → (H → List ℕ → List Entry → Type 0) → H →
    Option (String Y) → Option (String Z) → Setting → Setting → Origin → Accepted → Accepted → Type 0
IsGrown saves begins names h path log p q x b a =
    ((p ≡ q) × (a ≡ b)) ⊎ HasGrown saves begins names h path log p q x b a
