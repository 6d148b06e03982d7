-- What a book hands out to a log.
--     Follows from es seen    these entries stand in what was shown from this place on
use Rattle.std.specs.Prelude.{ℕ, ◌≤◌, ◌++◌, List, length, take}
use mathlib.Core.List.{IsPrefix}
use Rattle.batch_store.specs.declared.verdict.Entry.{Entry}

pub record Follows (from : ℕ) (es seen : List Entry) : Type 0 where
  pub within : from ≤ length seen
  pub next : IsPrefix (take from seen ++ es) seen
