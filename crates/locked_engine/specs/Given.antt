-- Which batches were accepted, and not only which entries.
--     IsGiven opened b known k
--                     this batch is among those that are known as accepted, at the index of this reply. The list has
--                     the batches that weren't folded at the opening, and all later ones
--     AreKnown seats all
--                     what each of these seats knows begins these batches
--     Given opened seats b k
--                     one of these seats had this batch accepted first, with this reply: it is in what the seat knew
--                     then, which begins what the seat knows since
use Rattle.std.specs.Prelude.{◌≡◌, ◌-◌, ◌≤◌, List, [], ◌∷◌, Contains, length, slice_get, Some}
use mathlib.Core.List.{IsPrefix}
use Rattle.batch_store.specs.declared.verdict.Kept.{Kept}
use Rattle.batch_store.specs.Accepted.{Accepted}
use Rattle.batch_store.specs.Batches.{Submission}
use Rattle.locked_engine.specs.Views.{SeatView}

pub record IsGiven (opened : Accepted) (b : Submission) (known : List Submission) (k : Kept) : Type 0 where
  pub later : length opened.folded ≤ k.index
  pub there : slice_get known (k.index - length opened.folded) ≡ Some b

abbrev pub AreKnown : List SeatView → List Submission → Type 0
AreKnown [] all = Unit {0}
AreKnown (s ∷ ss) all = IsPrefix s.known all × AreKnown ss all

pub record Given (opened : Accepted) (seats : List SeatView) (b : Submission) (k : Kept) : Type 0 where
  pub seat : SeatView
  pub among : Contains seats seat
  pub known : List Submission
  pub given : IsGiven opened b known k
  pub later : IsPrefix known seat.known
