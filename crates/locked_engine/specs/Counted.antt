-- What the answers of `Engine::put` and of `Engine::close` say together.
--     Answered v seats e k
--             one of these seats was answered Ok, with this reply, to a put of a batch of this entry: the answer is
-- true
--             of what the seat was shown then, which begins what it was shown since
--     CountsOnce es e k
--             among these entries this one stands at the place that the reply tells, the totals up to there add up to
--             the reply's, and its client and number stand at no other place
use Rattle.std.specs.Prelude.{◌≡◌, ℕ, ◌+◌, true, List, Contains, slice_get, take, Some, Ok}
use mathlib.Core.List.{IsPrefix}
use Rattle.batch_store.specs.declared.verdict.Entry.{Entry}
use Rattle.batch_store.specs.declared.verdict.Kept.{Kept}
use Rattle.batch_store.specs.Setups.{Setting}
use Rattle.batch_store.specs.Verdicts.{same_pair, total_of_entries}
use Rattle.locked_engine.specs.Told.{IsTold}
use Rattle.locked_engine.specs.Views.{SeatView}

pub record Answered (v : Setting) (seats : List SeatView) (e : Entry) (k : Kept) : Type 0 where
  pub seat : SeatView
  pub among : Contains seats seat
  pub seen : List Entry
  pub told : IsTold v e seen (Ok k)
  pub later : IsPrefix seen seat.seen

pub record CountsOnce (es : List Entry) (e : Entry) (k : Kept) : Type 0 where
  pub stands : slice_get es k.index ≡ Some e
  pub reply : k.total_after ≡ total_of_entries (take (k.index + 1) es)
  pub once : (i : ℕ) (f : Entry) → slice_get es i ≡ Some f → same_pair e f ≡ true → i ≡ k.index
