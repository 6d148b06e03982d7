-- What names an engine, and its seats when it was opened.
--     NamesEngine     these are the names' setup and number of seats, their history, their ledgers, and the ledgers'
--                     parts: one of the first for each seat, one of the second for each shard and each seat
--     opened_seats    the seats of an engine that was just opened, in order of their numbers: the first has all that
--                     was accepted before, the others have nothing; each was shown this version, and knows these batches
--     firsts          the seats' shares of the first ledger, added up
--     SharePast a b   what is folded in b is folded in a too, and behind it these batches, which are in a's base beside
--                     what b's has
--     IsBehind o es seen
--                     these are the entries of a version behind some first ones, no fewer than are folded in o
--     HasFolded o all a
--                     of these batches, which stand behind those that are folded in o, so many are folded in a too, and
--                     the others aren't
use Rattle.std.specs.Prelude.{◌≡◌, ℕ, ◌+◌, ◌≤◌, ◌==◌, if◌then◌else◌, zero, suc, List, [], ◌∷◌, ◌++◌, sum_by, length, drop}
use Rattle.logbook.specs.Pages.{Book}
use Rattle.hyper_matrix.specs.Counts.{ewise_add}
use Rattle.batch_store.specs.Setups.{Setting}
use Rattle.batch_store.specs.declared.verdict.Entry.{Entry}
use Rattle.batch_store.specs.Accepted.{Accepted, accepted, list_sum}
use Rattle.batch_store.specs.Batches.{Submission, entries_of}
use Rattle.batch_store.specs.BookFolds.{folded_to}
use Rattle.locked_engine.specs.Views.{NamesView, SeatView, seat_view}

pub record NamesEngine (names : NamesView) (setup : Setting) (seats : ℕ) (history : Book)
    (first first_parts second second_parts : ℕ) : Type 0 where
  pub setup_is : names.setup ≡ setup
  pub seats_is : names.seats ≡ seats
  pub history_is : names.history ≡ history
  pub first_is : names.first ≡ first
  pub first_parts_is : names.seats ≡ first_parts
  pub second_is : names.second ≡ second
  pub second_parts_is : names.setup.shards + names.seats ≡ second_parts

abbrev pub opened_seat : List Entry → List Submission → ℕ → ℕ → SeatView
opened_seat shown known total i = seat_view i (if i == 0 then total else 0) shown known

abbrev pub opened_seats : List Entry → List Submission → ℕ → ℕ → List SeatView
opened_seats shown known total zero = []
opened_seats shown known total (suc n) = opened_seats shown known total n ++ opened_seat shown known total n ∷ []

abbrev pub firsts : List SeatView → ℕ
firsts seats = sum_by (λ (s : SeatView). s.first) seats

pub record SharePast (a b : Accepted) : Type 0 where
  pub since : List Submission
  pub base : a.base ≡ ewise_add b.base (list_sum since)
  pub folded : a.folded ≡ b.folded ++ entries_of since

abbrev pub IsBehind : Accepted → List Entry → List Entry → Type 0
IsBehind opened es seen = (n : ℕ) × (length opened.folded ≤ n) × (es ≡ drop n seen)

pub record HasFolded (opened : Accepted) (all : List Submission) (a : Accepted) : Type 0 where
  pub count : ℕ
  pub within : count ≤ length all
  pub state : a ≡ folded_to count (accepted opened.base opened.folded all)
