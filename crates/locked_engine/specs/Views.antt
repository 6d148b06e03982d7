-- What contracts see of names and of seats.
--     NamesView       a setup, a number of seats, and the names of both ledgers and of the history
--     SeatView        a seat's number, its share of the first ledger, the version that it was shown, and the batches that
--                     it knows as accepted: a beginning of those that weren't folded at the opening and all later ones
--     Course          the entries and the batches of a history, those that it was opened with too
use Rattle.std.specs.Prelude.{ℕ, List, refl}
use Rattle.std.specs.Coded.{Coded, code_by, coded×, coded_ℕ, coded_list}
use Rattle.logbook.specs.Pages.{Book}
use Rattle.batch_store.specs.Setups.{Setting, coded_setting}
use Rattle.batch_store.specs.declared.verdict.Entry.{Entry}
use Rattle.batch_store.specs.Verdicts.{coded_entry}
use Rattle.batch_store.specs.Batches.{Submission, coded_submission}

pub record NamesView : Type 0 where
  pub setup : Setting
  pub seats : ℕ
  pub first : ℕ
  pub second : ℕ
  pub history : Book

abbrev pub coded_names : Coded NamesView
coded_names =
    code_by (Setting × (ℕ × (ℕ × (ℕ × (ℕ × (ℕ × ℕ))))))
    (coded× coded_setting (coded× coded_ℕ (coded× coded_ℕ (coded× coded_ℕ (coded× coded_ℕ (coded× coded_ℕ coded_ℕ))))))
    (λ n. (n.setup, (n.seats, (n.first, (n.second, (n.history.number, (n.history.log_name, n.history.cells_name)))))))
    (λ p. record {
      setup = p.0;
      seats = p.1.0;
      first = p.1.1.0;
      second = p.1.1.1.0;
      history = record { number = p.1.1.1.1.0; log_name = p.1.1.1.1.1.0; cells_name = p.1.1.1.1.1.1 };
    }) (λ _. refl)

pub record SeatView : Type 0 where
  pub number : ℕ
  pub first : ℕ
  pub seen : List Entry
  pub known : List Submission

abbrev pub seat_view : ℕ → ℕ → List Entry → List Submission → SeatView
seat_view number first seen known = record { number = number; first = first; seen = seen; known = known }

abbrev pub coded_seat : Coded SeatView
coded_seat =
    code_by (ℕ × (ℕ × (List Entry × List Submission)))
    (coded× coded_ℕ (coded× coded_ℕ (coded× (coded_list coded_entry) (coded_list coded_submission))))
    (λ s. (s.number, (s.first, (s.seen, s.known)))) (λ p. seat_view p.0 p.1.0 p.1.1.0 p.1.1.1) (λ _. refl)

pub record Course : Type 0 where
  pub entries : List Entry
  pub batches : List Submission

abbrev pub course : List Entry → List Submission → Course
course entries batches = record { entries = entries; batches = batches }

abbrev pub coded_course : Coded Course
coded_course =
    code_by (List Entry × List Submission) (coded× (coded_list coded_entry) (coded_list coded_submission))
    (λ s. (s.entries, s.batches)) (λ p. course p.0 p.1) (λ _. refl)
