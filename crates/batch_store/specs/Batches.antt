-- What contracts see of a batch, and what a verdict reads of it.
--     Submission      its client, its number and its matrix
--     batch_total     the sum of all its counts
--     entry_of        what a verdict reads of it: client, number, how many cells it has, and its total
use Rattle.std.specs.Prelude.{ℕ, List, map, refl}
use Rattle.std.specs.Coded.{Coded, code_by, coded×, coded_ℕ}
use Rattle.std.specs.FinMap.{len}
use Rattle.std.specs.Arc.{arc_value}
use Rattle.std.specs.declared.sync.Arc.{Arc}
use Rattle.hyper_matrix.specs.Matrix.{Matrix, coded_matrix}
use Rattle.hyper_matrix.specs.Counts.{total}
use Rattle.batch_store.specs.declared.verdict.Entry.{Entry}

pub record Submission : Type 0 where
  pub client : ℕ
  pub number : ℕ
  pub matrix : Matrix

abbrev pub submission : ℕ → ℕ → Matrix → Submission
submission c n m = record { client = c; number = n; matrix = m }

abbrev pub coded_submission : Coded Submission
coded_submission =
    code_by (ℕ × (ℕ × Matrix)) (coded× coded_ℕ (coded× coded_ℕ coded_matrix))
    (λ b. (b.client, (b.number, b.matrix))) (λ p. submission p.0 p.1.0 p.1.1) (λ _. refl)

abbrev pub batch_total : Submission → ℕ
batch_total b = total b.matrix.counts

abbrev pub entry_of : Submission → Entry
entry_of b = record { client = b.client; number = b.number; cells = len b.matrix.counts; total = batch_total b }

abbrev pub entries_of : List Submission → List Entry
entries_of list = map entry_of list

-- the batches behind a list of shared ones
abbrev pub values : {Z : Type 0} → List (Arc Submission Z) → List Submission
values list = map arc_value list
