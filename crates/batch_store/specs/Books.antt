-- What contracts see of a book, and what it keeps.
--     Register        the setup, what was accepted, and for how many more batches there is room without memory
--     AreAccepted     no client and number stands twice, folded or not, each batch that isn't folded has the setup's
--                     dimensions, both limits hold, and the base is that of the folded batches
--     verdict_on      the verdict of a book on a batch
--     list_total      the sum of the totals of a list of batches
--     Listing         a list of what was accepted, as it is handed out: the base is a matrix
--     line_entries    the entries that lines tell
--     state_of        what a book's fields tell together
--     KeepsBook       what a book's fields keep: all that, the entry of each batch that isn't folded in its line, the
--                     total up to each line, and the total of all
use Rattle.std.specs.Prelude.{◌≡◌, ℕ, ◌+◌, ◌≤◌, Bool, ◌==◌, ◌&&◌, List, [], ◌∷◌, ◌++◌, length, take, drop, map, refl}
use Rattle.std.specs.Coded.{Coded, code_by, coded×, coded_ℕ, coded_list}
use Rattle.std.specs.List.{IsDistinct}
use Rattle.hyper_matrix.specs.Matrix.{Matrix, matrix, coded_matrix}
use Rattle.batch_store.specs.declared.pair.Pair.{Pair}
use Rattle.batch_store.specs.declared.line.Line.{Line}
use Rattle.batch_store.specs.Setups.{Setting, coded_setting, IsSetting}
use Rattle.batch_store.specs.Batches.{Submission, coded_submission, entry_of, entries_of}
use Rattle.batch_store.specs.declared.verdict.Entry.{Entry}
use Rattle.batch_store.specs.declared.verdict.Verdict.{Verdict}
use Rattle.batch_store.specs.Verdicts.{coded_entry, total_of_entries, same_pair, verdict_of}
use Rattle.batch_store.specs.Accepted.{Accepted, accepted, coded_accepted, entries_in, count_in, total_in, IsBase}
use Rattle.batch_store.specs.Folds.{Fold}

pub record Register : Type 0 where
  pub setup : Setting
  pub state : Accepted
  pub free : ℕ

abbrev pub register : Setting → Accepted → ℕ → Register
register s a f = record { setup = s; state = a; free = f }

abbrev pub coded_register : Coded Register
coded_register =
    code_by (Setting × (Accepted × ℕ)) (coded× coded_setting (coded× coded_accepted coded_ℕ))
    (λ v. (v.setup, (v.state, v.free))) (λ p. register p.0 p.1.0 p.1.1) (λ _. refl)

pub record Listing : Type 0 where
  pub base : Matrix
  pub folded : List Entry
  pub list : List Submission

abbrev pub listing : Matrix → List Entry → List Submission → Listing
listing base folded list = record { base = base; folded = folded; list = list }

abbrev pub coded_listing : Coded Listing
coded_listing =
    code_by (Matrix × (List Entry × List Submission))
    (coded× coded_matrix (coded× (coded_list coded_entry) (coded_list coded_submission)))
    (λ v. (v.base, (v.folded, v.list))) (λ p. listing p.0 p.1.0 p.1.1) (λ _. refl)

-- what a list tells, and the list that tells it under a setup
abbrev pub accepted_in : Listing → Accepted
accepted_in v = accepted v.base.counts v.folded v.list

abbrev pub listed_in : Setting → Accepted → Listing
listed_in s a = listing (matrix s.rows s.cols a.base) a.folded a.list

-- the totals of a list of batches together
abbrev pub list_total : List Submission → ℕ
list_total list = total_of_entries (entries_of list)

-- no client and number stands twice in a list
abbrev pub AreDistinct : List Submission → Type 0
AreDistinct list = IsDistinct same_pair (entries_of list)

-- each batch's matrix has these dimensions
abbrev pub HaveDims : ℕ → ℕ → List Submission → Type 0
HaveDims r c [] = Unit {0}
HaveDims r c (b ∷ bs) = (b.matrix.rows ≡ r) × (b.matrix.cols ≡ c) × HaveDims r c bs

pub record AreAccepted (setup : Setting) (a : Accepted) : Type 0 where
  pub sound : IsSetting setup
  pub distinct : IsDistinct same_pair (entries_in a)
  pub dims : HaveDims setup.rows setup.cols a.list
  pub few : count_in a ≤ setup.max_batches
  pub within : total_in a ≤ setup.limit
  pub based : IsBase a.base a.folded

abbrev pub verdict_on : Register → Submission → Verdict
verdict_on v b = verdict_of v.setup.limit v.setup.max_batches (entries_in v.state) (entry_of b)

-- whether two keys are the same
abbrev pub same_key : Pair → Pair → Bool
same_key p q = (p.client == q.client) && (p.number == q.number)

-- what a verdict reads of a line
abbrev pub line_entry : Pair × Line → Entry
line_entry e = record { client = e.0.client; number = e.0.number; cells = e.1.cells; total = e.1.total }

abbrev pub line_entries : List (Pair × Line) → List Entry
line_entries lines = map line_entry lines

-- each line tells the total up to it, where those before have this total
abbrev pub AreLines : ℕ → List (Pair × Line) → Type 0
AreLines total [] = Unit {0}
AreLines total (e ∷ es) = (e.1.total_after ≡ total + e.1.total) × AreLines (total + e.1.total) es

-- what a base, entries, lines and batches tell together, of which the first so many lines are of folded batches
abbrev pub state_of : Fold → ℕ → List (Pair × Line) → List Submission → Accepted
state_of past gone lines list = accepted past.base.counts (past.entries ++ line_entries (take gone lines)) list

pub record KeepsBook (setup : Setting) (total : ℕ) (past : Fold) (gone : ℕ) (lines : List (Pair × Line))
    (list : List Submission) : Type 0 where
  pub told : AreAccepted setup (state_of past gone lines list)
  pub rows : past.base.rows ≡ setup.rows
  pub cols : past.base.cols ≡ setup.cols
  pub kept : AreLines (total_of_entries past.entries) lines
  pub adds_up : total ≡ total_in (state_of past gone lines list)
  pub within : gone ≤ length lines
  pub same : entries_of list ≡ line_entries (drop gone lines)
  pub count : count_in (state_of past gone lines list) ≡ length past.entries + length lines
