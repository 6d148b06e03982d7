-- The rule of an engine's history, and what its steps tell. The history is a list of lines, which exists in proofs
-- alone: the first line opens it, and each line behind it is a batch and its entry. Each line names the place that the
-- next one takes, a cell of the book (`logbook`), which is then at home. Who has the pen of the place that is to be taken next
-- knows that nobody has gone on, and nobody else can.
--     place_from k ls  the place that the line behind these takes, where the first of them took place k
--     AreTaken cells k ls
--                      the places that these lines took are at home, the first of them k
--     IsKept           each line's place is at home; the first word, which stands at place 0, is 0 only where there is
--                      no line yet
--     head_of          the first word of a history
--     added_in         the entries of a history: those of its lines behind the first; given_in: the batches
--     none_prop        that there are no batches is a proposition
--     Begins           the first line was written, and there is a pen for the place that it names; or the word was not
-- 0
--     Places           there is a pen for a new place
--     Adds             the line was added to all that had been seen
--     Looks            whatever begins the history, and names the pen's place as the next one, is the whole history
use Rattle.std.specs.Prelude.{ℕ, ◌≡◌, ◌<◌, ◌==◌, true, List, [], ◌∷◌, ◌++◌, length, MatchBool}
use mathlib.Core.List.{IsPrefix}
use Rattle.logbook.specs.Pages.{Cell, cell, Step, View, Book, Named, nib, may_make}
use Rattle.std.specs.Coded.{Coded-set, coded_list}
use Rattle.std.specs.FinMap.{empty}
use Rattle.hyper_matrix.specs.Matrix.{matrix}
use Rattle.batch_store.specs.declared.verdict.Entry.{Entry}
use Rattle.batch_store.specs.Batches.{Submission, submission, coded_submission}
use Rattle.locked_engine.specs.declared.history.Line.{Line}

abbrev pub place_from : ℕ → List Line → ℕ
place_from k [] = k
place_from k (l ∷ ls) = place_from l.next ls

abbrev pub AreTaken : List Cell → ℕ → List Line → Type 0
AreTaken cells k [] = Unit {0}
AreTaken cells k (l ∷ ls) = ((cell cells k).1 ≡ true) × AreTaken cells l.next ls

pub record IsKept (cells : List Cell) (log : List Line) : Type 0 where
  pub some : 0 < length cells
  pub home : (cell cells 0).1 ≡ true
  pub unopened : (cell cells 0).0 ≡ 0 → log ≡ []
  pub taken : AreTaken cells 0 log

abbrev pub head_of : Book → Named
head_of b = record { tracked = true; key = 0; book = b }

abbrev pub entries_of_lines : List Line → List Entry
entries_of_lines [] = []
entries_of_lines (l ∷ ls) = l.entry ∷ entries_of_lines ls

abbrev pub added_in : List Line → List Entry
added_in [] = []
added_in (l ∷ ls) = entries_of_lines ls

abbrev pub batches_of_lines : List Line → List Submission
batches_of_lines [] = []
batches_of_lines (l ∷ ls) = l.batch ∷ batches_of_lines ls

abbrev pub given_in : List Line → List Submission
given_in [] = []
given_in (l ∷ ls) = batches_of_lines ls

pub none_prop : (bs : List Submission) → IsProp (bs ≡ [])
none_prop bs = Coded-set (coded_list coded_submission) bs []

abbrev pub line : Entry → Submission → ℕ → Line
line e b k = record { entry = e; batch = b; next = k }

-- of a step that adds no batch
abbrev pub no_batch : Submission
no_batch = submission 0 0 (matrix 0 0 empty)

abbrev pub Begins : Step Line → View Line ℕ → ℕ → View Line ℕ → Type 0
Begins s v found w =
    MatchBool (found == s.old) ((k : ℕ) × (w.0 ≡ line s.ask.entry s.ask.batch k ∷ []) × (w.1.0 ≡ nib may_make k 0)) (Unit {0})

abbrev pub Places : Step Line → View Line ℕ → ℕ → View Line ℕ → Type 0
Places s v found w = (k : ℕ) × (w.1.0 ≡ nib may_make k 0)

abbrev pub Adds : Step Line → View Line ℕ → ℕ → View Line ℕ → Type 0
Adds s v found w = w.0 ≡ v.0 ++ s.ask ∷ []

abbrev pub Looks : Step Line → View Line ℕ → ℕ → View Line ℕ → Type 0
Looks s v found w = (w.1.0 ≡ v.1.0) × ((xs : List Line) → IsPrefix xs w.0 → place_from 0 xs ≡ v.1.0.key → xs ≡ w.0)
