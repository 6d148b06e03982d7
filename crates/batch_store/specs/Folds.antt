-- What contracts see of the batches that a book has folded, and what is kept of them.
--     Fold                the base as a matrix, the entries of the batches that it is the sum of, in the order of their
--                         acceptance, and for how many more there is room without memory
--     entries_under       the entries of lines, each under its client and number
--     repeat_in es b      the verdict on a batch whose client and number stand among the entries, and None where they
--                         don't
--     AreFoldedLines      each line tells the total up to it, where those before have this total
--     KeepsFold           what is kept of folded batches: that, and the total of all
use Rattle.std.specs.Prelude.{◌≡◌, ℕ, ◌+◌, List, [], ◌∷◌, map, take, position, slice_index_or, Option, refl}
use Rattle.std.specs.Option.{option_map}
use Rattle.std.specs.Coded.{Coded, code_by, coded×, coded_ℕ, coded_list}
use Rattle.hyper_matrix.specs.Matrix.{Matrix, coded_matrix}
use Rattle.batch_store.specs.declared.pair.Pair.{Pair}
use Rattle.batch_store.specs.declared.folded.FoldedLine.{FoldedLine}
use Rattle.batch_store.specs.declared.verdict.Entry.{Entry}
use Rattle.batch_store.specs.declared.verdict.Verdict.{Verdict}
use Rattle.batch_store.specs.Verdicts.{coded_entry, total_of_entries, same_pair, repeat_of}

pub record Fold : Type 0 where
  pub base : Matrix
  pub entries : List Entry
  pub free : ℕ

abbrev pub fold_of : Matrix → List Entry → ℕ → Fold
fold_of base entries free = record { base = base; entries = entries; free = free }

abbrev pub coded_fold : Coded Fold
coded_fold =
    code_by (Matrix × (List Entry × ℕ)) (coded× coded_matrix (coded× (coded_list coded_entry) coded_ℕ))
    (λ f. (f.base, (f.entries, f.free))) (λ p. fold_of p.0 p.1.0 p.1.1) (λ _. refl)

abbrev pub entry_under : Pair × FoldedLine → Entry
entry_under e = record { client = e.0.client; number = e.0.number; cells = e.1.cells; total = e.1.total }

abbrev pub entries_under : List (Pair × FoldedLine) → List Entry
entries_under lines = map entry_under lines

-- what a batch is answered whose client and number stand at this place
abbrev pub repeat_at : List Entry → Entry → ℕ → Verdict
repeat_at es b i = repeat_of (slice_index_or es i b) b i (total_of_entries (take (i + 1) es))

abbrev pub repeat_in : List Entry → Entry → Option Verdict
repeat_in es b = option_map (repeat_at es b) (position (same_pair b) es)

abbrev pub AreFoldedLines : ℕ → List (Pair × FoldedLine) → Type 0
AreFoldedLines total [] = Unit {0}
AreFoldedLines total (e ∷ es) = (e.1.total_after ≡ total + e.1.total) × AreFoldedLines (total + e.1.total) es

pub record KeepsFold (total : ℕ) (lines : List (Pair × FoldedLine)) : Type 0 where
  pub kept : AreFoldedLines 0 lines
  pub adds_up : total ≡ total_of_entries (entries_under lines)
