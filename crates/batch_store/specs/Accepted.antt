-- What was accepted, in order: batches that were folded into one matrix, of which their entries are kept, and behind
-- them those that are kept whole.
--     Accepted            the base, which is the sum of the folded batches; their entries; and the batches behind them
--     unfolded list       a list of batches of which none is folded
--     entries_in a        the entries of all batches, the folded ones first
--     count_in, total_in  how many batches were accepted, and the sum of their totals
--     with_batch a b      with a batch more at the end
--     folded_into base a  with all batches folded into this base
--     batch_at a i        the batch at a place, counted from 0 over all, and None at a folded one and past the last
--     list_sum list       the sum of the matrices of a list of batches
--     summed a            the base and the matrices of all batches behind it, added up
--     IsBase base es      what a base keeps beside the entries that were folded into it: their totals add up to its
--                         own, and where nothing is folded it is empty
use Rattle.std.specs.Prelude.{◌≡◌, ℕ, ◌-◌, List, [], ◌∷◌, ◌++◌, length, slice_get, nat_lt, if◌then◌else◌, refl}
use Rattle.std.specs.Prelude.{Option, None}
use Rattle.std.specs.Coded.{Coded, code_by, coded×, coded_list}
use Rattle.std.specs.FinMap.{empty}
use Rattle.hyper_matrix.specs.Counts.{Counts, coded_counts, ewise_add, total}
use Rattle.batch_store.specs.declared.verdict.Entry.{Entry}
use Rattle.batch_store.specs.Batches.{Submission, coded_submission, entries_of}
use Rattle.batch_store.specs.Verdicts.{coded_entry, total_of_entries}

pub record Accepted : Type 0 where
  pub base : Counts
  pub folded : List Entry
  pub list : List Submission

abbrev pub accepted : Counts → List Entry → List Submission → Accepted
accepted base folded list = record { base = base; folded = folded; list = list }

abbrev pub coded_accepted : Coded Accepted
coded_accepted =
    code_by (Counts × (List Entry × List Submission))
    (coded× coded_counts (coded× (coded_list coded_entry) (coded_list coded_submission)))
    (λ a. (a.base, (a.folded, a.list))) (λ p. accepted p.0 p.1.0 p.1.1) (λ _. refl)

abbrev pub unfolded : List Submission → Accepted
unfolded list = accepted empty [] list

abbrev pub entries_in : Accepted → List Entry
entries_in a = a.folded ++ entries_of a.list

abbrev pub count_in : Accepted → ℕ
count_in a = length (entries_in a)

abbrev pub total_in : Accepted → ℕ
total_in a = total_of_entries (entries_in a)

abbrev pub with_batch : Accepted → Submission → Accepted
with_batch a b = accepted a.base a.folded (a.list ++ b ∷ [])

abbrev pub folded_into : Counts → Accepted → Accepted
folded_into base a = accepted base (entries_in a) []

abbrev pub batch_at : Accepted → ℕ → Option Submission
batch_at a i = if nat_lt i (length a.folded) then None else slice_get a.list (i - length a.folded)

abbrev pub list_sum : List Submission → Counts
list_sum [] = empty
list_sum (b ∷ bs) = ewise_add b.matrix.counts (list_sum bs)

abbrev pub summed : Accepted → Counts
summed a = ewise_add a.base (list_sum a.list)

pub record IsBase (base : Counts) (folded : List Entry) : Type 0 where
  pub adds_up : total base ≡ total_of_entries folded
  pub none : folded ≡ [] → base ≡ empty
