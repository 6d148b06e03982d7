-- Batches added up one after the other.
use Rattle.std.proofs.Common.{◌≡◌, ℕ, zero, suc, ◌+◌, ◌<◌, ◌^◌, List, [], ◌∷◌, ◌++◌, length, take, get_or, sym}
use Rattle.std.proofs.Common.{ap, ◌∙◌, arith, Result, Ok, Err, OnOk}
use Rattle.std.proofs.lemmas.List.{take_more, map-append}
use Rattle.std.specs.FinMap.{empty}
use Rattle.std.specs.declared.sync.Arc.{Arc}
use Rattle.std.specs.Arc.{arc_value}
use Rattle.hyper_matrix.specs.Counts.{Counts, ewise_add, total}
use Rattle.hyper_matrix.proofs.CountLaws.{total-ewise_add, ewise_add-empty, ewise_add_assoc}
use Rattle.layer_compaction.proofs.LayerLemmas.{empty-ewise_add}
use Rattle.batch_store.specs.Accepted.{list_sum}
use Rattle.batch_store.specs.Batches.{Submission, values}
use Rattle.batch_store.specs.Books.{list_total, HaveDims}
use Rattle.batch_store.proofs.SumLaws.{list_sum-push, total-list_sum}
use Rattle.snap_file.proofs.BatchLemmas.{total_more, total_fits}

-- a base and some batches added up
abbrev pub sum_of : Counts → List Submission → Counts
sum_of base list = ewise_add base (list_sum list)

sum_push : (base : Counts) (list : List Submission) (b : Submission) → sum_of base (list ++ b ∷ []) ≡
    ewise_add (sum_of base list) b.matrix.counts
sum_push base list b = ap (ewise_add base) (list_sum-push list b)
    ∙ sym (ewise_add_assoc base (list_sum list) b.matrix.counts)

pub sum_begun : (base none layers : Counts) → layers ≡ ewise_add none base → none ≡ empty → layers ≡ sum_of base []
sum_begun base none layers is nothing = is ∙ ap (λ (x : Counts). ewise_add x base) nothing
    ∙ empty-ewise_add base ∙ sym (ewise_add-empty base)

module _ {Z : Type 0} (base : Counts) (bs : List (Arc Submission Z)) (i : ℕ) (d : Arc Submission Z) (b : Submission)
    (h : i < length bs) (is : d ≡ get_or bs i d) (at : b ≡ arc_value d) where
  pub taken_more : values (take (i + 1) bs) ≡ values (take i bs) ++ b ∷ []
  taken_more = ap values (take_more bs i d h) ∙ map-append arc_value (take i bs) (get_or bs i d ∷ []) ∙
      ap (λ (x : Submission). values (take i bs) ++ x ∷ []) (ap arc_value (sym is) ∙ sym at)

  pub sum_more : (before after : Counts) → before ≡ sum_of base (values (take i bs)) →
      after ≡ ewise_add before b.matrix.counts → after ≡ sum_of base (values (take (i + 1) bs))
  sum_more before after e f = f ∙ ap (λ (x : Counts). ewise_add x b.matrix.counts) e ∙
      sym (ap (sum_of base) taken_more ∙ sum_push base (values (take i bs)) b)

  pub sum_fits : (before : Counts) → before ≡ sum_of base (values (take i bs)) →
      total base + list_total (values bs) < 2 ^ 64 → total before + total b.matrix.counts < 2 ^ 64
  sum_fits before e within =
      let t = ap total e ∙ total-ewise_add base (list_sum (values (take i bs))) in
      let sum = total-list_sum (values (take i bs)) in
      let more = total_more bs i d b h is at in
      let all = total_fits bs (i + 1) in
      omega arith

dims_of : {Z : Type 0} (r c : ℕ) (bs : List (Arc Submission Z)) (i : ℕ) (d : Arc Submission Z) →
    HaveDims r c (values bs) → i < length bs → ((arc_value (get_or bs i d)).matrix.rows ≡ r) ×
    ((arc_value (get_or bs i d)).matrix.cols ≡ c)
dims_of r c [] i d h lt = absurd (omega arith)
dims_of r c (x ∷ xs) zero d h lt = (h.0, h.1)
dims_of r c (x ∷ xs) (suc i) d h lt = dims_of r c xs i d h.2 (omega arith)

pub dims_at : {Z : Type 0} (r c : ℕ) (bs : List (Arc Submission Z)) (i : ℕ) (d : Arc Submission Z) (b : Submission) →
    HaveDims r c (values bs) → i < length bs → d ≡ get_or bs i d → b ≡ arc_value d →
    (b.matrix.rows ≡ r) × (b.matrix.cols ≡ c)
dims_at r c bs i d b h lt is at =
    let same : b ≡ arc_value (get_or bs i d) = at ∙ ap arc_value is in
    let x = dims_of r c bs i d h lt in
    (ap (λ (y : Submission). y.matrix.rows) same ∙ x.0, ap (λ (y : Submission). y.matrix.cols) same ∙ x.1)

pub on_ok_map : {T E : Type 0} (r : Result T E) (P Q : Type 0) → (P → Q) → OnOk r P → OnOk r Q
on_ok_map (Ok x) P Q f h = f h
on_ok_map (Err e) P Q f h = tt
