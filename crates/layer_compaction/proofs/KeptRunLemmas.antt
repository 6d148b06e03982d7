-- A layer that is made keeps what layers are to keep: the empty one, and one with a run more.
use Rattle.std.proofs.Common.{◌≡◌, ℕ, ◌+◌, ◌<◌, ◌≤◌, ◌^◌, List, [], ◌∷◌, ◌++◌, sym, ◌∙◌, ap, subst, arith}
use Rattle.std.specs.declared.sync.Arc.{Arc}
use Rattle.std.specs.FinMap.{len, len-empty}
use Rattle.std.proofs.lemmas.List.{map-append}
use Rattle.cells.specs.Bounds.{IsDimension}
use Rattle.hyper_matrix.specs.Counts.{place_cmp, ewise_add, total}
use Rattle.hyper_matrix.specs.Matrix.{Matrix, matrix}
use Rattle.hyper_matrix.proofs.CountLaws.{ewise_add-empty, ewise_add_comm, total-ewise_add, total-empty}
use Rattle.layer_compaction.specs.Shared.{content, values, all_counts, HaveDims}
use Rattle.layer_compaction.specs.Runs.{KeepsRuns, CountsPlaces}
use Rattle.layer_compaction.proofs.LayerLemmas.{content-append, dims-append}
use Rattle.layer_compaction.proofs.RunLemmas.{len-ewise_add-le}

pub keeps_none : {Z : Type 0} (r c : ℕ) (runs : List (Arc Matrix Z)) → IsDimension r → IsDimension c → runs ≡ [] →
    KeepsRuns r c 0 0 (values runs)
keeps_none {Z} r c runs rows cols none = subst (λ l. KeepsRuns r c 0 0 (values l)) (sym none) (record {
  is_rows = rows;
  is_cols = cols;
  dims = tt;
  total_is = sym total-empty;
  fits = omega (arith, total-empty);
  few = omega (arith, len-empty place_cmp ℕ);
})

-- the runs of two layers
module _ {Z : Type 0} (all : List (Arc Matrix Z)) (held more : List Matrix) (are : values all ≡ held ++ more) where
  pub content-beside : content (all_counts (values all)) ≡ ewise_add (content (all_counts more))
      (content (all_counts held))
  content-beside = ap (λ l. content (all_counts l)) are
      ∙ ap content (map-append (λ (x : Matrix). x.counts) held more)
      ∙ content-append (all_counts held) (all_counts more)
      ∙ ewise_add_comm (content (all_counts held)) (content (all_counts more))

  pub keeps_beside : (r c sum most : ℕ) → IsDimension r → IsDimension c → HaveDims r c held → HaveDims r c more →
      sum ≡ total (content (all_counts more)) + total (content (all_counts held)) → sum < 2 ^ 64 →
      len (content (all_counts more)) + len (content (all_counts held)) ≤ most → KeepsRuns r c sum most (values all)
  keeps_beside r c sum most is_rows is_cols dims dims_more sum_is fits few =
      let both = ap total content-beside ∙ total-ewise_add (content (all_counts more)) (content (all_counts held)) in
      record {
        is_rows = is_rows;
        is_cols = is_cols;
        dims = subst (HaveDims r c) (sym are) (dims-append r c held more dims dims_more);
        total_is = omega (arith, both, sum_is);
        fits = omega (arith, both, sum_is, fits);
        few = omega (
          arith,
          few,
          ap len content-beside,
          len-ewise_add-le (content (all_counts more)) (content (all_counts held)),
        );
      }

-- the only run
module _ {Z : Type 0} (runs : List (Arc Matrix Z)) (m : Matrix) (are : values runs ≡ m ∷ []) where
  pub of_one : (p : ℕ × ℕ) → p ≡ (m.rows, m.cols) → matrix p.0 p.1 (content (all_counts (values runs))) ≡ m
  of_one p dims = ap (λ (q : ℕ × ℕ). matrix q.0 q.1 (content (all_counts (values runs)))) dims
      ∙ ap (λ l. matrix m.rows m.cols (content (all_counts l))) are
      ∙ ap (matrix m.rows m.cols) (ewise_add-empty m.counts)

  pub keeps_one : (p : ℕ × ℕ) (sum most : ℕ) → p ≡ (m.rows, m.cols) → IsDimension m.rows → IsDimension m.cols →
      sum ≡ total m.counts → total m.counts < 2 ^ 64 → most ≡ len m.counts → KeepsRuns p.0 p.1 sum most (values runs)
  keeps_one p sum most dims rows cols sum_is fits most_is =
      subst (λ (q : ℕ × ℕ). KeepsRuns q.0 q.1 sum most (values runs)) (sym dims)
      (subst (KeepsRuns m.rows m.cols sum most) (sym are) (record {
        is_rows = rows;
        is_cols = cols;
        dims = (λ i. m.rows, λ i. m.cols, tt);
        total_is = sum_is ∙ sym (ap total (ewise_add-empty m.counts));
        fits = omega (arith, fits, ap total (ewise_add-empty m.counts));
        few = omega (arith, most_is, ap len (ewise_add-empty m.counts));
      }))

  pub counts_one : (places : ℕ) → places ≡ len m.counts → CountsPlaces 1 places (values runs)
  counts_one places counted = subst (CountsPlaces 1 places) (sym are) (record {
    within = omega arith;
    places_are = counted ∙ sym (ap len (ewise_add-empty m.counts));
  })
