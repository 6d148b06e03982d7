-- Matrices of the same dimensions and entries are the same.
use Rattle.std.proofs.Common.{◌≡◌, sym, ◌∙◌, ap}
use Rattle.std.specs.FinMap.{entries}
use Rattle.hyper_matrix.specs.Counts.{Counts, built}
use Rattle.hyper_matrix.specs.Matrix.{Matrix}
use Rattle.hyper_matrix.proofs.PartLaws.{built-entries}

pub same_counts_by_entries : (a b : Counts) → entries a ≡ entries b → a ≡ b
same_counts_by_entries a b cells = sym (built-entries a) ∙ ap built cells ∙ built-entries b

pub same_matrices : (a b : Matrix) → a.rows ≡ b.rows → a.cols ≡ b.cols → entries a.counts ≡ entries b.counts → a ≡ b
same_matrices a b rows cols cells =
    let counts = same_counts_by_entries a.counts b.counts cells in
    λ i. record { rows = rows i; cols = cols i; counts = counts i }
