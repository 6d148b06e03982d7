-- What an addition comes to at one layer.
use Rattle.std.specs.Prelude.{◌≡◌, ℕ, ◌<◌, ◌≤◌}
use Rattle.std.specs.FinMap.{len}
use Rattle.hyper_matrix.specs.Counts.{ewise_add}
use Rattle.hyper_matrix.specs.Matrix.{Matrix, matrix}
use Rattle.layer_compaction.specs.declared.layer.Step.{Step}
use Rattle.layer_compaction.specs.declared.layer.Step.TheVariants.{Ends, Carries}

-- m and what the layer holds
abbrev pub joined : Matrix → Matrix → Matrix
joined layer m = matrix m.rows m.cols (ewise_add m.counts layer.counts)

-- both together: they stay here exactly if they have at most the cut of entries
abbrev pub Takes : Matrix → Matrix → ℕ → Step → Type 0
Takes layer m cut (Ends after) = (after ≡ joined layer m) × (len after.counts ≤ cut)
Takes layer m cut (Carries sum) = (sum ≡ joined layer m) × (cut < len sum.counts)
