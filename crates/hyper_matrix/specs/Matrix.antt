-- A matrix: its dimensions, and a finite map from places to counts.
use Rattle.std.specs.Prelude.{ℕ, refl}
use Rattle.std.specs.Coded.{Coded, code_by, coded×, coded_ℕ}
use Rattle.hyper_matrix.specs.Counts.{Counts, coded_counts}

pub record Matrix : Type 0 where
  pub rows : ℕ
  pub cols : ℕ
  pub counts : Counts

-- a matrix of these parts
abbrev pub matrix : ℕ → ℕ → Counts → Matrix
matrix r c m = record { rows = r; cols = c; counts = m }

abbrev pub coded_matrix : Coded Matrix
coded_matrix = code_by (ℕ × (ℕ × Counts)) (coded× coded_ℕ (coded× coded_ℕ coded_counts))
    (λ m. (m.rows, (m.cols, m.counts))) (λ p. record { rows = p.0; cols = p.1.0; counts = p.1.1 }) (λ _. refl)
