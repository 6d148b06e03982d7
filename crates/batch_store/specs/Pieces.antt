-- A matrix that is cut by shards: piece s of k has the rows that leave s when divided by k.
--     Cut                 a matrix, and in how many pieces it is cut
--     whole_of r c list   what matrices of these dimensions add up to
--     ArePieces r c list  the list has the parts of that whole in as many shards as it is long, in order
--     ArePartsOf m list   the list has the parts of m in as many shards as it is long, in order
--     all_entries list    how many entries these have together
--     AllLie list         the entries of each lie within its dimensions
--     KeepsPieces         what pieces keep: that, the number of their entries and their total, and that each entry lies
--                         within the dimensions
use Rattle.std.specs.Prelude.{◌≡◌, ℕ, ◌+◌, ◌<◌, ◌≤◌, ◌^◌, List, [], ◌∷◌, length, refl}
use Rattle.std.specs.FinMap.{len}
use Rattle.merged_cells.specs.Within.{LieWithin}
use Rattle.std.specs.Coded.{Coded, code_by, coded×, coded_ℕ}
use Rattle.cells.specs.Bounds.{IsDimension}
use Rattle.hyper_matrix.specs.Counts.{total}
use Rattle.hyper_matrix.specs.Matrix.{Matrix, coded_matrix, matrix}
use Rattle.hyper_matrix.specs.Parts.{parts_below}
use Rattle.layer_compaction.specs.Shared.{all_counts, content}

pub record Cut : Type 0 where
  pub whole : Matrix
  pub count : ℕ

abbrev pub cut_in : ℕ → Matrix → Cut
cut_in k m = record { whole = m; count = k }

abbrev pub coded_cut : Coded Cut
coded_cut = code_by (Matrix × ℕ) (coded× coded_matrix coded_ℕ) (λ c. (c.whole, c.count)) (λ p. cut_in p.1 p.0) (λ _. refl)

abbrev pub whole_of : ℕ → ℕ → List Matrix → Matrix
whole_of r c list = matrix r c (content (all_counts list))

abbrev pub ArePartsOf : Matrix → List Matrix → Type 0
ArePartsOf m list = list ≡ parts_below (length list) (length list) m

abbrev pub ArePieces : ℕ → ℕ → List Matrix → Type 0
ArePieces r c list = ArePartsOf (whole_of r c list) list

-- how many entries matrices have together
abbrev pub all_entries : List Matrix → ℕ
all_entries [] = 0
all_entries (m ∷ ms) = len m.counts + all_entries ms

-- the entries of each lie within its dimensions
abbrev pub AllLie : List Matrix → Type 0
AllLie [] = Unit {0}
AllLie (m ∷ ms) = LieWithin m.rows m.cols m.counts × AllLie ms

pub record KeepsPieces (r c n t : ℕ) (list : List Matrix) : Type 0 where
  pub rows : IsDimension r
  pub cols : IsDimension c
  pub some : 0 < length list
  pub few : length list ≤ 64
  pub pieces : ArePieces r c list
  pub entries : n ≡ len (whole_of r c list).counts
  pub total : t ≡ total (whole_of r c list).counts
  pub fits : t < 2 ^ 64
  pub within : LieWithin r c (whole_of r c list).counts
