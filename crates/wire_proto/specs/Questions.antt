-- What a Range, a Top and a Groups ask of the sum, and how they are answered.
--     AreBounds           the first and the last row and column, within the dimensions
--     IsCount             so many cells, or rows, may be asked for
--     AreRows             the first and the last row, within the dimensions
--     AreGroups           what rows are compared by, the bits that they are shifted by, and their number
--     range_between       the cells that a Range asks for
--     by_number           what a Top asks to compare rows by
--     groups_of           the groups that a Groups asks for
--     cells_reply         a page of cells, and whether there are more
--     rows_reply          rows with their entries and totals
--     range_reply         the reply to a Range, of the sum
--     Tells               a request is answered so of a sum: only a Range, a Top and a Groups are
use Rattle.std.specs.Prelude.{◌≡◌, ℕ, ◌<◌, ◌≤◌, ◌==◌, Bool, List, ◌∷◌, ◌++◌, length, flat_map, nat_lt, if◌then◌else◌}
use Rattle.std.specs.FinMap.{entries}
use Rattle.hyper_matrix.specs.Counts.{Place}
use Rattle.hyper_matrix.specs.Matrix.{Matrix}
use Rattle.batch_store.specs.Setups.{Setting}
use Rattle.cell_queries.specs.Groups.{grouped}
use Rattle.cell_queries.specs.Ranges.{cells_in, page_of}
use Rattle.cell_queries.specs.Tallies.{tallies}
use Rattle.cell_queries.specs.Tops.{IsTop}
use Rattle.cell_queries.specs.declared.range.Span.{Span}
use Rattle.cell_queries.specs.declared.range.CellRange.{CellRange}
use Rattle.cell_queries.specs.declared.groups.RowGroups.{RowGroups}
use Rattle.cell_queries.specs.declared.tally.RowTally.{RowTally}
use Rattle.cell_queries.specs.declared.top.TopBy.{TopBy}
use Rattle.cell_queries.specs.declared.top.TopBy.TheVariants.{Total, Entries}
use Rattle.wire_frames.specs.Frames.{frame, number}
use Rattle.wire_frames.specs.declared.request.Request.{Request}
use Rattle.wire_frames.specs.declared.request.Request.TheVariants.{Range, Top, Groups}

pub record AreBounds (setup : Setting) (rows cols : ℕ × ℕ) : Type 0 where
  pub rows_rise : rows.0 ≤ rows.1
  pub rows_within : rows.1 < setup.rows
  pub cols_rise : cols.0 ≤ cols.1
  pub cols_within : cols.1 < setup.cols

abbrev pub IsCount : ℕ → Type 0
IsCount most = (1 ≤ most) × (most ≤ 1000000)

abbrev pub AreRows : Setting → ℕ × ℕ → Type 0
AreRows setup rows = (rows.0 ≤ rows.1) × (rows.1 < setup.rows)

abbrev pub AreGroups : ℕ → ℕ → ℕ → Type 0
AreGroups by shift most = (by ≤ 1) × (shift < 64) × IsCount most

abbrev pub span : ℕ × ℕ → Span
span p = record { first = p.0; last = p.1 }

abbrev pub range_between : ℕ × ℕ → ℕ × ℕ → ℕ × ℕ → CellRange
range_between rows cols start = record { rows = span rows; cols = span cols; start = start }

abbrev pub groups_of : ℕ × ℕ → ℕ → RowGroups
groups_of rows shift = record { rows = span rows; shift = shift }

abbrev pub by_number : ℕ → TopBy
by_number n = if n == 0 then Total else Entries

abbrev pub entry_bytes : Place × ℕ → List ℕ
entry_bytes e = number e.0.0 ++ number e.0.1 ++ number e.1

abbrev pub row_bytes : RowTally → List ℕ
row_bytes t = number t.row ++ number t.entries ++ number t.total

abbrev pub more_byte : Bool → ℕ
more_byte more = if more then 1 else 0

abbrev pub cells_reply : Bool → List (Place × ℕ) → List ℕ
cells_reply more es = frame 136 (more_byte more ∷ flat_map entry_bytes es)

abbrev pub rows_reply : List RowTally → List ℕ
rows_reply ts = frame 137 (flat_map row_bytes ts)

-- the first `most` cells of the range, and whether it has more
abbrev pub range_reply : CellRange → ℕ → Matrix → List ℕ
range_reply r most m =
    cells_reply (nat_lt most (length (cells_in r (entries m.counts)))) (page_of r most (entries m.counts))

-- the first `most` rows
abbrev pub TellsTop : TopBy → ℕ → Matrix → List ℕ → Type 0
TellsTop by most m reply =
    (top : List RowTally) × IsTop by most (tallies (entries m.counts)) top × (reply ≡ rows_reply top)

-- the first `most` groups
abbrev pub TellsGroups : TopBy → RowGroups → ℕ → Matrix → List ℕ → Type 0
TellsGroups by g most m reply =
    (top : List RowTally) × IsTop by most (tallies (grouped g (entries m.counts))) top × (reply ≡ rows_reply top)

abbrev pub Tells : Setting → Request → Matrix → List ℕ → Type 0
Tells setup (Range rows cols start most) m reply =
    AreBounds setup rows cols × IsCount most × (reply ≡ range_reply (range_between rows cols start) most m)
Tells setup (Top by most) m reply = (by ≤ 1) × IsCount most × TellsTop (by_number by) most m reply
Tells setup (Groups by shift most rows) m reply = AreRows setup rows × AreGroups by shift most ×
    TellsGroups (by_number by) (groups_of rows shift) most m reply
Tells setup r m reply = ⊥
