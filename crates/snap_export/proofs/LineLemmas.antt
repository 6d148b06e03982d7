-- Lines that are written one after the other.
use Rattle.std.proofs.Common.{◌≡◌, ℕ, ◌+◌, ◌<◌, List, [], ◌∷◌, ◌++◌, length, take, drop, get_or, flat_map, sym, ap}
use Rattle.std.proofs.Common.{subst}
use Rattle.std.proofs.Common.{◌∙◌, Result, Ok, Err, OnOk}
use Rattle.std.proofs.lemmas.List.{take-append-drop, take_more, flat_map_more}
use Rattle.std.proofs.lemmas.Grind.{flat_map-append}
use Rattle.std.proofs.Common.{map, arith, append_assoc}
use Rattle.std.specs.FinMap.{entries, len, len-entries}
use Rattle.std.proofs.lemmas.List.{length-map}
use Rattle.cells.specs.declared.cell.Cell.{Cell}
use Rattle.mm_text.specs.Canonical.{canonical_head, entry_line, entry_lines}
use Rattle.hyper_matrix.specs.Counts.{Place}
use Rattle.hyper_matrix.specs.Cells.{entry_of}
use Rattle.hyper_matrix.specs.Matrix.{Matrix}
use Rattle.mm_laws.specs.MatrixText.{cell_of, cells_in_order, matrix_text}
use Rattle.byte_io.specs.Streams.{Answer}
use Rattle.byte_io.specs.Buffers.{HasWritten, Unwritten}
use Rattle.byte_io.specs.Writing.{HasStopped}
use Rattle.byte_io.proofs.SinkLemmas.{has_stopped_longer}
use Rattle.snap_export.specs.Labels.{label_line}

module _ (labels : List ℕ) (i : ℕ) (d : ℕ) (below : i < length labels) where
  lines_more : flat_map label_line (take i labels) ++ label_line (get_or labels i d)
      ≡ flat_map label_line (take (i + 1) labels)
  lines_more = flat_map_more label_line [] (take i labels) (get_or labels i d)
      ∙ ap (flat_map label_line) (sym (take_more labels i d below))

  lines_cut : flat_map label_line (take i labels) ++ flat_map label_line (drop i labels) ≡ flat_map label_line labels
  lines_cut = sym (flat_map-append label_line (take i labels) (drop i labels))
      ∙ ap (flat_map label_line) (take-append-drop i labels)

  module _ {S : Type 0} (step : S → List ℕ → Answer → S → Type 0) (failures : S → ℕ) (s t : S) where
    pub written_next : (buffer : Unwritten) →
        HasWritten step failures s t (flat_map label_line (take i labels) ++ label_line (get_or labels i d)) buffer →
        HasWritten step failures s t (flat_map label_line (take (i + 1) labels)) buffer
    written_next buffer a = subst (λ v. HasWritten step failures s t v buffer) lines_more a

    pub stopped_before : (n : ℕ) → HasStopped step failures s t (flat_map label_line (take i labels)) n →
        HasStopped step failures s t (flat_map label_line labels) n
    stopped_before n a = subst (λ v. HasStopped step failures s t v n) lines_cut
        (has_stopped_longer step failures s t _ (flat_map label_line (drop i labels)) n a)

pub on_ok_both : {T E P Q R : Type 0} (r : Result T E) → (P → Q → R) → OnOk r P → OnOk r Q → OnOk r R
on_ok_both (Ok x) f p q = f p q
on_ok_both (Err e) f p q = tt

-- ---- the text of a matrix

-- the head of a matrix's text, and behind it the lines of its cells
pub text_begins : (m : Matrix) (rows cols count : ℕ) (left : List (Place × ℕ)) →
    ◌≡◌ {A = ℕ × ℕ} (rows, cols) (m.rows, m.cols) → count ≡ len m.counts → left ≡ entries m.counts →
    canonical_head rows cols count ++ entry_lines (map cell_of left) ≡ matrix_text m
unfolding matrix_text
text_begins m rows cols count left dims counted is =
    let cells = cells_in_order m.counts in
    let number : count ≡ length cells = omega (
      arith,
      counted,
      len-entries m.counts,
      length-map (entries m.counts) cell_of,
    ) in
    ap (λ (p : ℕ × ℕ). canonical_head p.0 p.1 count ++ entry_lines (map cell_of left)) dims
    ∙ ap (λ n. canonical_head m.rows m.cols n ++ entry_lines (map cell_of left)) number
    ∙ ap (λ (es : List (Place × ℕ)). canonical_head m.rows m.cols (length cells) ++ entry_lines (map cell_of es)) is

-- the lines that are to come, by the cells that are left
pub lines_counted : (m : Matrix) (count left : ℕ) (cells : List (Place × ℕ)) → count ≡ len m.counts → left ≡ count →
    cells ≡ entries m.counts → left ≡ length cells
lines_counted m count left cells counted is order = omega (arith, counted, is, len-entries m.counts, ap length order)

-- a line more, and behind it the lines of the cells that are left
pub line_next : (text whole : List ℕ) (left rest : List (Place × ℕ)) (cell : Cell) → left ≡ entry_of cell ∷ rest →
    text ++ entry_lines (map cell_of left) ≡ whole →
    (text ++ entry_line cell) ++ entry_lines (map cell_of rest) ≡ whole
line_next text whole left rest cell is told =
    append_assoc text (entry_line cell) (entry_lines (map cell_of rest)) ∙
    sym (ap (λ (es : List (Place × ℕ)). text ++ entry_lines (map cell_of es)) is) ∙ told
