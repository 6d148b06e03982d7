-- A TextWriter: the lines of the cells that were appended.
use Rattle.std.proofs.Common.{◌≡◌, ℕ, ◌+◌, ◌<◌, List, ◌++◌, length, take, drop, Result, Ok, Err, sym, ap, subst}
use Rattle.std.proofs.Common.{◌∙◌, append_assoc, get_or, OnOk}
use Rattle.std.proofs.lemmas.List.{take-append-drop, take_more, flat_map_more}
use Rattle.std.proofs.lemmas.Grind.{flat_map-append}
use Rattle.mm_text.specs.Canonical.{entry_line, entry_lines}
use Rattle.byte_io.specs.Buffers.{HasWritten, Unwritten}
use Rattle.byte_io.specs.Writing.{HasStopped}
use Rattle.byte_io.proofs.SinkLemmas.{has_stopped_longer}
use Rattle.cells.specs.declared.cell.Cell.{Cell}
use Rattle.byte_io.specs.Streams.{Answer}

-- the lines of the first i cells, and then the others
pub entry_lines_cut : (text : List ℕ) (cells : List Cell) (i : ℕ) →
    (text ++ entry_lines (take i cells)) ++ entry_lines (drop i cells) ≡ text ++ entry_lines cells
entry_lines_cut text cells i =
    append_assoc text (entry_lines (take i cells)) (entry_lines (drop i cells))
    ∙ ap (λ l. text ++ l) (sym (flat_map-append entry_line (take i cells) (drop i cells))
    ∙ ap entry_lines (take-append-drop i cells))

pub entry_lines_more : (text : List ℕ) (cells : List Cell) (i : ℕ) (d : Cell) → i < length cells →
    (text ++ entry_lines (take i cells)) ++ entry_line (get_or cells i d) ≡ text ++ entry_lines (take (i + 1) cells)
entry_lines_more text cells i d h =
    flat_map_more entry_line text (take i cells) (get_or cells i d)
    ∙ ap (λ l. text ++ entry_lines l) (sym (take_more cells i d h))

pub on_ok_both : {T E P Q R : Type 0} (r : Result T E) → (P → Q → R) → OnOk r P → OnOk r Q → OnOk r R
on_ok_both (Ok x) f p q = f p q
on_ok_both (Err e) f p q = tt

-- one line more, or a stop within it
pub written_next : {S : Type 0} (step : S → List ℕ → Answer → S → Type 0) (failures : S → ℕ) (s t : S) (text : List ℕ)
    (cells : List Cell) (i : ℕ) (d : Cell) (buffer : Unwritten) → i < length cells →
    HasWritten step failures s t ((text ++ entry_lines (take i cells)) ++ entry_line (get_or cells i d)) buffer →
    HasWritten step failures s t (text ++ entry_lines (take (i + 1) cells)) buffer
written_next step failures s t text cells i d buffer within a =
    subst (λ v. HasWritten step failures s t v buffer) (entry_lines_more text cells i d within) a

pub stopped_within : {S : Type 0} (step : S → List ℕ → Answer → S → Type 0) (failures : S → ℕ) (s t : S)
    (text : List ℕ) (cells : List Cell) (i : ℕ) (d : Cell) (n : ℕ) → i < length cells →
    HasStopped step failures s t ((text ++ entry_lines (take i cells)) ++ entry_line (get_or cells i d)) n →
    HasStopped step failures s t (text ++ entry_lines cells) n
stopped_within step failures s t text cells i d n within a =
    subst (λ v. HasStopped step failures s t v n) (entry_lines_cut text cells (i + 1))
    (has_stopped_longer step failures s t _ (entry_lines (drop (i + 1) cells)) n
    (subst (λ v. HasStopped step failures s t v n) (entry_lines_more text cells i d within) a))
