-- A file on its way: what is pending handed on, more appended, and a stop.
use Rattle.std.proofs.Common.{◌≡◌, ℕ, ◌+◌, ◌*◌, ◌^◌, ◌<◌, ◌≤◌, List, [], ◌∷◌, ◌++◌, length, flat_map, refl, sym, ap}
use Rattle.std.proofs.Common.{drop, get_or, drop-cons, add-one, subst, ◌∙◌, append_assoc, arith}
use Rattle.std.proofs.lemmas.List.{append-nil, append_cancel_right}
use Rattle.byte_io.specs.Streams.{Answer}
use Rattle.byte_io.specs.Writing.{HasTaken, HasStopped}
use Rattle.byte_io.specs.Buffers.{Unwritten, HasWritten}
use Rattle.byte_io.proofs.SinkLemmas.{has_stopped_longer}
use Rattle.byte_io.proofs.BufferLemmas.{written_more, written_whole, written_nothing}
use Rattle.cells.specs.declared.cell.Cell.{Cell}
use Rattle.hyper_matrix.specs.Counts.{Place}
use Rattle.hyper_matrix.specs.Cells.{entry_of}
use Rattle.batch_store.specs.Batches.{Submission}
use Rattle.batch_store.specs.declared.verdict.Entry.{Entry}
use Rattle.snap_file.specs.Spelling.{cell_bytes, cells_bytes, batch_bytes, entry_bytes}
use Rattle.snap_file.specs.Writing.{WriterState, unwritten, IsWriting}
use Rattle.snap_file.specs.Spelling.{version, number_bytes, check_bytes}
use Rattle.std.specs.Int.{w32}
use Rattle.crc32c.specs.Remainders.{all_ones, after_bytes, complement, checksum_of}
use Rattle.crc32c.proofs.Linear.{after_bytes-append}

-- what is pending was handed on
pub writing_on : {S : Type 0} (step : S → List ℕ → Answer → S → Type 0) (failures : S → ℕ) (s m t : S)
    (all left : List ℕ) (old new : WriterState) → IsWriting step failures s m all old left →
    new.remainder ≡ old.remainder →
    ((text : List ℕ) → HasWritten step failures s m text (unwritten old) →
    HasWritten step failures s t text (unwritten new)) →
    IsWriting step failures s t all new left
writing_on step failures s m t all left old new a same goes = record {
  text = a.text;
  has_written = goes a.text a.has_written;
  remainder_is = same ∙ a.remainder_is;
  all_is = a.all_is;
}

pub writing_stopped : {S : Type 0} (step : S → List ℕ → Answer → S → Type 0) (failures : S → ℕ) (s m t : S)
    (all left : List ℕ) (old : WriterState) (n : ℕ) → IsWriting step failures s m all old left →
    ((text : List ℕ) → HasWritten step failures s m text (unwritten old) → HasStopped step failures s t text n) →
    HasStopped step failures s t all n
writing_stopped step failures s m t all left old n a stops =
    subst (λ (l : List ℕ). HasStopped step failures s t l n) (sym a.all_is)
    (has_stopped_longer step failures s t a.text left n (stops a.text a.has_written))

-- a field was appended: the first of those that were left
pub writing_more : {S : Type 0} (step : S → List ℕ → Answer → S → Type 0) (failures : S → ℕ) (s t : S)
    (all field more left : List ℕ) (old new : WriterState) →
    IsWriting step failures s t all old ((field ++ more) ++ left) → new.taken ≡ old.taken →
    new.pending ≡ old.pending ++ field → new.remainder ≡ after_bytes old.remainder field →
    IsWriting step failures s t all new (more ++ left)
writing_more step failures s t all field more left old new a taken pending remainder = record {
  text = a.text ++ field;
  has_written = written_more step failures s t a.text field (unwritten old) (unwritten new) a.has_written taken pending;
  remainder_is = remainder ∙ ap (λ (n : ℕ). after_bytes n field) a.remainder_is ∙
      sym (after_bytes-append all_ones a.text field);
  all_is = a.all_is ∙ ap (λ (l : List ℕ). a.text ++ l) (append_assoc field more left) ∙
      sym (append_assoc a.text field (more ++ left));
}

-- all was appended, and what was pending is handed on
pub writing_finished : {S : Type 0} (step : S → List ℕ → Answer → S → Type 0) (failures : S → ℕ) (s m t : S)
    (all : List ℕ) (old : WriterState) (new : Unwritten) → IsWriting step failures s m all old [] →
    ((text : List ℕ) → HasWritten step failures s m text (unwritten old) → HasWritten step failures s t text new) →
    new.pending ≡ [] → HasTaken step failures s t all
writing_finished step failures s m t all old new a goes none =
    subst (λ (l : List ℕ). HasTaken step failures s t l) (sym (a.all_is ∙ append-nil a.text))
    (written_whole step failures s t a.text new (goes a.text a.has_written) none)

-- before the first call the front is pending
pub writing_begun : {S : Type 0} (step : S → List ℕ → Answer → S → Type 0) (failures : S → ℕ) (s : S)
    (front left : List ℕ) (writer : WriterState) →
    writer.taken ≡ 0 → writer.pending ≡ front → writer.remainder ≡ after_bytes all_ones front →
    IsWriting step failures s s (front ++ left) writer left
writing_begun step failures s front left writer taken pending remainder = record {
  text = front;
  has_written = written_nothing step failures s front (unwritten writer) taken pending;
  remainder_is = remainder;
  all_is = refl;
}

-- a field more keeps that the remainder is that of all that is pending
pub summed_more : (r old new : ℕ) (before after field : List ℕ) → after ≡ before ++ field →
    new ≡ after_bytes old field →
    old ≡ after_bytes r before → new ≡ after_bytes r after
summed_more r old new before after field pending remainder is =
    remainder ∙ ap (λ (n : ℕ). after_bytes n field) is ∙ sym (after_bytes-append r before field) ∙
    ap (after_bytes r) (sym pending)

check_is : (front : List ℕ) → check_bytes version front ≡ number_bytes w32 (checksum_of front)
unfolding check_bytes
check_is front = refl

-- what was appended is the front of the whole that is not left
front_is : {S : Type 0} (step : S → List ℕ → Answer → S → Type 0) (failures : S → ℕ) (s t : S)
    (all front left : List ℕ) (writer : WriterState) (a : IsWriting step failures s t all writer left) →
    all ≡ front ++ left → a.text ≡ front
front_is step failures s t all front left writer a whole =
    append_cancel_right a.text front left (sym a.all_is ∙ whole)

-- the checksum of all that was appended was appended
pub writing_check : {S : Type 0} (step : S → List ℕ → Answer → S → Type 0) (failures : S → ℕ) (s t : S)
    (all front left : List ℕ) (old new : WriterState) (sum : ℕ) → sum ≡ complement old.remainder →
    all ≡ front ++ (check_bytes version front ++ left) →
    IsWriting step failures s t all old (check_bytes version front ++ left) → new.taken ≡ old.taken →
    new.pending ≡ old.pending ++ number_bytes w32 sum →
    new.remainder ≡ after_bytes old.remainder (number_bytes w32 sum) →
    IsWriting step failures s t all new left
writing_check step failures s t all front left old new sum is whole a taken pending remainder =
    let field = number_bytes w32 sum in
    let text_is : a.text ≡ front = front_is step failures s t all front (check_bytes version front ++ left) old a whole
    in
    let sum_is : sum ≡ checksum_of front = is ∙ ap complement (a.remainder_is ∙ ap (after_bytes all_ones) text_is) in
    let field_is : check_bytes version front ≡ field = check_is front ∙ ap (number_bytes w32) (sym sum_is) in
    record {
      text = a.text ++ field;
      has_written = written_more step failures s t a.text field (unwritten old) (unwritten new) a.has_written taken
          pending;
      remainder_is = remainder ∙ ap (λ (n : ℕ). after_bytes n field) a.remainder_is ∙
          sym (after_bytes-append all_ones a.text field);
      all_is = a.all_is ∙ ap (λ (l : List ℕ). a.text ++ (l ++ left)) field_is ∙ sym (append_assoc a.text field left);
    }

-- A part was appended, and its checksum is next: where the whole has it.
pub check_next : (all front part left : List ℕ) →
    all ≡ front ++ ((part ++ check_bytes version (front ++ part)) ++ left) →
    all ≡ (front ++ part) ++ (check_bytes version (front ++ part) ++ left)
check_next all front part left is =
    is ∙ ap (λ (l : List ℕ). front ++ l) (append_assoc part (check_bytes version (front ++ part)) left) ∙
    sym (append_assoc front part (check_bytes version (front ++ part) ++ left))

-- ---- batches and cells

pub cells_begin : {S : Type 0} (step : S → List ℕ → Answer → S → Type 0) (failures : S → ℕ) (s t : S) (all : List ℕ)
    (writer : WriterState) (es given : List (Place × ℕ)) (left : List ℕ) →
    IsWriting step failures s t all writer ((cells_bytes es ++ []) ++ left) → given ≡ es →
    IsWriting step failures s t all writer (cells_bytes given ++ left)
cells_begin step failures s t all writer es given left a e =
    subst (λ (l : List (Place × ℕ)). IsWriting step failures s t all writer (cells_bytes l ++ left)) (sym e)
    (subst (λ (l : List ℕ). IsWriting step failures s t all writer (l ++ left)) (append-nil (cells_bytes es)) a)

pub cell_next : {S : Type 0} (step : S → List ℕ → Answer → S → Type 0) (failures : S → ℕ) (s t : S) (all : List ℕ)
    (writer : WriterState) (given : List (Place × ℕ)) (cell : Cell) (rest : List (Place × ℕ)) (left : List ℕ) →
    IsWriting step failures s t all writer (cells_bytes given ++ left) → given ≡ entry_of cell ∷ rest →
    IsWriting step failures s t all writer (cell_bytes (entry_of cell) ++ (cells_bytes rest ++ left))
cell_next step failures s t all writer given cell rest left a e =
    subst (λ (l : List ℕ). IsWriting step failures s t all writer l)
    (append_assoc (cell_bytes (entry_of cell)) (cells_bytes rest) left)
    (subst (λ (l : List (Place × ℕ)). IsWriting step failures s t all writer (cells_bytes l ++ left)) e a)

pub count_begun : (old taken pending taken1 pending1 n : ℕ) →
    taken + pending ≡ old → taken1 ≡ taken → pending1 ≡ pending + 8 →
    n < 2 ^ 64 → taken1 + pending1 + 24 * n ≤ old + 2 ^ 69
count_begun old taken pending taken1 pending1 n a b c h = omega arith

-- the entry of one folded batch more
pub entry_left : {S : Type 0} (step : S → List ℕ → Answer → S → Type 0) (failures : S → ℕ) (s t : S) (all : List ℕ)
    (writer : WriterState) (es : List Entry) (i : ℕ) (d : Entry) (left : List ℕ) → i < length es →
    IsWriting step failures s t all writer (flat_map entry_bytes (drop i es) ++ left) →
    IsWriting step failures s t all writer
    (entry_bytes (get_or es i d) ++ (flat_map entry_bytes (drop (i + 1) es) ++ left))
entry_left step failures s t all writer es i d left h a =
    let parts : drop i es ≡ get_or es i d ∷ drop (i + 1) es = drop-cons es i d h ∙ rw add-one refl in
    subst (λ (l : List ℕ). IsWriting step failures s t all writer l)
    (append_assoc (entry_bytes (get_or es i d)) (flat_map entry_bytes (drop (i + 1) es)) left)
    (subst (λ (l : List Entry). IsWriting step failures s t all writer (flat_map entry_bytes l ++ left)) parts a)

-- the bytes of what is left, in front of others
pub apart : {S : Type 0} (step : S → List ℕ → Answer → S → Type 0) (failures : S → ℕ) (s t : S) (all : List ℕ)
    (writer : WriterState) (x y left : List ℕ) → IsWriting step failures s t all writer ((x ++ y) ++ left) →
    IsWriting step failures s t all writer (x ++ (y ++ left))
apart step failures s t all writer x y left a =
    subst (λ (l : List ℕ). IsWriting step failures s t all writer l) (append_assoc x y left) a

pub batches_next : (list : List Submission) (b : Submission) →
    flat_map batch_bytes (b ∷ list) ≡ batch_bytes b ++ flat_map batch_bytes list
batches_next list b = refl
