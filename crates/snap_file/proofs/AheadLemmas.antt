-- A cell that lies in what is pending is read as field by field.
use Rattle.std.proofs.Common.{◌≡◌, ℕ, suc, ◌+◌, ◌<◌, ◌≤◌, false, List, [], ◌∷◌, ◌++◌, length, take, drop, Result}
use Rattle.std.proofs.Common.{refl, sym, ap, subst, ◌∙◌, append_assoc, length-drop, arith}
use Rattle.std.proofs.lemmas.List.{drop-drop}
use Rattle.std.proofs.Math.Seq.{take-add}
use Rattle.std.proofs.lemmas.Bool.Decides.{nat_tests}
use Rattle.std.specs.Prelude.{nat_le, nat_lt}
use Rattle.crc32c.specs.Remainders.{after_bytes}
use Rattle.crc32c.proofs.Linear.{after_bytes-append}
use Rattle.std.specs.Int.{w64, from_be_bytes}
use Rattle.byte_io.specs.declared.fault.DeviceFault.{DeviceFault}
use Rattle.cells.specs.declared.cell.Cell.{Cell}
use Rattle.snap_file.specs.Table.{Reading, Tally, cells_behind, is_below}
use Rattle.snap_file.specs.Outcomes.{Task, ReaderState, HasJudged}
use Rattle.snap_file.specs.Tallies.{tally_of, TakesCell}
use Rattle.snap_file.specs.declared.fault.SnapFault.TheVariants.{BadBatch, OutOfOrder, TotalDiffers}
use Rattle.snap_file.specs.declared.head.Head.{Head}
use Rattle.snap_file.specs.declared.tally.CellTally.{CellTally}
use Rattle.snap_file.proofs.ReadLemmas.{asked_none}
use Rattle.snap_file.proofs.StopLemmas.{read_field, read_passed}

is_low : (bound n : ℕ) → n < bound → nat_le bound n ≡ false
is_low bound n below = grind (arith, nat_tests)

is_within : (most n : ℕ) → n ≤ most → nat_lt most n ≡ false
is_within most n within = grind (arith, nat_tests)

-- the three fields of a cell one after another
three_fields : (r : ℕ) (l : List ℕ) → after_bytes r (take 24 l) ≡
    after_bytes (after_bytes (after_bytes r (take 8 l)) (take 8 (drop 8 l))) (take 8 (drop 8 (drop 8 l)))
three_fields r l =
    ap (after_bytes r) (take-add 8 16 l) ∙ after_bytes-append r (take 8 l) (take 16 (drop 8 l))
    ∙ ap (after_bytes (after_bytes r (take 8 l))) (take-add 8 8 (drop 8 l))
    ∙ after_bytes-append (after_bytes r (take 8 l)) (take 8 (drop 8 l)) (take 8 (drop 8 (drop 8 l)))

-- what is still to be read is what was, but for the cell that was taken
pub takes_cell : {S : Type 0} (gives : S → Result (List ℕ) DeviceFault → S → Type 0) (failures : S → ℕ)
    (task : Task) (s t : S) (h : Head) (most n : ℕ) (old new : ReaderState) (tally next : CellTally) (done : List Cell)
    (k : Tally → Reading) → TakesCell h most old tally new next →
    HasJudged gives failures task s t old (cells_behind h most (suc n) (tally_of done tally) k) →
    HasJudged gives failures task s t new (cells_behind h most n (tally_of done next) k)
unfolding cells_behind
takes_cell gives failures m s t h most n old new tally next done k c j =
    let cell = c.cell in let a = c.ahead in let f = c.faultless in let p = c.passed in
    let one : ReaderState = record {
      pending = drop 8 old.pending;
      taken = old.taken + 8;
      remainder = after_bytes old.remainder (take 8 old.pending);
      max_bytes = old.max_bytes;
    } in
    let two : ReaderState = record {
      pending = drop 8 (drop 8 old.pending);
      taken = old.taken + 8 + 8;
      remainder = after_bytes (after_bytes old.remainder (take 8 old.pending)) (take 8 (drop 8 old.pending));
      max_bytes = old.max_bytes;
    } in
    let came = a.came in let room = a.room in
    let len : length one.pending + 8 ≡ length old.pending = let e = length-drop 8 old.pending in omega arith in
    let len_two : length two.pending + 8 ≡ length one.pending = let e = length-drop 8 one.pending in omega arith in
    let row = read_passed gives failures m s t one _ BadBatch _
    (read_field gives failures m s t old one w64 _ (asked_none gives failures m s t old _ 8 j)
    (omega arith) (omega arith) refl refl refl refl)
    (subst (λ (r : ℕ). nat_le h.setup.rows r ≡ false) a.row_is (is_low h.setup.rows cell.row f.row_below)) in
    let col = read_passed gives failures m s t two _ BadBatch _
    (read_field gives failures m s t one two w64 _ (asked_none gives failures m s t one _ 8 row)
    (omega arith) (omega arith) refl refl refl refl)
    (subst (λ (r : ℕ). nat_le h.setup.cols r ≡ false) a.col_is (is_low h.setup.cols cell.col f.col_below)) in
    let ordered = read_passed gives failures m s t two _ OutOfOrder _ col
    (subst (λ (r : ℕ). is_below r (from_be_bytes w64 (take 8 (drop 8 old.pending))) tally.least_row
    tally.least_col ≡ false) a.row_is
    (subst (λ (c : ℕ). is_below cell.row c tally.least_row tally.least_col ≡ false) a.col_is f.in_order)) in
    let third : from_be_bytes w64 (take 8 (drop 8 (drop 8 old.pending))) ≡ cell.count =
    ap (λ (l : List ℕ). from_be_bytes w64 (take 8 l)) (drop-drop 8 8 old.pending) ∙ sym a.count_is in
    let count = read_passed gives failures m s t new _ TotalDiffers _
    (read_field gives failures m s t two new w64 _ (asked_none gives failures m s t two _ 8 ordered)
    (omega arith) (omega arith) (p.pending_is ∙ sym (ap (λ (l : List ℕ). drop 8 l) (drop-drop 8 8 old.pending) ∙
    drop-drop 8 16 old.pending)) (let e = p.taken_is in omega arith)
    (p.remainder_is ∙ three_fields old.remainder old.pending) p.limit_is)
    (subst (λ (r : ℕ). nat_lt most (tally.counted + r) ≡ false) (sym third)
    (is_within most (tally.counted + cell.count) f.counted)) in
    let raw : Cell = record {
      row = from_be_bytes w64 (take 8 old.pending);
      col = from_be_bytes w64 (take 8 (drop 8 old.pending));
      count = from_be_bytes w64 (take 8 (drop 8 (drop 8 old.pending)));
    } in
    let same : raw ≡ cell = λ i. record { row = sym a.row_is i; col = sym a.col_is i; count = third i } in
    let listed : (done ++ tally.cells.items) ++ raw ∷ [] ≡ done ++ next.cells.items =
    append_assoc done tally.cells.items (raw ∷ []) ∙ ap (λ (l : List Cell). done ++ l)
    (ap (λ (c : Cell). tally.cells.items ++ c ∷ []) same ∙ sym c.cells_are) in
    let row_is : raw.row ≡ next.least_row = sym a.row_is ∙ sym c.row_is in
    let col_is : raw.col + 1 ≡ next.least_col = ap (λ (c : ℕ). c + 1) (sym a.col_is) ∙ sym c.col_is in
    let counted_is : tally.counted + raw.count ≡ next.counted =
    ap (λ (c : ℕ). tally.counted + c) third ∙ sym c.counted_is in
    subst (λ (y : Tally). HasJudged gives failures m s t new (cells_behind h most n y k))
    (λ i. record { cells = listed i; least_row = row_is i; least_col = col_is i; counted = counted_is i }) count
