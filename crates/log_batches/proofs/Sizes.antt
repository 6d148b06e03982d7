-- How many bytes batches take.
use Rattle.std.proofs.Common.{◌≡◌, ℕ, ◌+◌, ◌-◌, ◌*◌, ◌/◌, ◌^◌, ◌<◌, ◌≤◌, List, [], ◌∷◌, ◌++◌, length, flat_map, refl, sym, ap, ◌∙◌, length-append, arith, inl, inr}
use Rattle.std.specs.Prelude.{min}
use Rattle.std.proofs.lemmas.Bool.{cases_lt}
use Rattle.std.specs.FinMap.{entries, len, len-entries}
use Rattle.hyper_matrix.specs.Counts.{Place, Counts}
use Rattle.batch_store.specs.Batches.{Submission}
use Rattle.std.specs.Int.{w64}
use Rattle.snap_file.specs.Spelling.{number_bytes, cell_bytes, cells_bytes, matrix_bytes, batch_bytes}
use Rattle.log_batches.specs.Payloads.{payload_bytes}

pub length-number : (n : ℕ) → length (number_bytes w64 n) ≡ 8
unfolding number_bytes
length-number n = refl

length-cell : (e : Place × ℕ) → length (cell_bytes e) ≡ 24
unfolding number_bytes
length-cell e = refl

pub length-cells : (es : List (Place × ℕ)) → length (cells_bytes es) ≡ 24 * length es
length-cells [] = refl
length-cells (e ∷ es) =
    let a = length-append (cell_bytes e) (cells_bytes es) in
    let b = length-cell e in
    let c = length-cells es in
    omega arith

pub length-matrix : (m : Counts) → length (matrix_bytes m) ≡ 8 + 24 * len m
length-matrix m =
    let a = length-append (number_bytes w64 (len m)) (cells_bytes (entries m) ++ []) in
    let b = length-append (cells_bytes (entries m)) [] in
    let c = length-cells (entries m) in
    let d = len-entries m in
    let e = length-number (len m) in
    omega arith

pub length-batch : (b : Submission) → length (batch_bytes b) ≡ 16 + length (matrix_bytes b.matrix.counts)
length-batch b =
    let m = matrix_bytes b.matrix.counts in
    let a = length-append (number_bytes w64 b.client) (number_bytes w64 b.number ++ m) in
    let c = length-append (number_bytes w64 b.number) m in
    let d = length-number b.client in
    let e = length-number b.number in
    omega arith

-- each batch takes 24 bytes at least
pub batches_take : (list : List Submission) → 24 * length list ≤ length (flat_map batch_bytes list)
batches_take [] = omega arith
batches_take (b ∷ list) =
    let a = length-append (batch_bytes b) (flat_map batch_bytes list) in
    let c = length-batch b in
    let d = length-matrix b.matrix.counts in
    let e = batches_take list in
    omega arith

pub length-payload : (list : List Submission) → length (payload_bytes list) ≡ 8 + length (flat_map batch_bytes list)
length-payload list =
    let a = length-append (number_bytes w64 (length list)) (flat_map batch_bytes list) in
    let b = length-number (length list) in
    omega arith

-- a sum that stays at the greatest number once it is reached
pub pages_of_sum : (bytes left len : ℕ) → left ≡ 0 → bytes < 2 ^ 64 → bytes + left ≤ len →
    (bytes < 2 ^ 64 - 1 → bytes + left ≡ len) → (bytes - 1) / 4072 + 1 ≡ (min len (2 ^ 64 - 1) - 1) / 4072 + 1
pages_of_sum bytes left len none fits within exact = ap (λ (n : ℕ). (n - 1) / 4072 + 1) sum_is
  where
    sum_is : bytes ≡ min len (2 ^ 64 - 1)
    sum_is = elim (cases_lt bytes (2 ^ 64 - 1)) [
      | inl low ↦ let e = exact low in omega arith
      | inr high ↦ omega arith
    ]
