-- How many pages groups take beside what their batches are promised.
use Rattle.std.proofs.Common.{◌≡◌, ℕ, ◌+◌, ◌-◌, ◌*◌, ◌/◌, ◌^◌, ◌<◌, ◌≤◌, Bool, true, false, List, [], ◌∷◌, ◌++◌, length, flat_map, refl, sym, ap, ◌∙◌, length-append, arith}
use Rattle.std.specs.Prelude.{min, nat_le, if◌then◌else◌}
use Rattle.std.specs.FinMap.{len}
use Rattle.std.proofs.lemmas.Bool.{le-leb}
use Rattle.std.proofs.lemmas.List.Sums.{sum_by-cons}
use Rattle.batch_store.specs.Batches.{Submission}
use Rattle.snap_file.specs.Spelling.{batch_bytes}
use Rattle.log_batches.specs.Payloads.{block_of, payload_bytes}
use Rattle.log_batches.specs.Payloads.{pages_alone as blocks_alone}
use Rattle.log_batches.proofs.Chunks.{length-block}
use Rattle.log_batches.proofs.Groups.{alone}
use Rattle.log_batches.proofs.Sizes.{length-batch, length-matrix, length-payload}
use Rattle.stored_log.specs.Sizes.{cells_in, pages_alone, pages_in, pages_taken}

bytes_of : (list : List Submission) → length (flat_map batch_bytes list) ≡ 24 * length list + 24 * cells_in list
bytes_of [] = refl
bytes_of (b ∷ list) =
    omega (
      arith,
      length-append (batch_bytes b) (flat_map batch_bytes list),
      length-batch b,
      length-matrix b.matrix.counts,
      sum_by-cons (λ (x : Submission). len x.matrix.counts) b list,
      bytes_of list,
    )

taken_is : (pages : ℕ) → pages ≤ 6187 → (if nat_le pages 6187 then pages else 2 ^ 64 - 1) ≡ pages
taken_is pages le = ap (λ (b : Bool). if b then pages else 2 ^ 64 - 1) (le-leb pages 6187 le)

counted : (bytes : ℕ) → 8 ≤ bytes → bytes ≤ 25190408 → (min bytes (2 ^ 64 - 1) - 1) / 4072 + 1 ≡ (bytes + 4071) / 4072
counted bytes some few = omega (arith, some, few)

-- a short list takes just the pages of its block
just : (list : List Submission) → length (flat_map batch_bytes list) ≤ 25190400 →
    pages_taken list ≡ length (block_of list)
just list few =
    let long = length-payload list in
    let pages = counted (length (payload_bytes list)) (omega (arith, long)) (omega (arith, long, few)) in
    let block = length-block list in
    taken_is (pages_in list) (omega (arith, long, few, pages)) ∙ pages ∙ sym block

each_alone : (list : List Submission) → length (flat_map batch_bytes list) ≤ 25190400 →
    pages_alone list ≡ blocks_alone list
each_alone [] few = refl
each_alone (b ∷ list) few =
    let all = length-append (batch_bytes b) (flat_map batch_bytes list) in
    let one = length-append (batch_bytes b) [] in
    let here = just (b ∷ []) (omega (arith, all, one, few)) in
    let later = each_alone list (omega (arith, all, few)) in
    omega (
      arith,
      here,
      later,
      sum_by-cons (λ (x : Submission). pages_taken (x ∷ [])) b list,
      sum_by-cons (λ (x : Submission). length (block_of (x ∷ []))) b list,
    )

pub group_held : (list : List Submission) → 0 < length list → length list ≤ 1024 → cells_in list ≤ 1048576 →
    pages_taken list ≤ pages_alone list
group_held list some batches cells =
    let few : length (flat_map batch_bytes list) ≤ 25190400 = omega (arith, bytes_of list, batches, cells) in
    omega (arith, just list few, each_alone list few, alone list some)
