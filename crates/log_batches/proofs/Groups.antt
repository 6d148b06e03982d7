-- How many pages the blocks of lists take, one behind another.
use Rattle.std.proofs.Common.{◌≡◌, ℕ, ◌+◌, ◌*◌, ◌/◌, ◌<◌, ◌≤◌, List, [], ◌∷◌, ◌++◌, length, flat_map, ap, length-append, arith}
use Rattle.std.specs.Prelude.{sum_by}
use Rattle.std.proofs.lemmas.List.Concat.{flat_map-append}
use Rattle.std.proofs.lemmas.List.Sums.{sum_by-cons}
use Rattle.batch_store.specs.Batches.{Submission}
use Rattle.snap_file.specs.Spelling.{batch_bytes}
use Rattle.log_batches.specs.Payloads.{block_of, pages_alone}
use Rattle.log_batches.proofs.Chunks.{length-block}
use Rattle.log_batches.proofs.Sizes.{length-payload}

bytes_joined : (list other : List Submission) →
    length (flat_map batch_bytes (list ++ other))
    ≡ length (flat_map batch_bytes list) + length (flat_map batch_bytes other)
bytes_joined list other =
    let all = ap (λ (l : List ℕ). length l) (flat_map-append batch_bytes list other) in
    let both = length-append (flat_map batch_bytes list) (flat_map batch_bytes other) in
    omega (arith, all, both)

pub parts : (list other : List Submission) →
    length (block_of (list ++ other)) ≤ length (block_of list) + length (block_of other)
parts list other =
    omega (
      arith,
      bytes_joined list other,
      length-block (list ++ other),
      length-block list,
      length-block other,
      length-payload (list ++ other),
      length-payload list,
      length-payload other,
    )

pub alone : (list : List Submission) → 0 < length list → length (block_of list) ≤ pages_alone list
alone [] some = absurd (omega (arith, some))
alone (b ∷ []) some =
    let one = sum_by-cons (λ (x : Submission). length (block_of (x ∷ []))) b [] in
    omega (arith, one)
alone (b ∷ next ∷ list) some =
    let one = sum_by-cons (λ (x : Submission). length (block_of (x ∷ []))) b (next ∷ list) in
    omega (arith, one, parts (b ∷ []) (next ∷ list), alone (next ∷ list) (omega arith))
