-- Bytes that are written over others, one field behind another.
use Rattle.std.proofs.Common.{◌≡◌, ℕ, ◌+◌, ◌-◌, ◌<◌, ◌≤◌, List, [], ◌∷◌, ◌++◌, length, take, drop, get_or, flat_map, replicate}
use Rattle.std.proofs.Common.{get_or-set_same, get_or-set_other, refl, sym, ap, subst, ◌∙◌, append_assoc, length-append, arith, inl, inr}
use Rattle.std.proofs.lemmas.List.{append-nil, take_at, drop_at, take-append-drop, length-take-le, length-drop, drop_all}
use Rattle.std.proofs.lemmas.List.{get_or-take, get_or_past, length-map}
use Rattle.std.proofs.lemmas.Bool.{cases_lt}
use Rattle.std.proofs.Math.ListN.{set}
use Rattle.std.specs.Int.{w64}
use Rattle.std.specs.declared.sync.Arc.{Arc}
use Rattle.std.specs.Arc.{arc_value}
use Rattle.batch_store.specs.Batches.{Submission, values}
use Rattle.std.specs.FinMap.{entries, len}
use Rattle.hyper_matrix.specs.Counts.{Place, Counts}
use Rattle.snap_file.specs.Spelling.{number_bytes, cells_bytes, matrix_bytes, batch_bytes}
use Rattle.snap_file.proofs.BatchLemmas.{one_more}
use Rattle.log_batches.specs.Payloads.{payload_bytes}

-- bytes were written over those from a place on
pub put_whole : (old new bytes : List ℕ) (at : ℕ) → take at new ≡ take at old →
    drop at new ≡ bytes ++ drop (at + length bytes) old →
    new ≡ (take at old ++ bytes) ++ drop (at + length bytes) old
put_whole old new bytes at front behind =
    sym (take-append-drop at new)
    ∙ ap (λ (l : List ℕ). l ++ drop at new) front
    ∙ ap (λ (l : List ℕ). take at old ++ l) behind
    ∙ sym (append_assoc (take at old) bytes (drop (at + length bytes) old))

pub put_more : (old new bytes : List ℕ) (at n : ℕ) → at + length bytes ≤ length old → n ≡ at + length bytes →
    take at new ≡ take at old → drop at new ≡ bytes ++ drop (at + length bytes) old →
    take n new ≡ take at old ++ bytes
put_more old new bytes at n room is front behind =
    let len : length (take at old ++ bytes) ≡ n =
    length-append (take at old) bytes ∙ ap (λ (k : ℕ). k + length bytes) (length-take-le at old (omega arith))
    ∙ sym is in
    ap (take n) (put_whole old new bytes at front behind)
    ∙ take_at (take at old ++ bytes) (drop (at + length bytes) old) n len

pub put_length : (old new bytes : List ℕ) (at : ℕ) → at + length bytes ≤ length old →
    take at new ≡ take at old → drop at new ≡ bytes ++ drop (at + length bytes) old → length new ≡ length old
put_length old new bytes at room front behind =
    let whole = ap length (put_whole old new bytes at front behind) in
    let a = length-append (take at old ++ bytes) (drop (at + length bytes) old) in
    let b = length-append (take at old) bytes in
    let c = length-take-le at old (omega arith) in
    let d = length-drop (at + length bytes) old in
    omega arith

pub two_fields : (start x y a b : List ℕ) → x ≡ start ++ a → y ≡ x ++ b → y ≡ start ++ (a ++ b)
two_fields start x y a b first second =
    second ∙ ap (λ (l : List ℕ). l ++ b) first ∙ append_assoc start a b

pub three_fields : (start x y z a b c : List ℕ) → x ≡ start ++ a → y ≡ x ++ b → z ≡ y ++ c →
    z ≡ start ++ (a ++ (b ++ c))
three_fields start x y z a b c first second third =
    two_fields start x z a (b ++ c) first (two_fields x y z b c second third)

-- ---- parts that are left to be written

-- one part more is written
pub part_put : (start written new whole part left : List ℕ) → new ≡ written ++ part →
    written ++ (part ++ left) ≡ start ++ whole → new ++ left ≡ start ++ whole
part_put start written new whole part left is all =
    ap (λ (l : List ℕ). l ++ left) is ∙ append_assoc written part left ∙ all

-- nothing is left
pub all_put : (start written whole left : List ℕ) → left ≡ [] → written ++ left ≡ start ++ whole →
    written ≡ start ++ whole
all_put start written whole left none all =
    sym (append-nil written) ∙ ap (λ (l : List ℕ). written ++ l) (sym none) ∙ all

-- the bytes of the batches from this one on
abbrev pub left_from : {Z : Type 0} → ℕ → List (Arc Submission Z) → List ℕ
left_from i bs = flat_map batch_bytes (values (drop i bs))

pub left_more : {Z : Type 0} (bs : List (Arc Submission Z)) (i : ℕ) (d : Arc Submission Z) (b : Submission) →
    i < length bs → d ≡ get_or bs i d → b ≡ arc_value d → left_from i bs ≡ batch_bytes b ++ left_from (i + 1) bs
left_more bs i d b h is at = ap (flat_map batch_bytes) (one_more bs i d b h is at)

pub left_none : {Z : Type 0} (bs : List (Arc Submission Z)) (i : ℕ) → length bs ≤ i → left_from i bs ≡ []
left_none bs i h = ap (λ (l : List (Arc Submission _)). flat_map batch_bytes (values l)) (drop_all i bs h)

pub left_length : {Z : Type 0} (bs : List (Arc Submission Z)) (i : ℕ) (d : Arc Submission Z) (b : Submission) →
    i < length bs → d ≡ get_or bs i d → b ≡ arc_value d →
    length (left_from i bs) ≡ length (batch_bytes b) + length (left_from (i + 1) bs)
left_length bs i d b h is at =
    ap length (left_more bs i d b h is at) ∙ length-append (batch_bytes b) (left_from (i + 1) bs)

pub batch_put : {Z : Type 0} (bs : List (Arc Submission Z)) (i : ℕ) (d : Arc Submission Z) (b : Submission) →
    i < length bs → d ≡ get_or bs i d → b ≡ arc_value d → (start written new whole : List ℕ) →
    new ≡ written ++ batch_bytes b → written ++ left_from i bs ≡ start ++ whole →
    new ++ left_from (i + 1) bs ≡ start ++ whole
batch_put bs i d b h is at start written new whole put all =
    part_put start written new whole (batch_bytes b) (left_from (i + 1) bs) put
    (ap (λ (l : List ℕ). written ++ l) (sym (left_more bs i d b h is at)) ∙ all)

-- ---- a whole payload

pub payload_put : {Z : Type 0} (bs : List (Arc Submission Z)) (x y : List ℕ) → x ≡ number_bytes w64 (length bs) →
    y ≡ x ++ flat_map batch_bytes (values bs) → y ≡ payload_bytes (values bs)
payload_put bs x y first second =
    second
    ∙ ap (λ (l : List ℕ). l ++ flat_map batch_bytes (values bs)) first
    ∙ ap (λ (n : ℕ). number_bytes w64 n ++ flat_map batch_bytes (values bs)) (sym (length-map bs arc_value))

-- bytes, and 00 from their end on
pub zeros_put : (mid new bytes : List ℕ) (at end : ℕ) → length bytes ≡ at → take at mid ≡ bytes →
    ((i : ℕ) → i < at → get_or new i 0 ≡ get_or mid i 0) → ((i : ℕ) → at ≤ i → i < end → get_or new i 0 ≡ 0) →
    (i : ℕ) → i < end → get_or new i 0 ≡ get_or bytes i 0
zeros_put mid new bytes at end len is front zeros i lt = elim (cases_lt i at) [
  | inl low ↦ front i low ∙ sym (get_or-take at mid i 0 low) ∙ ap (λ (l : List ℕ). get_or l i 0) is
  | inr high ↦ zeros i high lt ∙ sym (get_or_past bytes i 0 (omega arith))
]

-- ---- cells

pub cells_begun : (start written : List ℕ) (n : ℕ) (m : Counts) (given : List (Place × ℕ)) → given ≡ entries m →
    n ≡ len m → written ≡ start ++ number_bytes w64 n → written ++ cells_bytes given ≡ start ++ matrix_bytes m
cells_begun start written n m given order counted is =
    ap (λ (l : List ℕ). l ++ cells_bytes given) is
    ∙ append_assoc start (number_bytes w64 n) (cells_bytes given)
    ∙ ap (λ (k : ℕ). start ++ (number_bytes w64 k ++ cells_bytes given)) counted
    ∙ ap (λ (es : List (Place × ℕ)). start ++ (number_bytes w64 (len m) ++ cells_bytes es)) order
    ∙ ap (λ (l : List ℕ). start ++ (number_bytes w64 (len m) ++ l)) (sym (append-nil (cells_bytes (entries m))))

-- ---- 00

pub zero_more : (from i : ℕ) (out : List ℕ) → i < length out →
    ((k : ℕ) → from ≤ k → k < i → get_or out k 0 ≡ 0) → (k : ℕ) → from ≤ k → k < i + 1 → get_or (set out i 0) k 0 ≡ 0
zero_more from i out lt zeros k low high = elim (cases_lt k i) [
  | inl below ↦ get_or-set_other out i k 0 0 (λ e. omega arith) ∙ zeros k low below
  | inr le ↦
      let same : k ≡ i = omega arith in
      ap (λ (n : ℕ). get_or (set out i 0) n 0) same ∙ get_or-set_same out i 0 0 lt
]
