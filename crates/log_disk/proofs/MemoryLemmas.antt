-- The file in memory: what its calls may leave, and how its moments go on.
use Rattle.std.proofs.Common.{◌≡◌, ◌⊎◌, inl, inr, ⊎_elim, ℕ, zero, suc, ◌+◌, ◌-◌, ◌<◌, ◌≤◌, List, [], ◌∷◌, ◌++◌}
use Rattle.std.proofs.Common.{length, length-append, get_or, drop, refl, sym, ◌∙◌, ap, subst, arith}
use Rattle.std.specs.Prelude.{Vec, min}
use Rattle.std.proofs.lemmas.Bool.{cases_lt, cases_eq}
use Rattle.std.proofs.lemmas.List.{get_or_past, get_or_append_left, get_or-append-add, get_or-drop, length-drop}
use Rattle.log_blocks.specs.Files.{Mixed}
use Rattle.log_disk.specs.Disk.{Holds, HoldsSome, IsCut, MayBeCut, Follows, Elapses}
use Rattle.log_disk.proofs.Steps.{holds_some}
use Rattle.log_disk.specs.Memory.{Between, IsPending, IsSized, HadBeen, LeftSince}

-- ---- a file byte by byte

made : (ℕ → ℕ) → ℕ → ℕ → List ℕ
made f from zero = []
made f from (suc n) = f from ∷ made f (suc from) n

length-made : (f : ℕ → ℕ) (from n : ℕ) → length (made f from n) ≡ n
unfolding made
length-made f from zero = refl
length-made f from (suc n) = omega (arith, length-made f (suc from) n)

get_made : (f : ℕ → ℕ) (from n i : ℕ) → i < n → get_or (made f from n) i 0 ≡ f (from + i)
unfolding made
get_made f from zero i lt = absurd (omega arith)
get_made f from (suc n) zero lt = let same : from ≡ from + 0 = omega arith in ap f same
get_made f from (suc n) (suc i) lt = let same : suc from + i ≡ from + suc i = omega arith in get_made f (suc from) n i
    (omega arith) ∙ ap f same

-- ---- a file before a step, by what is left after it

old_byte : (l d w : ℕ) → (b : ℕ) × ((b ≡ d) ⊎ (b ≡ w)) × ((b ≡ l) ⊎ ((l ≡ d → ⊥) × (l ≡ w → ⊥)))
old_byte l d w =
    elim (cases_eq l d) [
      | inl same ↦ (l, inl same, inl refl)
      | inr differs ↦ elim (cases_eq l w) [
        | inl same ↦ (l, inr same, inl refl)
        | inr other ↦
            (d, inl refl, inr (differs, other))
      ]
    ]

module _ (durable written left : List ℕ) (n : ℕ) (long : length left ≤ n)
    (ends : (i : ℕ) → n ≤ i → (get_or durable i 0 ≡ 0) ⊎ (get_or written i 0 ≡ 0)) where
  byte_before : ℕ → ℕ
  byte_before i = (old_byte (get_or left i 0) (get_or durable i 0) (get_or written i 0)).0

  file_before : List ℕ
  file_before = made byte_before 0 n

  length-before : length file_before ≡ n
  unfolding file_before
  length-before = length-made byte_before 0 n

  get_before : (i : ℕ) → i < n → get_or file_before i 0 ≡ byte_before i
  unfolding file_before
  get_before i lt = let here : 0 + i ≡ i = omega arith in get_made byte_before 0 n i lt ∙ ap byte_before here

  before_bytes : (i : ℕ) → (get_or file_before i 0 ≡ get_or durable i 0) ⊎ (get_or file_before i 0 ≡ get_or written i 0)
  unfolding byte_before
  before_bytes i =
      elim (cases_lt i n) [
        | inl within ↦
            let here = get_before i within in
            let byte = old_byte (get_or left i 0) (get_or durable i 0) (get_or written i 0) in
            ⊎_elim (λ d. inl (here ∙ d)) (λ w. inr (here ∙ w)) byte.1
        | inr past ↦
            let none : get_or file_before i 0 ≡ 0 = get_or_past file_before i 0 (omega (arith, length-before)) in
            ⊎_elim (λ d. inl (none ∙ sym d)) (λ w. inr (none ∙ sym w)) (ends i past)
      ]

  before_left : (i : ℕ) → (get_or left i 0 ≡ get_or file_before i 0)
      ⊎ ((get_or left i 0 ≡ get_or durable i 0 → ⊥) × (get_or left i 0 ≡ get_or written i 0 → ⊥))
  unfolding byte_before
  before_left i =
      elim (cases_lt i n) [
        | inl within ↦
            let here = get_before i within in
            let byte = old_byte (get_or left i 0) (get_or durable i 0) (get_or written i 0) in
            ⊎_elim (λ same. inl (sym (here ∙ same))) (λ none. inr none) byte.2
        | inr past ↦ inl (get_or_past left i 0 (omega arith)
            ∙ sym (get_or_past file_before i 0 (omega (arith, length-before))))
      ]

-- ---- the calls

pub follows_some : (durable written next bytes : List ℕ) (at : ℕ) → HoldsSome at bytes written next
    → Follows (HoldsSome at bytes) (Between durable written) (Between durable next)
follows_some durable written next bytes at some left now =
    let n = length left in
    let ends : (i : ℕ) → n ≤ i → (get_or durable i 0 ≡ 0) ⊎ (get_or written i 0 ≡ 0) = λ i past.
    ⊎_elim (λ d. inl (get_or_past durable i 0 (omega arith)))
    (λ w. inr (get_or_past written i 0 (omega (arith, some.longer)))) now.longer in
    let within : length left ≤ n = omega arith in
    let size = length-before durable written left n within ends in (
      file_before durable written left n within ends,
      record {
        bytes = before_bytes durable written left n within ends;
        longer = ⊎_elim (λ d. inl (omega (arith, size))) (λ w. inr (omega (arith, size, some.longer))) now.longer;
      },
      record {
        mixed = λ i.
            ⊎_elim
            (λ same. inl same)
            (λ none.
            ⊎_elim
            (λ d. absurd (none.0 d))
            (λ new. ⊎_elim (λ w. absurd (none.1 (new ∙ w))) (λ other. inr (other.0, other.1, other.2, new ∙ other.3))
            (some.mixed i))
            (now.bytes i))
            (before_left durable written left n within ends i);
        longer = omega (arith, size);
      },
    )

cut_follows_to : (durable written next left : List ℕ) (len n : ℕ) → MayBeCut len written next
    → Between durable next left → length left ≤ n
    → ((i : ℕ) → n ≤ i → (get_or durable i 0 ≡ 0) ⊎ (get_or written i 0 ≡ 0))
    → (length durable ≤ n) ⊎ (length written ≤ n) → (n ≤ length left) ⊎ (len ≤ length left)
    → (before : List ℕ) × Between durable written before × MayBeCut len before left
cut_follows_to durable written next left len n cut now within ends longer shorter =
    let size = length-before durable written left n within ends in (
      file_before durable written left n within ends,
      record {
        bytes = before_bytes durable written left n within ends;
        longer = ⊎_elim (λ d. inl (omega (arith, size))) (λ w. inr (omega (arith, size))) longer;
      },
      record {
        bytes = λ i.
            ⊎_elim
            (λ same. inl same)
            (λ none.
            ⊎_elim
            (λ d. absurd (none.0 d))
            (λ new. ⊎_elim (λ w. absurd (none.1 (new ∙ w))) (λ gone. inr (gone.0, new ∙ gone.1)) (cut.bytes i))
            (now.bytes i))
            (before_left durable written left n within ends i);
        longer = ⊎_elim (λ a. inl (omega (arith, size))) (λ b. inr b) shorter;
      },
    )

pub follows_cut : (durable written next : List ℕ) (len : ℕ) → MayBeCut len written next
    → Follows (MayBeCut len) (Between durable written) (Between durable next)
follows_cut durable written next len cut left now =
    ⊎_elim
    (λ d.
    cut_follows_to durable written next left len (length left) cut now (omega arith)
    (λ i past. inl (get_or_past durable i 0 (omega arith))) (inl d) (inl (omega arith)))
    (λ short.
    ⊎_elim
    (λ w.
    cut_follows_to durable written next left len (length left) cut now (omega arith)
    (λ i past. inr (get_or_past written i 0 (omega arith))) (inr (omega arith)) (inl (omega arith)))
    (λ to.
    cut_follows_to durable written next left len (length left + length durable) cut now (omega arith)
    (λ i past. inl (get_or_past durable i 0 (omega arith))) (inl (omega arith)) (inr (omega arith)))
    cut.longer)
    now.longer

-- a file between that before a write and that after it
pub mixed_some : (at : ℕ) (bytes old all new : List ℕ) → Holds at bytes old all → Between old all new
    → HoldsSome at bytes old new
mixed_some at bytes old all new holds between =
    let some = holds_some at bytes old all holds in
    record {
      mixed = λ i.
          ⊎_elim (λ same. inl same) (λ later. ⊎_elim (λ kept. inl (later ∙ kept))
          (λ other. inr (other.0, other.1, other.2, later ∙ other.3)) (some.mixed i)) (between.bytes i);
      longer = ⊎_elim (λ a. omega arith) (λ b. omega (arith, holds.longer)) between.longer;
    }

-- what is pending after a write
pub write_pends : (at : ℕ) (bytes durable old new pending next : List ℕ) → Holds at bytes old new
    → Holds at bytes pending next → IsPending durable old pending → IsPending durable new next
write_pends at bytes durable old new pending next writes pends was i =
    elim (cases_lt i at) [
      | inl before ↦ ⊎_elim (λ d. inl (pends.before i before ∙ d))
          (λ w. inr (pends.before i before ∙ w ∙ sym (writes.before i before))) (was i)
      | inr from ↦
          elim (cases_lt i (at + length bytes)) [
            | inl inside ↦
                let split : at + (i - at) ≡ i = omega arith in
                inr (subst (λ k. get_or next k 0 ≡ get_or new k 0) split
                (pends.inside (i - at) (omega arith) ∙ sym (writes.inside (i - at) (omega arith))))
            | inr behind ↦ ⊎_elim (λ d. inl (pends.behind i behind ∙ d))
                (λ w. inr (pends.behind i behind ∙ w ∙ sym (writes.behind i behind))) (was i)
          ]
    ]

pub write_still : (at : ℕ) (bytes old new pending next : List ℕ) → Holds at bytes old new
    → Holds at bytes pending next → (i : ℕ) → get_or pending i 0 ≡ get_or old i 0 → get_or next i 0 ≡ get_or new i 0
write_still at bytes old new pending next writes pends i was =
    elim (cases_lt i at) [
      | inl before ↦ pends.before i before ∙ was ∙ sym (writes.before i before)
      | inr from ↦
          elim (cases_lt i (at + length bytes)) [
            | inl inside ↦
                let split : at + (i - at) ≡ i = omega arith in
                subst (λ k. get_or next k 0 ≡ get_or new k 0) split
                (pends.inside (i - at) (omega arith) ∙ sym (writes.inside (i - at) (omega arith)))
            | inr behind ↦ pends.behind i behind ∙ was ∙ sym (writes.behind i behind)
          ]
    ]

-- and after a cut
pub cut_pends : (len : ℕ) (durable old new pending next : List ℕ) → IsCut len old new → IsCut len pending next
    → IsPending durable old pending → IsPending durable new next
cut_pends len durable old new pending next writes pends was i =
    elim (cases_lt i len) [
      | inl before ↦ ⊎_elim (λ d. inl (pends.before i before ∙ d))
          (λ w. inr (pends.before i before ∙ w ∙ sym (writes.before i before))) (was i)
      | inr behind ↦ inr (pends.behind i behind ∙ sym (writes.behind i behind))
    ]

pub cut_still : (len : ℕ) (old new pending next : List ℕ) → IsCut len old new → IsCut len pending next → (i : ℕ)
    → get_or pending i 0 ≡ get_or old i 0 → get_or next i 0 ≡ get_or new i 0
cut_still len old new pending next writes pends i was =
    elim (cases_lt i len) [
      | inl before ↦ pends.before i before ∙ was ∙ sym (writes.before i before)
      | inr behind ↦ pends.behind i behind ∙ sym (writes.behind i behind)
    ]

-- what is pending, as long as what is written
sized_byte : (durable written pending all : List ℕ) → IsPending durable written pending
    → IsSized (length written) pending all → (i : ℕ)
    → (get_or all i 0 ≡ get_or durable i 0) ⊎ (get_or all i 0 ≡ get_or written i 0)
sized_byte durable written pending all pends size i =
    elim (cases_lt i (length written)) [
      | inl within ↦ ⊎_elim (λ d. inl (size.same i within ∙ d)) (λ w. inr (size.same i within ∙ w)) (pends i)
      | inr past ↦ inr (get_or_past all i 0 (omega (arith, size.long)) ∙ sym (get_or_past written i 0 past))
    ]

pub sync_left : (durable written pending all left : List ℕ) → IsPending durable written pending
    → IsSized (length written) pending all → Between all written left → Between durable written left
sync_left durable written pending all left pends size now = record {
  bytes = λ i.
      ⊎_elim
      (λ same. ⊎_elim (λ d. inl (same ∙ d)) (λ w. inr (same ∙ w)) (sized_byte durable written pending all pends size i))
      (λ w. inr w)
      (now.bytes i);
  longer = ⊎_elim (λ a. inr (omega (arith, size.long))) (λ b. inr b) now.longer;
}

pub sync_brings : (written pending all left : List ℕ) → IsSized (length written) pending all
    → Between all written left → (i : ℕ) → get_or pending i 0 ≡ get_or written i 0
    → get_or left i 0 ≡ get_or written i 0
sync_brings written pending all left size now i fresh =
    ⊎_elim
    (λ same.
    elim (cases_lt i (length written)) [
      | inl within ↦ same ∙ size.same i within ∙ fresh
      | inr past ↦ same ∙ get_or_past all i 0 (omega (arith, size.long)) ∙ sym (get_or_past written i 0 past)
    ])
    (λ w. w)
    (now.bytes i)

pub sync_long : (written pending all left : List ℕ) → IsSized (length written) pending all → Between all written left
    → length written ≤ length left
sync_long written pending all left size now = ⊎_elim (λ a. omega (arith, a, size.long)) (λ w. w) now.longer

pub sync_some_left : (durable written pending all next left : List ℕ) → IsPending durable written pending
    → IsSized (length written) pending all → Between durable all next → Between next written left
    → Between durable written left
sync_some_left durable written pending all next left pends size some now = record {
  bytes = λ i.
      ⊎_elim
      (λ same.
      ⊎_elim
      (λ d. inl (same ∙ d))
      (λ a. ⊎_elim (λ d. inl (same ∙ a ∙ d)) (λ w. inr (same ∙ a ∙ w))
      (sized_byte durable written pending all pends size i))
      (some.bytes i))
      (λ w. inr w)
      (now.bytes i);
  longer = ⊎_elim
      (λ a. ⊎_elim (λ d. inl (omega arith)) (λ l. inr (omega (arith, size.long))) some.longer)
      (λ b. inr b)
      now.longer;
}

-- what stands up to the place, the bytes, and what stood behind them
pub overwritten_holds : (front bytes old new : List ℕ) (at : ℕ) → IsSized at old front
    → new ≡ front ++ bytes ++ drop (at + length bytes) old → Holds at bytes old new
overwritten_holds front bytes old new at size is = record {
  inside = λ j lt. ap (λ (l : List ℕ). get_or l (at + j) 0) is
      ∙ get_or_append_left (front ++ bytes) (drop (at + length bytes) old) 0 (at + j)
      (omega (arith, length-append front bytes, size.long))
      ∙ ap (λ n. get_or (front ++ bytes) (n + j) 0) (sym size.long) ∙ get_or-append-add front bytes j 0;
  before = λ i lt. ap (λ (l : List ℕ). get_or l i 0) is
      ∙ get_or_append_left (front ++ bytes) (drop (at + length bytes) old) 0 i
      (omega (arith, length-append front bytes, size.long))
      ∙ get_or_append_left front bytes 0 i (omega (arith, size.long)) ∙ size.same i lt;
  behind = λ i le.
      let split : i ≡ length (front ++ bytes) + (i - (at + length bytes)) = omega
      (arith, length-append front bytes, size.long) in
      let back : at + length bytes + (i - (at + length bytes)) ≡ i = omega arith in
      ap (λ (l : List ℕ). get_or l i 0) is ∙ ap (λ n. get_or (front ++ bytes ++ drop (at + length bytes) old) n 0) split
      ∙ get_or-append-add (front ++ bytes) (drop (at + length bytes) old) (i - (at + length bytes)) 0
      ∙ get_or-drop (at + length bytes) old (i - (at + length bytes)) 0 ∙ ap (λ n. get_or old n 0) back;
  longer = omega (
    arith,
    ap length is,
    length-append (front ++ bytes) (drop (at + length bytes) old),
    length-append
        front bytes,
    length-drop (at + length bytes) old,
    size.long,
  );
  ends = omega (
    arith,
    ap length is,
    length-append (front ++ bytes) (drop (at + length bytes) old),
    length-append
        front bytes,
    size.long,
  );
}

-- a file whose bytes were picked
pub picked_between : (one other new : List ℕ) (len : ℕ) → min (length one) (length other) ≤ len → length new ≡ len
    → ((k : ℕ) → k < len → (get_or new k 0 ≡ get_or one k 0) ⊎ (get_or new k 0 ≡ get_or other k 0))
    → Between one other new
picked_between one other new len least long picked =
    elim (cases_lt len (length one)) [
      | inl short ↦
          let enough : length other ≤ len = omega arith in
          record {
            bytes = λ i. elim (cases_lt i len) [
              | inl within ↦ picked i within
              | inr past ↦ inr
                  (get_or_past new i 0 (omega arith) ∙ sym (get_or_past other i 0 (omega arith)))
            ];
            longer = inr (omega arith);
          }
      | inr enough ↦
          record {
            bytes = λ i. elim (cases_lt i len) [
              | inl within ↦ picked i within
              | inr past ↦ inl
                  (get_or_past new i 0 (omega arith) ∙ sym (get_or_past one i 0 (omega arith)))
            ];
            longer = inl (omega arith);
          }
    ]

-- ---- the moments

module _ {Z : Type 0} where
  keeps : (past : List (Vec ℕ Z × Vec ℕ Z)) (v : Vec ℕ Z × Vec ℕ Z) (left : List ℕ) → HadBeen past left
      → HadBeen (past ++ v ∷ []) left
  keeps [] v left had = absurd had
  keeps (p ∷ past) v left (inl here) = inl here
  keeps (p ∷ past) v left (inr there) = inr (keeps past v left there)

  adds : (past : List (Vec ℕ Z × Vec ℕ Z)) (v : Vec ℕ Z × Vec ℕ Z) (left : List ℕ) → HadBeen (past ++ v ∷ []) left
      → HadBeen past left ⊎ Between v.0.items v.1.items left
  adds [] v left (inl here) = inr here
  adds [] v left (inr none) = absurd none
  adds (p ∷ past) v left (inl here) = inl (inl here)
  adds (p ∷ past) v left (inr there) = ⊎_elim (λ had. inl (inr had)) (λ new. inr new) (adds past v left there)

  newest : (past : List (Vec ℕ Z × Vec ℕ Z)) (v : Vec ℕ Z × Vec ℕ Z) (left : List ℕ)
      → Between v.0.items v.1.items left → HadBeen (past ++ v ∷ []) left
  newest [] v left is = inl is
  newest (p ∷ past) v left is = inr (newest past v left is)

  drop_push : (t : ℕ) (past : List (Vec ℕ Z × Vec ℕ Z)) (v : Vec ℕ Z × Vec ℕ Z) → t ≤ length past
      → drop t (past ++ v ∷ []) ≡ drop t past ++ v ∷ []
  drop_push zero past v le = refl
  drop_push (suc t) [] v le = absurd (omega arith)
  drop_push (suc t) (p ∷ past) v le = drop_push t past v (omega arith)

  elapses_push : (past : List (Vec ℕ Z × Vec ℕ Z)) (v : Vec ℕ Z × Vec ℕ Z) (durable written : List ℕ)
      → Elapses (length past) (length (past ++ v ∷ [])) (LeftSince past v.0.items v.1.items)
      (LeftSince (past ++ v ∷ []) durable written) (Between durable written)
  elapses_push past v durable written = record {
    later = omega (arith, length-append past (v ∷ []));
    nothing_else = λ t left le since. ⊎_elim (λ now. inr now)
        (λ had. inl (was t left (adds (drop t past) v left
        (subst (λ (l : List (Vec ℕ Z × Vec ℕ Z)). HadBeen l left) (drop_push t past v le) had)))) since;
    keeps = λ t left le since. inr (subst (λ (l : List (Vec ℕ Z × Vec ℕ Z)). HadBeen l left)
        (sym (drop_push t past v le)) (⊎_elim (λ now. newest (drop t past) v left now) (keeps (drop t past) v left)
        since));
  }
    where
      was : (t : ℕ) (left : List ℕ) → HadBeen (drop t past) left ⊎ Between v.0.items v.1.items left
          → LeftSince past v.0.items v.1.items t left
      was t left (inl had) = inr had
      was t left (inr new) = inl new

  -- what `keep` kept is the moment before
  pub elapses_to : (past later : List (Vec ℕ Z × Vec ℕ Z)) (old_durable old_written durable written : List ℕ)
      → (v : Vec ℕ Z × Vec ℕ Z) × (v.0.items ≡ old_durable) × (v.1.items ≡ old_written) × (later ≡ past ++ v ∷ [])
      → Elapses (length past) (length later) (LeftSince past old_durable old_written)
      (LeftSince later durable written) (Between durable written)
  elapses_to past later old_durable old_written durable written kept =
      let v = kept.0 in
      let begun = subst (λ (l : List (Vec ℕ Z × Vec ℕ Z)). Elapses (length past) (length l)
      (LeftSince past v.0.items v.1.items) (LeftSince l durable written) (Between durable written)) (sym kept.3)
      (elapses_push past v durable written) in
      let half = subst (λ (l : List ℕ). Elapses (length past) (length later) (LeftSince past l v.1.items)
      (LeftSince later durable written) (Between durable written)) kept.1 begun in
      subst (λ (l : List ℕ). Elapses (length past) (length later) (LeftSince past old_durable l)
      (LeftSince later durable written) (Between durable written)) kept.2 half

  pub elapses_same : (past : List (Vec ℕ Z × Vec ℕ Z)) (durable written : List ℕ)
      → Elapses (length past) (length past) (LeftSince past durable written) (LeftSince past durable written)
      (Between durable written)
  elapses_same past durable written = record {
    later = omega arith;
    nothing_else = λ t left le since. inl since;
    keeps = λ t left le since. since;
  }
