-- What a write of a head to an empty file and a sync make of it.
use Rattle.std.proofs.Common.{◌≡◌, inl, inr, ⊎_elim, ℕ, ◌+◌, ◌<◌, ◌≤◌, List, [], length, get_or, sym, ◌∙◌, ap}
use Rattle.std.proofs.Common.{arith}
use Rattle.std.proofs.lemmas.Bool.{cases_lt}
use Rattle.std.proofs.lemmas.List.{get_or_past}
use Rattle.log_blocks.specs.Files.{IsSame}
use Rattle.log_disk.specs.Disk.{Holds, HoldsSome}
use Rattle.log_folder.specs.Names.{HasBytes, HasHead, IsDurable}

blank : (file : List ℕ) (i : ℕ) → IsSame file [] → get_or file i 0 ≡ 0
blank file i none = none i ∙ get_or_past [] i 0 (omega arith)

module _ (head : List ℕ) where
  pub head_written : (old new : List ℕ) → IsSame old [] → Holds 0 head old new → HasBytes head new
  head_written old new none holds = record {
    long = omega (arith, holds.ends);
    same = λ i.
        elim (cases_lt i (length head)) [
          | inl inside ↦
              let here : i ≡ 0 + i = omega arith in
              ap (λ k. get_or new k 0) here ∙ holds.inside i inside
          | inr behind ↦ holds.behind i (omega (arith, behind)) ∙ blank old i none ∙ sym (get_or_past head i 0 behind)
        ];
  }

  -- what a sync that brings all of it leaves
  pub head_left : (before now left : List ℕ) → IsSame before [] → HoldsSome 0 head before left → HasBytes head now
      → ((j : ℕ) → j < length head → get_or left (0 + j) 0 ≡ get_or now (0 + j) 0) → length now ≤ length left
      → HasBytes head left
  head_left before now left none some has brought long = record {
    long = omega (arith, has.long, long);
    same = λ i.
        elim (cases_lt i (length head)) [
          | inl inside ↦
              let here : i ≡ 0 + i = omega arith in
              ap (λ k. get_or left k 0) here ∙ brought i inside ∙ ap (λ k. get_or now k 0) (sym here) ∙ has.same i
          | inr behind ↦
              ⊎_elim
              (λ kept. kept ∙ blank before i none ∙ sym (get_or_past head i 0 behind))
              (λ other. absurd (omega (arith, behind, other.1, other.2)))
              (some.mixed i)
        ];
  }

pub head_durable : {D : Type 0} (tells : D → Type 0) (written : D → List ℕ) (may_leave : D → List ℕ → Type 0) (disk : D)
    (head : List ℕ) → HasHead tells written may_leave disk head → IsDurable written may_leave disk
head_durable tells written may_leave disk head has left now i = (has.durable left now).same i ∙ sym (has.file.same i)
