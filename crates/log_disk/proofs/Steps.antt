-- Steps that are whole, as steps that may be part of one.
use Rattle.std.proofs.Common.{◌≡◌, ◌⊎◌, inl, inr, ℕ, ◌+◌, ◌-◌, ◌<◌, ◌≤◌, List, length, get_or, refl, ◌∙◌, ap, arith}
use Rattle.std.proofs.lemmas.Bool.{cases_lt}
use Rattle.log_disk.specs.Disk.{Holds, HoldsSome, IsCut, MayBeCut}

pub same_some : (at : ℕ) (bytes file : List ℕ) → HoldsSome at bytes file file
same_some at bytes file = record { mixed = λ i. inl refl; longer = omega arith }

pub same_cut : (len : ℕ) (file : List ℕ) → MayBeCut len file file
same_cut len file = record { bytes = λ i. inl refl; longer = inl (omega arith) }

pub holds_some : (at : ℕ) (bytes old new : List ℕ) → Holds at bytes old new → HoldsSome at bytes old new
holds_some at bytes old new holds = record {
  mixed = λ i.
      elim (cases_lt i at) [
        | inl before ↦ inl (holds.before i before)
        | inr from ↦
            elim (cases_lt i (at + length bytes)) [
              | inl inside ↦
                  let split : i ≡ at + (i - at) = omega arith in
                  inr (i - at, omega arith, split, ap (λ k. get_or new k 0) split ∙ holds.inside (i - at) (omega arith))
              | inr behind ↦ inl (holds.behind i behind)
            ]
      ];
  longer = holds.longer;
}

pub cut_may : (len : ℕ) (old new : List ℕ) → IsCut len old new → MayBeCut len old new
cut_may len old new cut = record {
  bytes = λ i. elim (cases_lt i len) [
    | inl before ↦ inl (cut.before i before)
    | inr behind ↦ inr
        (behind, cut.behind i behind)
  ];
  longer = cut.longer;
}
