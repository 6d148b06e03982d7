-- A page that is read and written again.
use Rattle.std.proofs.Common.{◌≡◌, ◌⊎◌, inl, inr, ⊎_elim, ℕ, ◌+◌, ◌<◌, ◌≤◌, List, length, get_or, refl, sym, ◌∙◌}
use Rattle.std.proofs.Common.{ap, subst, arith}
use Rattle.std.specs.Prelude.{Result, Ok, Err, OnOk, OnErr}
use Rattle.log_blocks.specs.Files.{IsSame}
use Rattle.log_disk.specs.Disk.{Holds, HoldsSome, Elapses, Follows}
use Rattle.log_disk.proofs.Steps.{holds_some}
use Rattle.log_file.specs.Writer.{Mixes}

-- what a write makes, whether it succeeds or fails
pub some_written : {A E : Type 0} (result : Result A E) (at : ℕ) (bytes old new : List ℕ)
    → OnOk result (Holds at bytes old new) → OnErr result (HoldsSome at bytes old new) → HoldsSome at bytes old new
some_written (Ok done) at bytes old new holds some = holds_some at bytes old new holds
some_written (Err fault) at bytes old new holds some = some

module _ {D : Type 0} (written : D → List ℕ) (may_leave : D → List ℕ → Type 0) (moment : D → ℕ)
    (left_since : D → ℕ → List ℕ → Type 0) (old mid : D)
    (same : written mid ≡ written old) (fewer : (left : List ℕ) → may_leave mid left → may_leave old left)
    (time : Elapses (moment old) (moment mid) (left_since old) (left_since mid) (may_leave mid)) where
  -- after the read alone
  pub read_same : IsSame (written mid) (written old)
  read_same i = ap (λ (l : List ℕ). get_or l i 0) same

  pub read_crash : Follows (Mixes (written old)) (may_leave old) (may_leave mid)
  read_crash left now = (left, fewer left now, record { bytes = λ i. inl refl; longer = omega arith })

  pub read_time : Elapses (moment old) (moment mid) (left_since old) (left_since mid)
      (λ l. may_leave old l ⊎ may_leave mid l)
  read_time = record {
    later = time.later;
    nothing_else = λ t left le since. ⊎_elim (λ past. inl past) (λ now. inr (inr now))
        (time.nothing_else t left le since);
    keeps = time.keeps;
  }

  -- after the write
  module _ (new : D) (at : ℕ) (bytes : List ℕ)
      (read : (j : ℕ) → j < length bytes → get_or bytes j 0 ≡ get_or (written old) (at + j) 0) where
    pub again_same : HoldsSome at bytes (written mid) (written new) → IsSame (written new) (written old)
    again_same some i =
        ⊎_elim
        (λ kept. kept ∙ ap (λ (l : List ℕ). get_or l i 0) same)
        (λ other. other.3 ∙ read other.0 other.1 ∙ ap (λ k. get_or (written old) k 0) (sym other.2))
        (some.mixed i)

    pub again_longer : HoldsSome at bytes (written mid) (written new) → length (written old) ≤ length (written new)
    again_longer some = omega (arith, some.longer, ap length same)

    pub again_crash : Follows (HoldsSome at bytes) (may_leave mid) (may_leave new)
        → Follows (Mixes (written old)) (may_leave old) (may_leave new)
    again_crash follows left now =
        let from = follows left now in
        let some = from.2 in (
          from.0,
          fewer from.0 from.1,
          record {
            bytes = λ i. ⊎_elim (λ kept. inl kept) (λ other. inr
                (other.3 ∙ read other.0 other.1 ∙ ap (λ k. get_or (written old) k 0) (sym other.2))) (some.mixed i);
            longer = some.longer;
          },
        )

    pub again_time : Elapses (moment mid) (moment new) (left_since mid) (left_since new) (may_leave new)
        → Elapses (moment old) (moment new) (left_since old) (left_since new) (λ l. may_leave old l ⊎ may_leave new l)
    again_time second = record {
      later = omega (arith, time.later, second.later);
      nothing_else = λ t left le since.
          ⊎_elim
          (λ middle. ⊎_elim (λ past. inl past) (λ now. inr (inl (fewer left now))) (time.nothing_else t left le middle))
          (λ now. inr (inr now))
          (second.nothing_else t left (omega (arith, le, time.later)) since);
      keeps = λ t left le past. second.keeps t left (omega (arith, le, time.later)) (time.keeps t left le past);
    }
