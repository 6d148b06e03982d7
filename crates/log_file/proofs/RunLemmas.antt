-- How a run of calls goes on.
use Rattle.std.proofs.Common.{◌≡◌, ◌⊎◌, inl, inr, ⊎_elim, ℕ, ◌≤◌, List, sym, subst, arith}
use Rattle.log_disk.specs.Disk.{Elapses, Follows, LeavesOnly}
use Rattle.log_file.specs.Runs.{Stays}

-- what has P has Q too
pub leaves_to : {D : Type 0} (moment : D → ℕ) (left_since : D → ℕ → List ℕ → Type 0) (P Q : List ℕ → Type 0)
    (old new : D) → ((left : List ℕ) → P left → Q left) → LeavesOnly moment left_since old new P
    → LeavesOnly moment left_since old new Q
leaves_to moment left_since P Q old new to leaves = record {
  later = leaves.later;
  each = λ l since. to l (leaves.each l since);
  before = λ t l le since. ⊎_elim (λ past. inl past) (λ now. inr (to l now)) (leaves.before t l le since);
}

module _ {D : Type 0} (written : D → List ℕ) (may_leave : D → List ℕ → Type 0) (moment : D → ℕ)
    (left_since : D → ℕ → List ℕ → Type 0) (P : List ℕ → Type 0) where
  -- before the first call
  pub begun : (old : D) → P (written old) → ((left : List ℕ) → may_leave old left → P left)
      → ((left : List ℕ) → left_since old (moment old) left → may_leave old left)
      → Stays written may_leave moment left_since P old old
  begun old file left only_now = record {
    file = file;
    left = left;
    moments = record {
      later = omega arith;
      each = λ l since. left l (only_now l since);
      before = λ t l le since. inl
          since;
    };
  }

  -- one call more, during which a loss of power leaves what has Q
  pub went_on : (old mid new : D) (Q : List ℕ → Type 0) → Stays written may_leave moment left_since P old mid
      → P (written new) → ((left : List ℕ) → may_leave new left → P left)
      → Elapses (moment mid) (moment new) (left_since mid) (left_since new) Q → ((left : List ℕ) → Q left → P left)
      → Stays written may_leave moment left_since P old new
  went_on old mid new Q so_far file left time here =
      let m = so_far.moments in
      record {
        file = file;
        left = left;
        moments = record {
          later = omega (arith, m.later, time.later);
          each = λ l since. ⊎_elim (m.each l) (here l) (time.nothing_else (moment old) l m.later since);
          before = λ t l le since. ⊎_elim (m.before t l le) (λ now. inr (here l now))
              (time.nothing_else t l (omega (arith, le, m.later)) since);
        };
      }

  -- a call that is such a step
  pub stepped : (S : List ℕ → List ℕ → Type 0) (old mid new : D) → Stays written may_leave moment left_since P old mid
      → ((x y : List ℕ) → P x → S x y → P y) → P (written new)
      → Follows S (may_leave mid) (may_leave new)
      → Elapses (moment mid) (moment new) (left_since mid) (left_since new) (may_leave new)
      → Stays written may_leave moment left_since P old new
  stepped S old mid new so_far step file follows time =
      let left : (l : List ℕ) → may_leave new l
      → P l = λ l now. let from = follows l now in step from.0 l (so_far.left from.0 from.1) from.2 in
      went_on old mid new (may_leave new) so_far file left time left

  -- a call that is two such steps, of which the first leaves all as it was
  pub stepped_twice : (S : List ℕ → List ℕ → Type 0) (old mid new : D)
      → Stays written may_leave moment left_since P old mid → ((x y : List ℕ) → P x → S x y → P y) → P (written new)
      → Follows S (may_leave mid) (may_leave new)
      → Elapses (moment mid) (moment new) (left_since mid) (left_since new) (λ l. may_leave mid l ⊎ may_leave new l)
      → Stays written may_leave moment left_since P old new
  stepped_twice S old mid new so_far step file follows time =
      let left : (l : List ℕ) → may_leave new l
      → P l = λ l now. let from = follows l now in step from.0 l (so_far.left from.0 from.1) from.2 in
      went_on old mid new (λ l. may_leave mid l ⊎ may_leave new l) so_far file left time
      (λ l either. ⊎_elim (so_far.left l) (left l) either)

  -- a call that changes nothing of the bytes
  pub kept : (old mid new : D) → Stays written may_leave moment left_since P old mid → written new ≡ written mid
      → ((left : List ℕ) → may_leave new left → may_leave mid left)
      → Elapses (moment mid) (moment new) (left_since mid) (left_since new) (may_leave new)
      → Stays written may_leave moment left_since P old new
  kept old mid new so_far same fewer time =
      let left : (l : List ℕ) → may_leave new l → P l = λ l now. so_far.left l (fewer l now) in
      went_on old mid new (may_leave new) so_far (subst P (sym same) so_far.file) left time left

  pub moments_to : (Q : List ℕ → Type 0) (old new : D) → ((left : List ℕ) → P left → Q left)
      → Stays written may_leave moment left_since P old new → LeavesOnly moment left_since old new Q
  moments_to Q old new to so_far = leaves_to moment left_since P Q old new to so_far.moments
