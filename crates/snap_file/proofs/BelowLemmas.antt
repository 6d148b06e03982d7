-- A field that is judged by a bound above alone is one that is to be from 0 to that bound.
use Rattle.std.proofs.Common.{◌≡◌, ℕ, ◌+◌, ◌-◌, ◌<◌, ◌≤◌, List, Result, sym, subst, ◌∙◌, arith}
use Rattle.std.proofs.lemmas.Bool.Decides.{nat_tests}
use Rattle.std.specs.Prelude.{nat_le, nat_lt}
use Rattle.std.specs.Int.{w64}
use Rattle.byte_io.specs.declared.fault.DeviceFault.{DeviceFault}
use Rattle.snap_file.specs.Table.{Reading, number, refuse_if, outside, field_in}
use Rattle.snap_file.specs.Outcomes.{Task, ReaderState, HasJudged}
use Rattle.snap_file.specs.declared.fault.SnapFault.{SnapFault}

below_bound : (bound n : ℕ) → 0 < bound → nat_le bound n ≡ outside 0 (bound - 1) n
below_bound bound n some = grind (arith, nat_tests)

below_total : (total counted n : ℕ) → counted ≤ total → nat_lt total (counted + n) ≡ outside 0 (total - counted) n
below_total total counted n within = grind (arith, nat_tests)

-- a field below a bound, which the code has from a call
pub read_below : {S : Type 0} (gives : S → Result (List ℕ) DeviceFault → S → Type 0) (failures : S → ℕ) (m : Task)
    (s t : S) (reader : ReaderState) (bound called : ℕ) (kind : SnapFault) (k : ℕ → Reading) →
    called ≡ bound → 0 < called →
    HasJudged gives failures m s t reader (number w64 (λ n. refuse_if (nat_le bound n) kind (λ _. k n))) →
    HasJudged gives failures m s t reader (field_in w64 0 (called - 1) kind k)
read_below gives failures m s t reader bound called kind k is some h =
    subst (λ (x : Reading). HasJudged gives failures m s t reader x)
    ((λ i. number w64 (λ n. refuse_if (nat_le (sym is i) n) kind (λ _. k n)))
    ∙ (λ i. number w64 (λ n. refuse_if (below_bound called n some i) kind (λ _. k n)))) h

-- a field that with what was counted is at most a total
pub read_within : {S : Type 0} (gives : S → Result (List ℕ) DeviceFault → S → Type 0) (failures : S → ℕ) (m : Task)
    (s t : S) (reader : ReaderState) (total counted : ℕ) (kind : SnapFault) (k : ℕ → Reading) → counted ≤ total →
    HasJudged gives failures m s t reader (number w64 (λ n. refuse_if (nat_lt total (counted + n)) kind (λ _. k n))) →
    HasJudged gives failures m s t reader (field_in w64 0 (total - counted) kind k)
read_within gives failures m s t reader total counted kind k within h =
    subst (λ (x : Reading). HasJudged gives failures m s t reader x)
    (λ i. number w64 (λ n. refuse_if (below_total total counted n within i) kind (λ _. k n))) h
