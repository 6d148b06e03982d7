-- Whose a file is, by the version of the file.
use Rattle.std.proofs.Common.{◌≡◌, ℕ, Bool, true, false, cond, List, Result, ap, subst, refl}
use Rattle.std.specs.Prelude.{◌==◌}
use Rattle.std.proofs.lemmas.Bool.{eq-eqb, ne_eqb}
use Rattle.byte_io.specs.declared.fault.DeviceFault.{DeviceFault}
use Rattle.snap_file.specs.Origins.{unknown}
use Rattle.snap_file.specs.Spelling.{version, origin_bytes, origin_in}
use Rattle.snap_file.specs.Table.{Reading, named, origin_by}
use Rattle.snap_file.specs.Outcomes.{Task, ReaderState, HasJudged}
use Rattle.snap_file.specs.declared.origin.Origin.{Origin}

chosen : (v : ℕ) (k : Origin → Reading) (test : Bool) → (v == version) ≡ test →
    origin_by v k ≡ cond test (named k) (k unknown)
unfolding origin_by
chosen v k test e = ap (λ (b : Bool). cond b (named k) (k unknown)) e

module _ {S : Type 0} (gives : S → Result (List ℕ) DeviceFault → S → Type 0) (failures : S → ℕ) (m : Task) (s t : S)
    (reader : ReaderState) (v : ℕ) (k : Origin → Reading) where
  pub origin_there : v ≡ version → HasJudged gives failures m s t reader (origin_by v k) →
      HasJudged gives failures m s t reader (named k)
  origin_there e h = subst (λ (r : Reading). HasJudged gives failures m s t reader r)
      (chosen v k true (eq-eqb v version e)) h

  pub origin_missing : (v ≡ version → ⊥) → HasJudged gives failures m s t reader (origin_by v k) →
      HasJudged gives failures m s t reader (k unknown)
  origin_missing n h = subst (λ (r : Reading). HasJudged gives failures m s t reader r)
      (chosen v k false (ne_eqb v version n)) h

-- a file that is written says it
pub origin_written : (o : Origin) → origin_in version o ≡ origin_bytes o
unfolding origin_in
origin_written o = refl
