-- What is folded, by the version of the file.
use Rattle.std.proofs.Common.{◌≡◌, ℕ, ◌-◌, Bool, true, false, cond, List, Result, sym, ap, subst}
use Rattle.std.specs.Prelude.{◌==◌}
use Rattle.std.proofs.lemmas.Bool.{eq-eqb, ne_eqb}
use Rattle.std.specs.Int.{w64}
use Rattle.byte_io.specs.declared.fault.DeviceFault.{DeviceFault}
use Rattle.snap_file.specs.Spelling.{old_version}
use Rattle.snap_file.specs.Table.{Reading, Progress, field_in, entries_behind, base, folded_past, past, nothing_yet}
use Rattle.snap_file.specs.Outcomes.{Task, ReaderState, HasJudged}
use Rattle.snap_file.specs.declared.head.Head.{Head}
use Rattle.snap_file.specs.declared.fault.SnapFault.TheVariants.{BadHead}

chosen : (h : Head) (k : Progress → Reading) (test : Bool) → (h.version == old_version) ≡ test →
    past h k ≡ cond test (k nothing_yet) (folded_past h k)
unfolding past
chosen h k test e = ap (λ (t : Bool). cond t (k nothing_yet) (folded_past h k)) e

begins : (h : Head) (k : Progress → Reading) →
    folded_past h k ≡ field_in w64 0 (h.setup.max_batches - h.batches) BadHead
    (λ n. entries_behind h n nothing_yet (λ q. base h q k))
unfolding folded_past
begins h k i = folded_past h k

module _ {S : Type 0} (gives : S → Result (List ℕ) DeviceFault → S → Type 0) (failures : S → ℕ) (m : Task) (s t : S)
    (reader : ReaderState) (h : Head) (k : Progress → Reading) where
  -- nothing is folded
  pub past_old : (p : Progress) → p ≡ nothing_yet → HasJudged gives failures m s t reader (past h k) →
      h.version ≡ old_version → HasJudged gives failures m s t reader (k p)
  past_old p none read old =
      subst (λ (x : Progress). HasJudged gives failures m s t reader (k x)) (sym none)
      (subst (λ (r : Reading). HasJudged gives failures m s t reader r)
      (chosen h k true (eq-eqb h.version old_version old)) read)

  -- what is folded is read
  pub past_new : HasJudged gives failures m s t reader (past h k) → (h.version ≡ old_version → ⊥) →
      HasJudged gives failures m s t reader (folded_past h k)
  past_new read new =
      subst (λ (r : Reading). HasJudged gives failures m s t reader r)
      (chosen h k false (ne_eqb h.version old_version new)) read

  -- the number of folded batches is read, where this is the most batches of all
  pub folded_begins : (p : Progress) → p ≡ nothing_yet → HasJudged gives failures m s t reader (folded_past h k) →
      (most : ℕ) → most ≡ h.setup.max_batches →
      HasJudged gives failures m s t reader (field_in w64 0 (most - h.batches) BadHead
      (λ n. entries_behind h n p (λ q. base h q k)))
  folded_begins p none read most is =
      subst (λ (x : ℕ). HasJudged gives failures m s t reader (field_in w64 0 (x - h.batches) BadHead
      (λ n. entries_behind h n p (λ q. base h q k)))) (sym is)
      (subst (λ (x : Progress). HasJudged gives failures m s t reader
      (field_in w64 0 (h.setup.max_batches - h.batches) BadHead
      (λ n. entries_behind h n x (λ q. base h q k)))) (sym none)
      (subst (λ (r : Reading). HasJudged gives failures m s t reader r) (begins h k) read))
