-- What a fault of a call is told as.
use Rattle.std.proofs.Common.{◌≡◌, ◌≢◌, ◌⊎◌, ℕ, Result, Ok, Err, IfErr, IsErrAnd, inl, inr, refl, sym, ◌∙◌, subst}
use Rattle.std.proofs.Common.{true, false}
use Rattle.batch_store.specs.Growth.{RefusesGrowth, given_over}
use Rattle.batch_store.specs.Setups.{Setting}
use Rattle.batch_store.specs.declared.fault.GrowthFault.{GrowthFault}
use Rattle.batch_store.specs.declared.fault.GrowthFault.TheVariants.{TooSmall, Memory}
use Rattle.batch_store.specs.declared.given_numbers.GivenNumbers.{GivenNumbers}
use Rattle.batch_store.specs.Accepted.{Accepted}
use Rattle.batch_store.specs.Books.{Listing, AreAccepted, accepted_in}
use Rattle.snap_file.specs.Snapshots.{Saved, saved}
use Rattle.snap_file.specs.declared.origin.Origin.{Origin}
use Rattle.snap_file.specs.declared.fault.SnapFault.TheVariants as snap
use Rattle.snap_file.specs.declared.fault.FileFault.{FileFault}
use Rattle.snap_file.specs.declared.fault.FileFault.TheVariants as file
use Rattle.snap_file.specs.declared.fault.SaveFault.{SaveFault}
use Rattle.snap_file.specs.declared.fault.SaveFault.TheVariants as save
use Rattle.snap_report.specs.declared.fault.CheckFault.{CheckFault}
use Rattle.snap_report.specs.declared.fault.CheckFault.TheVariants as check
use Rattle.snap_report.specs.declared.fault.FoldFault.{FoldFault}
use Rattle.snap_report.specs.declared.fault.FoldFault.TheVariants as fold
use Rattle.snap_report.specs.Checks.{fault_of_file}
use Rattle.snap_report.specs.Folds.{fold_fault_of_file, fold_fault_of_growth, fold_fault_of_save}
use Rattle.snap_report.specs.Kept.{most_bytes, HasLoaded, HasFolded, IsAlone, IsReadTold, IsFoldTold, ComesLater}

-- what is so of the fault that another was made into
pub fault_told : {T : Type 0} (r : Result T FoldFault) (P : FoldFault → Type 0) (fault : FoldFault) →
    IsErrAnd r (λ e. e ≡ fault) → P fault → IfErr r P
fault_told (Ok x) P fault is h = absurd is
fault_told (Err e) P fault is h = subst P (sym is) h

-- what needs no log, in the words of the numbers
pub alone : (g : GivenNumbers) (o : Origin) (v to : Setting) (l : Listing) → to ≡ given_over g v →
    (to ≡ v) ⊎ (o.has_log ≡ false) → IsAlone g (saved o v l)
alone g o v to l is (inl same) = inl (sym is ∙ same)
alone g o v to l is (inr none) = inr none

-- and what needs one
pub needed : {F : Type 0} (loads : F → ℕ → Result Saved FileFault → F → Type 0)
    (saves : F → Origin → Setting → Accepted → Result (Unit {0}) SaveFault → F → Type 0) (s t : F) (g : GivenNumbers)
    (x : Saved) (to : Setting) → HasLoaded loads s t x → to ≡ given_over g x.setup →
    (x.origin.has_log ≡ true) × (to ≢ x.setup) → IsFoldTold loads saves s t g fold.NeedsLog
needed loads saves s t g x to h is why = (x, h, why.0, λ same. why.1 (is ∙ same))

module _ {F : Type 0} (loads : F → ℕ → Result Saved FileFault → F → Type 0) (s t : F) where
  -- a load has answered what this setup and list are seen as
  pub has_loaded : (o : Origin) (v : Setting) (list : Listing) (x : Saved) → saved o v list ≡ x → loads s most_bytes (Ok x) t →
      AreAccepted v (accepted_in list) → HasLoaded loads s t (saved o v list)
  has_loaded o v list x is h accepted = (subst (λ (y : Saved). loads s most_bytes (Ok y) t) (sym is) h, accepted)

  pub load_told : (fault : FileFault) → fault ≢ file.Snap snap.Memory → loads s most_bytes (Err fault) t →
      IsReadTold loads s t (fault_of_file fault)
  load_told file.Memory not h = inl h
  load_told (file.Snap snap.Memory) not h = absurd (not refl)
  load_told fault not h = (tt, h)

  -- a fault that comes after a load
  pub later_told : (x : Saved) (fault : CheckFault) → HasLoaded loads s t x → ComesLater fault →
      IsReadTold loads s t fault
  later_told x (check.File fault) h is = absurd is
  later_told x check.Memory h is = inr (x, h)
  later_told x (check.Output fault) h is = tt
  later_told x (check.Log fault) h is = absurd is
  later_told x check.LogDiffers h is = absurd is
  later_told x (check.Join fault) h is = absurd is

  pub all_later_told : {T : Type 0} (r : Result T CheckFault) (x : Saved) → HasLoaded loads s t x →
      IfErr r ComesLater → IfErr r (λ fault. IsReadTold loads s t fault)
  all_later_told (Ok y) x h is = tt
  all_later_told (Err fault) x h is = later_told x fault h is

  module _ (saves : F → Origin → Setting → Accepted → Result (Unit {0}) SaveFault → F → Type 0) (g : GivenNumbers) where
    pub fold_load_told : (fault : FileFault) → fault ≢ file.Snap snap.Memory → loads s most_bytes (Err fault) t →
        IsFoldTold loads saves s t g (fold_fault_of_file fault)
    fold_load_told file.Memory not h = inl h
    fold_load_told (file.Snap snap.Memory) not h = absurd (not refl)
    fold_load_told fault not h = (tt, h)

    pub fold_save_told : (x : Saved) (fault : SaveFault) → HasFolded loads saves s t g x (Err fault) →
        IsFoldTold loads saves s t g (fold_fault_of_save fault)
    fold_save_told x save.Memory h = inr (inr (x, h))
    fold_save_told x fault h = (tt, (x, h))

    -- what was loaded isn't what the numbers allow, or there is no memory for it
    pub fold_growth_told : (x : Saved) (fault : GrowthFault) → HasLoaded loads s t x →
        RefusesGrowth (given_over g x.setup) x.setup (accepted_in x.list) fault →
        IsFoldTold loads saves s t g (fold_fault_of_growth fault)
    fold_growth_told x (TooSmall m) h why = (x, h, why)
    fold_growth_told x Memory h why = inr (inl (x, h))
