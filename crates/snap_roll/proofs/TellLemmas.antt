-- What is told of a roll, and what a coarser file begins as.
use Rattle.std.proofs.Common.{◌≡◌, ℕ, List, [], Option, Some, None, Result, Ok, Err}
use Rattle.std.proofs.Common.{IfSome}
use Rattle.std.proofs.Common.{inl, inr, refl, sym, ◌∙◌, ap, subst, arith}
use Rattle.hyper_matrix.proofs.CountLaws.{ewise_add-empty}
use Rattle.std.specs.FinMap.{empty}
use Rattle.hyper_matrix.specs.Counts.{Counts}
use Rattle.batch_store.specs.Accepted.{Accepted, accepted, unfolded}
use Rattle.batch_store.specs.Books.{AreAccepted, Listing, accepted_in, listed_in}
use Rattle.batch_store.specs.Setups.{IsSetting, Setting}
use Rattle.batch_store.proofs.BookLaws.{accepted_none}
use Rattle.snap_file.specs.Snapshots.{HasBase, Saved}
use Rattle.snap_file.specs.declared.fault.FileFault.{FileFault}
use Rattle.snap_file.specs.declared.fault.SaveFault.{SaveFault}
use Rattle.snap_file.specs.declared.origin.Origin.{Origin}
use Rattle.snap_report.specs.Kept.{HasLoaded, folded_in, most_bytes}
use Rattle.snap_report.specs.declared.fault.CheckFault.{CheckFault}
use Rattle.snap_report.specs.Logged.{HasFound}
use Rattle.snap_roll.specs.Held.{IsKeptFrom, IsUnkept, Reads, TellsKeep, added_in, roll_of}
use Rattle.snap_roll.specs.Rolls.{Begins, HasRolled, HaveRolled, IsCoarser, IsKept, IsUnsaved, Made, TellsRoll}
use Rattle.snap_roll.specs.Rolls.{Window, begun_empty, begun_roll, first_setup}
use Rattle.snap_roll.specs.declared.roll.Read.{Read}
use Rattle.snap_roll.specs.declared.roll_fault.RollFault.{RollFault}
use Rattle.snap_roll.specs.declared.roll_fault.RollFault.TheVariants as fault

-- ---- a coarser file without batches

pub none_accepted : (s : Setting) (l : Listing) → IsSetting s → l ≡ listed_in s (unfolded []) →
    AreAccepted s (accepted_in l)
none_accepted s l sound is = subst (λ (v : Listing). AreAccepted s (accepted_in v)) (sym is) (accepted_none s sound)

pub none_based : (s : Setting) (l : Listing) → l ≡ listed_in s (unfolded []) → HasBase s l
none_based s l is = subst (λ (v : Listing). HasBase s v) (sym is) (record { rows = refl; cols = refl })

pub none_folded : (s : Setting) (l : Listing) → l ≡ listed_in s (unfolded []) →
    accepted_in l ≡ folded_in (listed_in s (unfolded []))
none_folded s l is = ap accepted_in is ∙ ap (λ (m : Counts). accepted m [] []) (sym (ewise_add-empty empty))

-- ---- what a coarser file begins as

pub begins_found : (first : Setting) (found : Option Saved) (x : Saved) → found ≡ Some x → IfSome found IsCoarser →
    Begins first found x
begins_found first found x is h = subst (λ (o : Option Saved). Begins first o x) (sym is)
    (refl, subst (λ (o : Option Saved). IfSome o IsCoarser) is h)

pub begins_none : (first : Setting) (found : Option Saved) → found ≡ None → Begins first found (begun_empty first)
begins_none first found is = subst (λ (o : Option Saved). Begins first o (begun_empty first)) (sym is) refl

pub loaded_seen : {F : Type 0} (loads : F → ℕ → Result Saved FileFault → F → Type 0) (s t : F) (y x : Saved) → y ≡ x →
    loads s most_bytes (Ok x) t → AreAccepted y.setup (accepted_in y.list) → HasLoaded loads s t x
loaded_seen loads s t y x is h accepted =
    (h, subst (λ (z : Saved). AreAccepted z.setup (accepted_in z.list)) is accepted)

-- ---- what is told

module _ {F S : Type 0} (loads : F → ℕ → Result Saved FileFault → F → Type 0)
    (saves : F → Origin → Setting → Accepted → Result (Unit {0}) SaveFault → F → Type 0)
    (reads : S → ℕ → Result Saved CheckFault → S → Type 0) (c : ℕ) (gs : List (Option ℕ)) where
  module _ (s m : F) (u v : S) (found : Option Saved) (x : Saved) (ws : List Window) (read : Read)
      (is_found : HasFound loads s m found) (begins : Begins (first_setup ws x.setup) found x) (is : Reads x read)
      (rolled : HaveRolled reads c x.setup gs ws u (begun_roll x) v (roll_of read.rolling)) where
    abbrev pub made : Made F
    made = record { found = found; begun = x; loaded = m; windows = ws; last = roll_of read.rolling }

    pub has_rolled : HasRolled loads reads c gs s u v made
    has_rolled = record { loaded = is_found; begun = begins; rolled = rolled }

    saves_so : (answer : Result (Unit {0}) SaveFault) (t : F) →
        saves m read.origin read.rolling.setup (accepted_in read.rolling.list) answer t →
        saves m x.origin x.setup (accepted_in read.rolling.list) answer t
    saves_so answer t h =
        subst (λ (o : Origin). saves m o x.setup (accepted_in read.rolling.list) answer t) is.origin
        (subst (λ (y : Setting). saves m read.origin y (accepted_in read.rolling.list) answer t) is.setup h)

    -- it was saved, where a window was new
    pub is_kept : (t : F) → IsKeptFrom saves m t read → IsKept saves t made (added_in read)
    is_kept t (inl none) = record {
      added_is = omega (arith, is.had, is.grows);
      saved = inl (none.0, none.1);
    }
    is_kept t (inr some) = record {
      added_is = omega (arith, is.had, is.grows);
      saved = inr (some.0, saves_so (Ok tt) t some.1);
    }

    unsaved : (t : F) (why : SaveFault) → IsUnkept saves m t read why → IsUnsaved loads saves reads c gs s t u v why
    unsaved t why h = (made, has_rolled, omega (arith, is.had, h.0), saves_so (Err why) t h.1)

    -- or it couldn't be saved
    pub told_keep : (t : F) (told : RollFault) → TellsKeep saves m t read told →
        TellsRoll loads saves reads c gs s t u v told
    told_keep t (fault.Save why) h = (h.0, unsaved t why h.1)
    told_keep t fault.Memory h = inr (unsaved t SaveFault.Memory h)
    told_keep t (fault.To why) h = absurd h
    told_keep t fault.ToHasWindow h = absurd h
    told_keep t fault.ToNotClosed h = absurd h
    told_keep t (fault.File at why) h = absurd h
    told_keep t (fault.Refused at why) h = absurd h
    told_keep t (fault.Output why) h = absurd h
