-- Why a start fails, step by step.
use Rattle.std.proofs.Common.{◌≡◌, ◌≢◌, ◌⊎◌, inl, inr, ℕ, List, refl, sym, subst}
use Rattle.std.specs.Prelude.{Bool, true, Option, None, Result, IfSome, IsSomeAnd, is_some, String}
use Rattle.std.specs.declared.alloc.Global.{Global}
use Rattle.batch_store.specs.declared.verdict.Entry.{Entry}
use Rattle.batch_store.specs.Accepted.{Accepted}
use Rattle.batch_store.specs.Books.{Listing, accepted_in, listed_in}
use Rattle.batch_store.specs.Setups.{Setting}
use Rattle.log_start.specs.declared.fault.StartFault.{StartFault}
use Rattle.log_start.specs.declared.owner.LogOwner.{LogOwner}
use Rattle.snap_file.specs.Snapshots.{Saved, HasBase}
use Rattle.snap_file.specs.declared.origin.Identity.{Identity}
use Rattle.snap_file.specs.declared.origin.Origin.{Origin}
use Rattle.snap_file.specs.declared.fault.FileFault.{FileFault}
use Rattle.socket_server.specs.Faults.{IsLogFault, IsMet, IsMetServing, TellsNoFile, TellsNoLog}
use Rattle.batch_store.specs.Growth.{IsGrowthMisfit}
use Rattle.socket_server.specs.Growth.{IsHeadMisfit, IsPlan}
use Rattle.socket_server.specs.Starts.{IsFiles, IsFound, IsHeadTold, IsJoined, IsLoadTold, IsLoaded, IsLogTold}
use Rattle.socket_server.specs.Starts.{IsRefused, IsStartTold, IsStepFault, StartAnswer, StartsUnder, asks_log}
use Rattle.socket_server.specs.Starts.{needs_file, origin_in, owner_of}
use Rattle.socket_server.specs.declared.fault.ServerFault.{ServerFault}
use Rattle.socket_server.specs.declared.fault.ServerFault.TheVariants.{Log, LogDiffers, Memory, NeedsLog, NoRandom}
use Rattle.socket_server.specs.declared.fault.ServerFault.TheVariants.{NeedsNumber, SnapshotDiffers}
use Rattle.batch_store.specs.declared.misfit.Number.{Number}
use Rattle.batch_store.specs.declared.given_numbers.GivenNumbers.{GivenNumbers}
use Rattle.socket_server.specs.declared.log_host.LogOrigin.{LogOrigin}
use Rattle.batch_store.specs.declared.misfit.Misfit.{Misfit}
use Rattle.socket_server.proofs.FaultLaws.{needs_met, no_file_told, no_log_told, serving_log_told, serving_met}
use Rattle.socket_server.proofs.FaultLaws.{serving_told}
use Rattle.socket_server.proofs.StartLaws.{differs_told, dims_misfit, growth_told, log_differs_told, needs_told}
use Rattle.socket_server.proofs.StartLaws.{number_told, start_told, step_told}

step_met : (step : StartFault) → IsStepFault step → IsLogFault step
step_met step (inl is) = subst (λ (x : StartFault). IsLogFault x) (sym is) tt
step_met step (inr (inl is)) = subst (λ (x : StartFault). IsLogFault x) (sym is) tt
step_met step (inr (inr (inl is))) = subst (λ (x : StartFault). IsLogFault x) (sym is) tt
step_met step (inr (inr (inr is))) = subst (λ (x : StartFault). IsLogFault x) (sym is) tt

module _ {H Y Z : Type 0} (loads : H → List ℕ → ℕ → Result Saved FileFault → Type 0)
    (locks : H → List ℕ → Result Bool FileFault → Type 0)
    (heads : H → List ℕ → Result (Option Setting) StartFault → Type 0)
    (starts : H → List ℕ → Setting → LogOwner → Listing → StartAnswer → Type 0) (h : H)
    (path : Option (String Y)) (log : Option (String Z)) (must_load : Bool) (g : GivenNumbers)
  where
    -- by what a server may meet that has its engine
    pub serving_refused : (f : ServerFault) → IsMetServing f →
        IsRefused loads locks heads starts h path log must_load g f
    serving_refused f m = record {
      met = serving_met must_load f m;
      told = serving_told loads locks h path g f m;
      log_told = serving_log_told loads locks heads starts h path log must_load g f m;
    }

    pub memory_refused : (f : ServerFault) → f ≡ Memory → IsRefused loads locks heads starts h path log must_load g f
    memory_refused f is =
        subst (λ (x : ServerFault). IsRefused loads locks heads starts h path log must_load g x) (sym is)
        (serving_refused Memory tt)

    -- by the load of the snapshot
    pub found_refused : (f : ServerFault) → IsMet (needs_file must_load log) f → IsLoadTold loads locks h path g f →
        TellsNoLog f → IsRefused loads locks heads starts h path log must_load g f
    found_refused f m told none = record {
      met = needs_met must_load log f m;
      told = told;
      log_told = inl (no_log_told locks h log f none);
    }

    -- since a log goes with the snapshot
    pub needs_refused : (must : Bool) (found : Option Saved) (f : ServerFault) → IsFound loads h path must found →
        (f ≡ Memory) ⊎ ((name : String Global) × (f ≡ NeedsLog name) × (asks_log (origin_in found) ≡ true)) →
        IsRefused loads locks heads starts h path log must_load g f
    needs_refused must found f there (inl is) = memory_refused f is
    needs_refused must found f there (inr why) = record {
      met = subst (λ (x : ServerFault). IsMet must_load x) (sym why.1) tt;
      told = needs_told loads locks h path must g found f there (inr why);
      log_told = subst (λ (x : ServerFault). IsLogTold loads locks heads starts h path log must_load g x) (sym why.1)
          (inl tt);
    }

    -- by the look at the log's head
    pub head_refused : (must : Bool) (found : Option Saved) (f : ServerFault) → IsFound loads h path must found →
        ((b : Bool) → IsMet b f) → IsHeadTold heads h log must_load g f →
        TellsNoFile f ⊎ ((number : Number) × (f ≡ NeedsNumber number) × (found ≡ None)) →
        IsRefused loads locks heads starts h path log must_load g f
    head_refused must found f there m told (inl none) = record {
      met = m must_load;
      told = no_file_told loads locks h path g f none;
      log_told = inr (inl told);
    }
    head_refused must found f there m told (inr why) = record {
      met = m must_load;
      told = number_told loads locks h path must g found f there why;
      log_told = inr (inl told);
    }

    plan_told : (must : Bool) (found : Option Saved) (files : Setting) (m : Misfit) (f : ServerFault) →
        IsFound loads h path must found → IsFiles heads h log g found files → IsHeadMisfit g files m →
        ((is_some found ≡ true) × (f ≡ SnapshotDiffers m)) ⊎ ((found ≡ None) × (f ≡ LogDiffers m)) →
        IsLoadTold loads locks h path g f
    plan_told must found files m f there said misfit (inl is) =
        differs_told loads locks h path must g found m f there is.0 is.1
        (dims_misfit heads h log g found files m said misfit)
    plan_told must found files m f there said misfit (inr is) =
        subst (λ (x : ServerFault). IsLoadTold loads locks h path g x) (sym is.1) tt

    -- since rows or columns are too few for the files
    pub plan_refused : (must : Bool) (found : Option Saved) (files : Setting) (f : ServerFault) →
        IsFound loads h path must found → IsFiles heads h log g found files → ((b : Bool) → IsMet b f) →
        ((m : Misfit) × IsHeadMisfit g files m × (((is_some found ≡ true) × (f ≡ SnapshotDiffers m))
        ⊎ ((found ≡ None) × (f ≡ LogDiffers m)))) → IsRefused loads locks heads starts h path log must_load g f
    plan_refused must found files f there said m why = record {
      met = m must_load;
      told = plan_told must found files why.0 f there said why.1 why.2;
      log_told = log_differs_told loads locks heads starts h path log must_load g found files why.0 f said why.1 why.2;
    }

    -- since the snapshot's batches are too many, or too large
    pub growth_refused : (must : Bool) (found : Option Saved) (p q x : Setting) (f : ServerFault) →
        IsFound loads h path must found → IfSome found (λ s. s.setup ≡ x) → IsPlan g x p q →
        (f ≡ Memory) ⊎ ((m : Misfit) × (f ≡ SnapshotDiffers m)
        × IsSomeAnd found (λ s. IsGrowthMisfit s.setup p (accepted_in s.list) m)) →
        IsRefused loads locks heads starts h path log must_load g f
    growth_refused must found p q x f there same plan (inl is) = memory_refused f is
    growth_refused must found p q x f there same plan (inr why) = record {
      met = subst (λ (y : ServerFault). IsMet must_load y) (sym why.1) tt;
      told = growth_told loads locks h path must g found p q x f there same plan (inr why);
      log_told = subst (λ (y : ServerFault). IsLogTold loads locks heads starts h path log must_load g y) (sym why.1)
          (inl tt);
    }

    -- since no identity is drawn
    pub draw_refused : (f : ServerFault) → f ≡ NoRandom → IsRefused loads locks heads starts h path log must_load g f
    draw_refused f is =
        subst (λ (x : ServerFault). IsRefused loads locks heads starts h path log must_load g x) (sym is)
        (record { met = tt; told = tt; log_told = inl tt })

    -- by the start of the log
    pub join_refused : (x p q : Setting) (known : Listing) (o : Option Origin) (drawn : Identity) (f : ServerFault) →
        HasBase p known → IsLoaded loads h path (needs_file must_load log) x o (accepted_in known) →
        IsPlan g x p q → ((b : Bool) → IsMet b f) → IsStartTold starts h log p (owner_of o drawn must_load) known f →
        TellsNoFile f → IsRefused loads locks heads starts h path log must_load g f
    join_refused x p q known o drawn f based loaded plan m told none = record {
      met = m must_load;
      told = no_file_told loads locks h path g f none;
      log_told =
          start_told loads locks heads starts h path log must_load g x p q known o drawn f based loaded plan told;
    }

    -- by a step of a rotation
    pub renew_refused : (x p q : Setting) (known list : Listing) (o : Option Origin) (drawn : Identity)
        (u : Option LogOrigin) (f : ServerFault) → HasBase p known →
        IsLoaded loads h path (needs_file must_load log) x o (accepted_in known) → IsPlan g x p q →
        IsJoined starts h log p (owner_of o drawn must_load) known list u → log ≢ None →
        (f ≡ Memory) ⊎ ((step : StartFault) × (f ≡ Log step) × IsStepFault step) →
        IsRefused loads locks heads starts h path log must_load g f
    renew_refused x p q known list o drawn u f based loaded plan joined there (inl is) = memory_refused f is
    renew_refused x p q known list o drawn u f based loaded plan joined there (inr why) = record {
      met = subst (λ (y : ServerFault). IsMet must_load y) (sym why.1) (step_met why.0 why.2);
      told = subst (λ (y : ServerFault). IsLoadTold loads locks h path g y) (sym why.1) tt;
      log_told =
          start_told loads locks heads starts h path log must_load g x p q known o drawn f based loaded plan
          (step_told starts h log p (owner_of o drawn must_load) known list u f why.0 joined there why.1 why.2);
    }

    -- by one under the server's setup
    pub grown_refused : (saves : H → List ℕ → Origin → Setting → Accepted → Type 0)
        (begins : H → List ℕ → Setting → Identity → List Entry → Type 0) (names : H → List ℕ → List Entry → Type 0)
        (x p q : Setting) (i : Identity) (a : Accepted) (f : ServerFault) → IsPlan g x p q →
        StartsUnder loads heads starts saves begins names h path log must_load g x p i a →
        IsMetServing f ⊎ ((log ≢ None) × (step : StartFault) × (f ≡ Log step) × IsStepFault step) →
        IsRefused loads locks heads starts h path log must_load g f
    grown_refused saves begins names x p q i a f plan under (inl m) = serving_refused f m
    grown_refused saves begins names x p q i a f plan under (inr why) =
        renew_refused x p q (listed_in p under.0) (listed_in p a) under.1 under.2 under.3 f
        (record { rows = refl; cols = refl }) under.5 plan under.8 why.0 (inr (why.1, why.2, why.3))
