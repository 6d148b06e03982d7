use Rattle.std.proofs.Common.{◌≡◌, ◌⊎◌, ap, subst, sym, ◌∙◌}
use Rattle.batch_store.specs.Books.{accepted_in}
use Rattle.batch_store.specs.Setups.{Setting}
use Rattle.batch_store.proofs.GrowthLaws.{grown_own}
use Rattle.snap_file.specs.Snapshots.{Saved}
use Rattle.batch_store.specs.Growth.{IsGrowthMisfit}
use Rattle.socket_server.specs.declared.fault.ServerFault.TheVariants.{Memory, SnapshotDiffers}
use Rattle.batch_store.specs.declared.misfit.Misfit.{Misfit}
use Rattle.socket_server.proofs.load.judged.Goals as goal

-- the dimensions are the file's own, so nothing is widened
pub returns-in-Ok-clause-list : goal.returns-in-Ok-clause-list
returns-in-Ok-clause-list c =
    let s = c.snapshot.inside in
    let first = c.args.plan.now.first in
    let own = c.requires.first in
    let same = sym c.requires.files ∙ sym (ap (λ (x : Saved). x.setup) c.snapshot.view_is) in
    c.in-Ok.ensures.list
    ∙ sym (grown_own s.setup first s.list
    (ap (λ (v : Setting). v.rows) own ∙ ap (λ (v : Setting). v.rows) same)
    (ap (λ (v : Setting). v.cols) own ∙ ap (λ (v : Setting). v.cols) same)
    c.snapshot.invariant.based.rows c.snapshot.invariant.based.cols c.snapshot.invariant.kept.accepted.dims)
    ∙ ap (λ (x : Saved). x.list) c.snapshot.view_is

pub returns-in-Err-clause-err : goal.returns-in-Err-clause-err
returns-in-Err-clause-err c =
    let s = c.snapshot.inside in
    let fault = c.growth_fault.result in
    subst (λ (x : Saved). (fault ≡ Memory) ⊎ ((m : Misfit) × (fault ≡ SnapshotDiffers m)
    × IsGrowthMisfit x.setup c.args.plan.now.first (accepted_in x.list) m)) c.snapshot.view_is
    (c.growth_fault.ensures c.args.plan.now.first s.setup (accepted_in s.list) c.in-Err.ensures.err)
