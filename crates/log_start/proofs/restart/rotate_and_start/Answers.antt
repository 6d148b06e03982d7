use Rattle.std.proofs.Common.{◌≡◌, ℕ, List, subst, rules}
use Rattle.std.specs.Prelude.{Option, Some}
use Rattle.log_file.specs.Logs.{MayHoldNext}
use Rattle.log_start.proofs.Restarts.{settled_left}
use Rattle.log_start.proofs.restart.rotate_and_start.Goals as goal

same_some : {T : Type 0} (o : Option T) (x y : T) → o ≡ Some x → o ≡ Some y → x ≡ y
same_some o x y is other = cc

pub start_after-requires : goal.start_after-requires
start_after-requires g c κs within = (
  search rules,
  (
    search rules,
    (
      search rules,
      (
        search rules,
        (
          λ telling.
              let d = g.F.Disk.LogDisk in
              let new = c.in-Ok.new in
              let tells = (g.met.F.LogFolder.files_tell c.args.folder).1 telling in
              subst
              (λ log. d.tells log.file.disk × (since : ℕ) × g.P.PowerLoss.comes_since c.watch.new.self since
              × ((left : List ℕ) → d.left_since log.file.disk since left → MayHoldNext g.kept.0 g.kept.1 left))
              (same_some c.finish_rotation.new.in_use new c.in-Some.log c.in_default.ensures.in_use c.in-Some.is) (
                c.in-Ok.ensures.told tells,
                d.moment new.file.disk,
                c.watch.ensures,
                settled_left d new.file.disk new.writer g.kept.0 _ g.kept.1 c.requires.1.1.1.0
                    (g.met.F.Disk.LogDisk.only_now new.file.disk) (c.in-Ok.ensures.settled tells),
              ),
          search rules,
        ),
      ),
    ),
  ),
)
