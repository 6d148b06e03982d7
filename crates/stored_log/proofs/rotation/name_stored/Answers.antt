use Rattle.std.proofs.Common.{◌≡◌, ap, rules, subst, sym, ◌∙◌, Some, IfSome, false}
use Rattle.std.specs.Prelude.{Option}
use Rattle.open_log.specs.declared.log.OpenLog.{OpenLog}
use Rattle.stored_log.specs.Kept.{IsKept, Stored, is_failed, number_of}
use Rattle.stored_log.proofs.LogLemmas.{settled_now}
use Rattle.stored_log.proofs.rotation.name_stored.Goals as goal

pub finish_rotation-requires : goal.finish_rotation-requires
finish_rotation-requires g c κs within =
    let disk = g.F.Disk.LogDisk in
    let log = c.in-Some.log in
    let in_use : c.args.new.in_use ≡ Some log = sym (ap (λ (s : Stored _). s.in_use) c.new.view_is) ∙ c.in-Some.is in
    let works : disk.in_doubt log.file.disk ≡ false =
    sym (ap (λ (o : Option (OpenLog _)). is_failed disk.in_doubt o) in_use) ∙ c.requires.works in
    let kept : IsKept disk.telling disk.tells disk.written disk.may_leave disk.in_doubt disk.failure_count
    c.new.inside.told.entries log =
    subst (λ (o : Option (OpenLog _)). IfSome o (IsKept disk.telling disk.tells disk.written disk.may_leave
    disk.in_doubt disk.failure_count c.new.inside.told.entries)) c.in-Some.is c.new.invariant.0 in (
      search rules,
      (
        search rules,
        (
          c.requires.failures,
          (
            λ t. c.requires.made t ∙ ap (λ (o : Option (OpenLog _)). number_of o) in_use,
            λ t. (settled_now disk.written disk.may_leave log.file.disk log.writer disk.telling disk.tells
                c.new.inside.told.entries (kept.logged works)
                ((g.met.F.LogFolder.files_tell c.args.folder.now).0 t)).1,
          ),
        ),
      ),
    )
