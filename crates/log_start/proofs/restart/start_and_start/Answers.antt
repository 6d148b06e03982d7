use Rattle.std.proofs.Common.{⊎_elim, rules, arith}
use Rattle.log_start.proofs.Restarts.{left_takes}
use Rattle.log_start.proofs.restart.start_and_start.Goals as goal

pub start_after-requires : goal.start_after-requires
start_after-requires g c κs within = (
  search rules,
  (
    search rules,
    (
      search rules,
      (
        λ telling.
            let d = g.F.Disk.LogDisk in
            let tells = (g.met.F.LogFolder.files_tell c.args.folder).1 telling in
            ⊎_elim
            (λ fresh. absurd (omega (arith, fresh, c.mark.ensures.page, c.if-mark-eq1.false)))
            (λ goes. left_takes d goes.0 g.kept.0 g.kept.1 (c.requires.1.1.1.0 tells goes.0 goes.1).1)
            (c.in_ok-started.ensures.file tells),
        (
          λ telling.
              let d = g.F.Disk.LogDisk in
              let tells = (g.met.F.LogFolder.files_tell c.args.folder).1 telling in
              ⊎_elim
              (λ fresh. absurd (omega (arith, fresh, c.mark.ensures.page, c.if-mark-eq1.false)))
              (λ goes. (
                c.in_ok-started.ensures.told tells,
                d.moment goes.0,
                (c.requires.1.1.1.0 tells goes.0 goes.1).2,
                λ left since. goes.2.any_moment.each left since,
              ))
              (c.in_ok-started.ensures.file tells),
          search rules,
        ),
      ),
    ),
  ),
)
