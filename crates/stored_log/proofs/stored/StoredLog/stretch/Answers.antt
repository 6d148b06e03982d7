use Rattle.std.proofs.Common.{rules}
use Rattle.stored_log.specs.Kept.{IsKept}
use Rattle.stored_log.proofs.LogLemmas.{kept_now, logged_still, settled_now, works_now}
use Rattle.stored_log.proofs.stored.StoredLog.stretch.Goals as goal

pub make_ready-requires : goal.make_ready-requires
make_ready-requires g c κs within =
    let disk = g.D.LogDisk in
    let log = c.in-Some.log in
    let es = c.self.inside.told.entries in
    let works = works_now es c.self.inside.in_use c.self.inside.is_named c.args.self.now log c.self.view_is c.in-Some.is
    disk.in_doubt c.requires.working in
    let kept = kept_now (IsKept disk.telling disk.tells disk.written disk.may_leave disk.in_doubt disk.failure_count es)
    c.self.inside.in_use log c.in-Some.is c.self.invariant.0 in (
      search rules,
      (
        λ t. settled_now disk.written disk.may_leave log.file.disk log.writer disk.telling disk.tells es
            (kept.logged works) t,
        (works, (kept.failures works, (kept.pages, kept.places))),
      ),
    )

pub invariant_of-self : goal.invariant_of-self
invariant_of-self g c =
    let disk = g.D.LogDisk in
    let log = c.in-Some.log in
    let es = c.self.inside.told.entries in
    let works = works_now es c.self.inside.in_use c.self.inside.is_named c.args.self.now log c.self.view_is c.in-Some.is
    disk.in_doubt c.requires.working in
    let kept = kept_now (IsKept disk.telling disk.tells disk.written disk.may_leave disk.in_doubt disk.failure_count es)
    c.self.inside.in_use log c.in-Some.is c.self.invariant.0 in
    let ready = c.make_ready.ensures in (
      record {
        logged = λ _. logged_still disk.telling disk.tells disk.written disk.may_leave log.file.disk log.writer es
            c.make_ready.new.log.file.disk c.make_ready.new.log.writer (kept.logged works) ready.settled;
        failures = ready.failures;
        pages = ready.pages;
        places = ready.places;
      },
      c.self.invariant.1,
    )
