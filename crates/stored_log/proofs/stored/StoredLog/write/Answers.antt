use Rattle.std.proofs.Common.{List, refl, rules, subst, sym}
use Rattle.batch_store.specs.declared.verdict.Entry.{Entry}
use Rattle.batch_store.specs.Batches.{values}
use Rattle.stored_log.specs.Kept.{IsKept, IsLogged}
use Rattle.stored_log.specs.Sizes.{pages_taken}
use Rattle.stored_log.proofs.LogLemmas.{kept_now, logged_next, room_now, settled_now, works_now}
use Rattle.stored_log.proofs.stored.StoredLog.write.Goals as goal

pub write_block-requires : goal.write_block-requires
write_block-requires g c κs within =
    let disk = g.D.LogDisk in
    let log = c.in-Some.log in
    let es = c.self.inside.told.entries in
    let works = works_now es c.self.inside.in_use c.self.inside.is_named c.args.self.now log c.self.view_is c.in-Some.is
    disk.in_doubt c.requires.working in
    let kept = kept_now (IsKept disk.telling disk.tells disk.written disk.may_leave disk.in_doubt disk.failure_count es)
    c.self.inside.in_use log c.in-Some.is c.self.invariant.0 in
    let room = room_now es c.self.inside.in_use c.self.inside.is_named c.args.self.now log c.self.view_is c.in-Some.is
    (pages_taken (values c.args.batches.now)) c.requires.room in (
      search rules,
      (
        λ t. settled_now disk.written disk.may_leave log.file.disk log.writer disk.telling disk.tells es
            (kept.logged works) t,
        (
          refl,
          (
            c.requires.some,
            (room, (c.self.invariant.1, (works, (kept.failures works, (kept.pages, kept.places))))),
          ),
        ),
      ),
    )

pub invariant_of-self-2 : goal.invariant_of-self-2
invariant_of-self-2 g c =
    let disk = g.D.LogDisk in
    let log = c.in-Some.log in
    let es = c.self.inside.told.entries in
    let works = works_now es c.self.inside.in_use c.self.inside.is_named c.args.self.now log c.self.view_is c.in-Some.is
    disk.in_doubt c.requires.working in
    let kept = kept_now (IsKept disk.telling disk.tells disk.written disk.may_leave disk.in_doubt disk.failure_count es)
    c.self.inside.in_use log c.in-Some.is c.self.invariant.0 in
    let list = values c.args.batches.now in
    let wrote = c.write_block.new.log in
    let logged = subst (λ (l : List Entry). IsLogged disk.telling disk.tells disk.written disk.may_leave wrote.file.disk
    wrote.writer l) (sym c.then.ensures) (logged_next disk.telling disk.tells disk.written disk.may_leave
    log.file.disk log.writer es list wrote.file.disk wrote.writer (kept.logged works)
    c.in_ok-write_block.ensures.settled) in
    let now = c.in_ok-write_block.ensures in (
      record {
        logged = λ _. logged;
        failures = λ _. now.failures;
        pages = now.pages;
        places = now.places;
      },
      now.reserved,
    )

pub returns-clause-synced : goal.returns-clause-synced
returns-clause-synced g c =
    let disk = g.D.LogDisk in
    let log = c.in-Some.log in
    let es = c.self.inside.told.entries in
    let works = works_now es c.self.inside.in_use c.self.inside.is_named c.args.self.now log c.self.view_is c.in-Some.is
    disk.in_doubt c.requires.working in
    let kept = kept_now (IsKept disk.telling disk.tells disk.written disk.may_leave disk.in_doubt disk.failure_count es)
    c.self.inside.in_use log c.in-Some.is c.self.invariant.0 in
    let list = values c.args.batches.now in
    let wrote = c.write_block.new.log in
    let logged = subst (λ (l : List Entry). IsLogged disk.telling disk.tells disk.written disk.may_leave wrote.file.disk
    wrote.writer l) (sym c.then.ensures) (logged_next disk.telling disk.tells disk.written disk.may_leave
    log.file.disk log.writer es list wrote.file.disk wrote.writer (kept.logged works)
    c.in_ok-write_block.ensures.settled) in
    record { disk = wrote.file.disk; writer = wrote.writer; logged = logged }
