use Rattle.std.proofs.Common.{◌∙◌, sym, refl, arith, rules}
use Rattle.log_file.proofs.Filling.{fill_synced, room_behind, still_settled, on_ok, room_is_long, long_synced, room_more}
use Rattle.log_file.proofs.writer.LogWriter.make_room.Goals as goal

pub fill_pages-requires : goal.fill_pages-requires
fill_pages-requires g c κs within = (
  search rules,
  (
    λ premise. (
      (c.requires.1.0 premise).0,
      room_behind g.D.LogDisk.written g.D.LogDisk.may_leave g.D.LogDisk.moment g.D.LogDisk.left_since
          c.args.disk.now g.log c.args.self.now (c.requires.1.0 premise).1 c.args.self.now.room,
    ),
    search rules,
  ),
)

pub returns-then-is_err-clause-settled : goal.returns-then-is_err-clause-settled
returns-then-is_err-clause-settled g c = λ premise. let t = (c.requires.1.0 premise).0 in still_settled g.D.LogDisk.written g.D.LogDisk.may_leave
    g.D.LogDisk.moment g.D.LogDisk.left_since c.args.disk.now g.log c.args.self.now (c.requires.1.0 premise).1
    c.fill_pages.new.disk _ refl refl refl (c.fill_pages.ensures.stays premise)

pub returns-then-is_err-clause-any_moment : goal.returns-then-is_err-clause-any_moment
returns-then-is_err-clause-any_moment g c = λ premise. let run = c.fill_pages.ensures.stays premise in run.moments

pub returns-then-is_err-2-clause-settled : goal.returns-then-is_err-2-clause-settled
returns-then-is_err-2-clause-settled g c = λ premise. let t = (c.requires.1.0 premise).0 in still_settled g.D.LogDisk.written g.D.LogDisk.may_leave
    g.D.LogDisk.moment g.D.LogDisk.left_since c.args.disk.now g.log c.args.self.now (c.requires.1.0 premise).1 c.sync.new.self
    _ refl refl refl (fill_synced g.D.LogDisk.written g.D.LogDisk.may_leave g.D.LogDisk.moment g.D.LogDisk.left_since
    c.args.disk.now g.log c.fill_pages.new.disk c.sync.new.self (c.fill_pages.ensures.stays premise)
    (c.sync.ensures.same (c.fill_pages.ensures.tells t)) (c.sync.ensures.crash (c.fill_pages.ensures.tells t))
    (c.sync.ensures.time (c.fill_pages.ensures.tells t)))

pub returns-then-is_err-2-clause-any_moment : goal.returns-then-is_err-2-clause-any_moment
returns-then-is_err-2-clause-any_moment g c = λ premise.
    let t = (c.requires.1.0 premise).0 in
    let run = fill_synced g.D.LogDisk.written g.D.LogDisk.may_leave g.D.LogDisk.moment g.D.LogDisk.left_since
    c.args.disk.now g.log c.fill_pages.new.disk c.sync.new.self (c.fill_pages.ensures.stays premise)
    (c.sync.ensures.same (c.fill_pages.ensures.tells t)) (c.sync.ensures.crash (c.fill_pages.ensures.tells t))
    (c.sync.ensures.time (c.fill_pages.ensures.tells t)) in
    run.moments

pub returns-clause-settled : goal.returns-clause-settled
returns-clause-settled g c = λ premise. let t = (c.requires.1.0 premise).0 in still_settled g.D.LogDisk.written g.D.LogDisk.may_leave g.D.LogDisk.moment
    g.D.LogDisk.left_since c.args.disk.now g.log c.args.self.now (c.requires.1.0 premise).1 c.sync.new.self _ refl refl refl
    (fill_synced g.D.LogDisk.written g.D.LogDisk.may_leave g.D.LogDisk.moment g.D.LogDisk.left_since c.args.disk.now
    g.log c.fill_pages.new.disk c.sync.new.self (c.fill_pages.ensures.stays premise)
    (c.sync.ensures.same (c.fill_pages.ensures.tells t)) (c.sync.ensures.crash (c.fill_pages.ensures.tells t))
    (c.sync.ensures.time (c.fill_pages.ensures.tells t)))

pub returns-clause-any_moment : goal.returns-clause-any_moment
returns-clause-any_moment g c = λ premise.
    let t = (c.requires.1.0 premise).0 in
    let run = fill_synced g.D.LogDisk.written g.D.LogDisk.may_leave g.D.LogDisk.moment g.D.LogDisk.left_since
    c.args.disk.now g.log c.fill_pages.new.disk c.sync.new.self (c.fill_pages.ensures.stays premise)
    (c.sync.ensures.same (c.fill_pages.ensures.tells t)) (c.sync.ensures.crash (c.fill_pages.ensures.tells t))
    (c.sync.ensures.time (c.fill_pages.ensures.tells t)) in
    run.moments

pub returns-clause-written : goal.returns-clause-written
returns-clause-written g c = λ t some.
    let told = c.fill_pages.ensures.tells t in
    let filled = on_ok c.fill_pages.result _ (sym c.is_err.ensures.value ∙ c.if-is_err.false)
    (c.fill_pages.ensures.long t) some in
    room_is_long g.D.LogDisk.written g.D.LogDisk.may_leave c.fill_pages.new.disk c.sync.new.self _
    (omega (arith, filled)) (c.sync.ensures.same told)
    (on_ok c.sync.result _ (sym c.is_err-2.ensures.value ∙ c.if-is_err-2.false) (c.sync.ensures.long told))

pub returns-then-is_err-clause-room_stays : goal.returns-then-is_err-clause-room_stays
returns-then-is_err-clause-room_stays g c = λ premise long.
    c.fill_pages.ensures.no_shorter (c.requires.1.0 premise).0 _ long

pub returns-then-is_err-2-clause-room_stays : goal.returns-then-is_err-2-clause-room_stays
returns-then-is_err-2-clause-room_stays g c = λ premise long.
    let t = (c.requires.1.0 premise).0 in
    let told = c.fill_pages.ensures.tells t in
    long_synced g.D.LogDisk.written g.D.LogDisk.may_leave c.fill_pages.new.disk c.sync.new.self _
    (c.fill_pages.ensures.no_shorter t _ long) (c.sync.ensures.same told) (c.sync.ensures.crash told)

pub returns-clause-room_stays : goal.returns-clause-room_stays
returns-clause-room_stays g c = λ premise long.
    let t = (c.requires.1.0 premise).0 in
    let told = c.fill_pages.ensures.tells t in
    let still = long_synced g.D.LogDisk.written g.D.LogDisk.may_leave c.fill_pages.new.disk c.sync.new.self _
    (c.fill_pages.ensures.no_shorter t _ long) (c.sync.ensures.same told) (c.sync.ensures.crash told) in
    room_more g.D.LogDisk.written g.D.LogDisk.may_leave c.sync.new.self c.args.self.now.page c.args.self.now.room
    c.args.pages (returns-clause-written g c t) still
