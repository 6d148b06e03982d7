use Rattle.std.proofs.Common.{◌*◌, ◌+◌, refl}
use Rattle.std.proofs.lemmas.Result.{err_from_is_err_and}
use Rattle.log_file.specs.Logs.{with_next}
use Rattle.log_file.proofs.LogLemmas.{log_is_read}
use Rattle.log_file.proofs.Appending.{write_run, part_written, all_may_hold, sync_run, moments_of}
use Rattle.log_file.proofs.Appending.{unsettled_of, next_is_log, synced_left, settled_next, room_stays}
use Rattle.log_file.proofs.writer.LogWriter.append.Goals as goal

pub returns-in_err-write_at-clause-any_moment : goal.returns-in_err-write_at-clause-any_moment
returns-in_err-write_at-clause-any_moment g c = λ premise.
    let t = (c.requires.1.0 premise).0 in
    let can = (c.requires.1.0 premise).1 in
    let run = write_run g.D.LogDisk.written g.D.LogDisk.may_leave g.D.LogDisk.moment g.D.LogDisk.left_since
    c.args.disk.now c.args.self.now g.known.0 g.known.1 c.args.bytes.now c.args.pages c.args.batches can
    c.write_at.new.self (g.met.D.LogDisk.only_now c.args.disk.now)
    (part_written g.D.LogDisk.written g.D.LogDisk.may_leave g.D.LogDisk.moment g.D.LogDisk.left_since
    c.args.disk.now c.args.self.now g.known.0 g.known.1 c.args.bytes.now c.args.pages c.args.batches can
    c.write_at.new.self (c.in_err-write_at.ensures.part t)) (c.write_at.ensures.crash t)
    (c.write_at.ensures.time t) in
    moments_of g.D.LogDisk.written g.D.LogDisk.may_leave g.D.LogDisk.moment g.D.LogDisk.left_since c.args.disk.now
    c.args.self.now g.known.0 g.known.1 c.args.bytes.now c.args.pages c.args.batches can c.write_at.new.self run

pub returns-in_err-write_at-clause-failed : goal.returns-in_err-write_at-clause-failed
returns-in_err-write_at-clause-failed g c = λ premise.
    let t = (c.requires.1.0 premise).0 in
    let can = (c.requires.1.0 premise).1 in
    let run = write_run g.D.LogDisk.written g.D.LogDisk.may_leave g.D.LogDisk.moment g.D.LogDisk.left_since
    c.args.disk.now c.args.self.now g.known.0 g.known.1 c.args.bytes.now c.args.pages c.args.batches can
    c.write_at.new.self (g.met.D.LogDisk.only_now c.args.disk.now)
    (part_written g.D.LogDisk.written g.D.LogDisk.may_leave g.D.LogDisk.moment g.D.LogDisk.left_since
    c.args.disk.now c.args.self.now g.known.0 g.known.1 c.args.bytes.now c.args.pages c.args.batches can
    c.write_at.new.self (c.in_err-write_at.ensures.part t)) (c.write_at.ensures.crash t)
    (c.write_at.ensures.time t) in
    let p = err_from_is_err_and c.from_residual.result c.from_residual.ensures.1 in
    rw p.1 (unsettled_of g.D.LogDisk.written g.D.LogDisk.may_leave g.D.LogDisk.moment g.D.LogDisk.left_since
    c.args.disk.now c.args.self.now g.known.0 g.known.1 c.args.bytes.now c.args.pages c.args.batches can
    c.write_at.new.self run)

pub returns-in_err-sync-clause-any_moment : goal.returns-in_err-sync-clause-any_moment
returns-in_err-sync-clause-any_moment g c = λ premise.
    let t = (c.requires.1.0 premise).0 in
    let can = (c.requires.1.0 premise).1 in
    let holds = c.in_ok-write_at.ensures.written t in
    let wrote = write_run g.D.LogDisk.written g.D.LogDisk.may_leave g.D.LogDisk.moment g.D.LogDisk.left_since
    c.args.disk.now c.args.self.now g.known.0 g.known.1 c.args.bytes.now c.args.pages c.args.batches can
    c.write_at.new.self (g.met.D.LogDisk.only_now c.args.disk.now)
    (all_may_hold g.D.LogDisk.written g.D.LogDisk.may_leave g.D.LogDisk.moment g.D.LogDisk.left_since
    c.args.disk.now c.args.self.now g.known.0 g.known.1 c.args.bytes.now c.args.pages c.args.batches can
    c.write_at.new.self holds) (c.write_at.ensures.crash t) (c.write_at.ensures.time t) in
    let told = c.write_at.ensures.tells t in
    let run = sync_run g.D.LogDisk.written g.D.LogDisk.may_leave g.D.LogDisk.moment g.D.LogDisk.left_since
    c.args.disk.now c.args.self.now g.known.0 g.known.1 c.args.bytes.now c.args.pages c.args.batches can
    c.write_at.new.self c.sync.new.self wrote (c.sync.ensures.same told) (c.sync.ensures.crash told)
    (c.sync.ensures.time told) in
    moments_of g.D.LogDisk.written g.D.LogDisk.may_leave g.D.LogDisk.moment g.D.LogDisk.left_since c.args.disk.now
    c.args.self.now g.known.0 g.known.1 c.args.bytes.now c.args.pages c.args.batches can c.sync.new.self run

pub returns-in_err-sync-clause-failed : goal.returns-in_err-sync-clause-failed
returns-in_err-sync-clause-failed g c = λ premise.
    let t = (c.requires.1.0 premise).0 in
    let can = (c.requires.1.0 premise).1 in
    let holds = c.in_ok-write_at.ensures.written t in
    let wrote = write_run g.D.LogDisk.written g.D.LogDisk.may_leave g.D.LogDisk.moment g.D.LogDisk.left_since
    c.args.disk.now c.args.self.now g.known.0 g.known.1 c.args.bytes.now c.args.pages c.args.batches can
    c.write_at.new.self (g.met.D.LogDisk.only_now c.args.disk.now)
    (all_may_hold g.D.LogDisk.written g.D.LogDisk.may_leave g.D.LogDisk.moment g.D.LogDisk.left_since
    c.args.disk.now c.args.self.now g.known.0 g.known.1 c.args.bytes.now c.args.pages c.args.batches can
    c.write_at.new.self holds) (c.write_at.ensures.crash t) (c.write_at.ensures.time t) in
    let told = c.write_at.ensures.tells t in
    let run = sync_run g.D.LogDisk.written g.D.LogDisk.may_leave g.D.LogDisk.moment g.D.LogDisk.left_since
    c.args.disk.now c.args.self.now g.known.0 g.known.1 c.args.bytes.now c.args.pages c.args.batches can
    c.write_at.new.self c.sync.new.self wrote (c.sync.ensures.same told) (c.sync.ensures.crash told)
    (c.sync.ensures.time told) in
    let p = err_from_is_err_and c.from_residual-in_err-sync.result c.from_residual-in_err-sync.ensures.1 in
    rw p.1 (unsettled_of g.D.LogDisk.written g.D.LogDisk.may_leave g.D.LogDisk.moment g.D.LogDisk.left_since
    c.args.disk.now c.args.self.now g.known.0 g.known.1 c.args.bytes.now c.args.pages c.args.batches can
    c.sync.new.self run)

pub returns-clause-any_moment : goal.returns-clause-any_moment
returns-clause-any_moment g c = λ premise.
    let t = (c.requires.1.0 premise).0 in
    let can = (c.requires.1.0 premise).1 in
    let holds = c.in_ok-write_at.ensures.written t in
    let wrote = write_run g.D.LogDisk.written g.D.LogDisk.may_leave g.D.LogDisk.moment g.D.LogDisk.left_since
    c.args.disk.now c.args.self.now g.known.0 g.known.1 c.args.bytes.now c.args.pages c.args.batches can
    c.write_at.new.self (g.met.D.LogDisk.only_now c.args.disk.now)
    (all_may_hold g.D.LogDisk.written g.D.LogDisk.may_leave g.D.LogDisk.moment g.D.LogDisk.left_since
    c.args.disk.now c.args.self.now g.known.0 g.known.1 c.args.bytes.now c.args.pages c.args.batches can
    c.write_at.new.self holds) (c.write_at.ensures.crash t) (c.write_at.ensures.time t) in
    let told = c.write_at.ensures.tells t in
    let run = sync_run g.D.LogDisk.written g.D.LogDisk.may_leave g.D.LogDisk.moment g.D.LogDisk.left_since
    c.args.disk.now c.args.self.now g.known.0 g.known.1 c.args.bytes.now c.args.pages c.args.batches can
    c.write_at.new.self c.sync.new.self wrote (c.sync.ensures.same told) (c.sync.ensures.crash told)
    (c.sync.ensures.time told) in
    moments_of g.D.LogDisk.written g.D.LogDisk.may_leave g.D.LogDisk.moment g.D.LogDisk.left_since c.args.disk.now
    c.args.self.now g.known.0 g.known.1 c.args.bytes.now c.args.pages c.args.batches can c.sync.new.self run

pub returns-clause-acknowledged : goal.returns-clause-acknowledged
returns-clause-acknowledged g c = λ premise.
    let t = (c.requires.1.0 premise).0 in
    let can = (c.requires.1.0 premise).1 in
    let holds = c.in_ok-write_at.ensures.written t in
    let wrote = write_run g.D.LogDisk.written g.D.LogDisk.may_leave g.D.LogDisk.moment g.D.LogDisk.left_since
    c.args.disk.now c.args.self.now g.known.0 g.known.1 c.args.bytes.now c.args.pages c.args.batches can
    c.write_at.new.self (g.met.D.LogDisk.only_now c.args.disk.now)
    (all_may_hold g.D.LogDisk.written g.D.LogDisk.may_leave g.D.LogDisk.moment g.D.LogDisk.left_since
    c.args.disk.now c.args.self.now g.known.0 g.known.1 c.args.bytes.now c.args.pages c.args.batches can
    c.write_at.new.self holds) (c.write_at.ensures.crash t) (c.write_at.ensures.time t) in
    let told = c.write_at.ensures.tells t in
    let run = sync_run g.D.LogDisk.written g.D.LogDisk.may_leave g.D.LogDisk.moment g.D.LogDisk.left_since
    c.args.disk.now c.args.self.now g.known.0 g.known.1 c.args.bytes.now c.args.pages c.args.batches can
    c.write_at.new.self c.sync.new.self wrote (c.sync.ensures.same told) (c.sync.ensures.crash told)
    (c.sync.ensures.time told) in
    settled_next g.D.LogDisk.written g.D.LogDisk.may_leave g.D.LogDisk.moment g.D.LogDisk.left_since c.args.disk.now
    c.args.self.now g.known.0 g.known.1 c.args.bytes.now c.args.pages c.args.batches can c.write_at.new.self
    c.sync.new.self _ refl refl refl c.requires.1.1.places run holds (c.sync.ensures.same told)
    (λ left now j lt. c.in_ok-sync.ensures.durable told left now (4096 * c.args.self.now.page + j)
    (c.in_ok-write_at.ensures.fresh t j lt))

pub returns-clause-durable : goal.returns-clause-durable
returns-clause-durable g c = λ premise.
    let t = (c.requires.1.0 premise).0 in
    let can = (c.requires.1.0 premise).1 in
    let holds = c.in_ok-write_at.ensures.written t in
    let wrote = write_run g.D.LogDisk.written g.D.LogDisk.may_leave g.D.LogDisk.moment g.D.LogDisk.left_since
    c.args.disk.now c.args.self.now g.known.0 g.known.1 c.args.bytes.now c.args.pages c.args.batches can
    c.write_at.new.self (g.met.D.LogDisk.only_now c.args.disk.now)
    (all_may_hold g.D.LogDisk.written g.D.LogDisk.may_leave g.D.LogDisk.moment g.D.LogDisk.left_since
    c.args.disk.now c.args.self.now g.known.0 g.known.1 c.args.bytes.now c.args.pages c.args.batches can
    c.write_at.new.self holds) (c.write_at.ensures.crash t) (c.write_at.ensures.time t) in
    let told = c.write_at.ensures.tells t in
    let run = sync_run g.D.LogDisk.written g.D.LogDisk.may_leave g.D.LogDisk.moment g.D.LogDisk.left_since
    c.args.disk.now c.args.self.now g.known.0 g.known.1 c.args.bytes.now c.args.pages c.args.batches can
    c.write_at.new.self c.sync.new.self wrote (c.sync.ensures.same told) (c.sync.ensures.crash told)
    (c.sync.ensures.time told) in
    λ left now. log_is_read (with_next g.known.0 g.known.1) left
    (next_is_log g.D.LogDisk.written g.D.LogDisk.may_leave g.D.LogDisk.moment g.D.LogDisk.left_since
    c.args.disk.now c.args.self.now g.known.0 g.known.1 c.args.bytes.now c.args.pages c.args.batches can
    c.requires.1.1.places) (synced_left g.D.LogDisk.written g.D.LogDisk.may_leave g.D.LogDisk.moment
    g.D.LogDisk.left_since c.args.disk.now c.args.self.now g.known.0 g.known.1 c.args.bytes.now c.args.pages
    c.args.batches can c.write_at.new.self c.sync.new.self left run holds now
    (λ j lt. c.in_ok-sync.ensures.durable told left now (4096 * c.args.self.now.page + j)
    (c.in_ok-write_at.ensures.fresh t j lt)))

pub returns-clause-room_stays : goal.returns-clause-room_stays
returns-clause-room_stays g c = λ premise long.
    let t = (c.requires.1.0 premise).0 in
    let told = c.write_at.ensures.tells t in
    room_stays g.D.LogDisk.written g.D.LogDisk.may_leave g.D.LogDisk.moment g.D.LogDisk.left_since c.args.disk.now
    c.args.self.now g.known.0 g.known.1 c.args.bytes.now c.args.pages c.args.batches
    (c.requires.1.0 premise).1 c.write_at.new.self c.sync.new.self _ _ refl c.saturating_sub-self.ensures long (c.in_ok-write_at.ensures.written t)
    (c.sync.ensures.same told) (c.in_ok-sync.ensures.long told)
