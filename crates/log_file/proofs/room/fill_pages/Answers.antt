use Rattle.std.proofs.Common.{◌*◌, ◌+◌, ◌∙◌, refl, arith}
use Rattle.log_disk.proofs.Steps.{holds_some}
use Rattle.log_file.proofs.Filling.{fill_start, fill_more, fill_all, long_written}
use Rattle.log_file.proofs.room.fill_pages.Goals as goal

pub returns-in_err-fill-clause-stays : goal.returns-in_err-fill-clause-stays
returns-in_err-fill-clause-stays g c = λ premise.
    let told = c.loop-i.invariant.tells (c.requires.1.0 premise).0 in
    fill_more g.D.LogDisk.written g.D.LogDisk.may_leave g.D.LogDisk.moment g.D.LogDisk.left_since c.args.disk.now
    g.log (4096 * c.args.from) (4096 * (c.args.from + 16 * c.loop-i.i)) c.zeros_of-zeros.result.now c.loop-i.disk
    c.fill.new.self (c.requires.1.0 premise).1 (omega arith) c.zeros_of-zeros.ensures.zeros (c.loop-i.invariant.stays premise)
    (c.in_err-fill.ensures.part told) (c.fill.ensures.crash told) (c.fill.ensures.time told)

pub returns-in_err-fill-clause-no_shorter : goal.returns-in_err-fill-clause-no_shorter
returns-in_err-fill-clause-no_shorter g c = λ t n long.
    let told = c.loop-i.invariant.tells t in
    long_written g.D.LogDisk.written g.D.LogDisk.may_leave c.loop-i.disk c.fill.new.self n
    (c.loop-i.invariant.no_shorter t n long) (4096 * (c.args.from + 16 * c.loop-i.i)) c.zeros_of-zeros.result.now
    (c.in_err-fill.ensures.part told) (c.fill.ensures.crash told)

pub loop-i-init : goal.loop-i-init
loop-i-init g c = record {
  stays = λ premise. fill_start g.D.LogDisk.written g.D.LogDisk.may_leave g.D.LogDisk.moment g.D.LogDisk.left_since
      c.args.disk.now g.log (4096 * c.args.from) (c.requires.1.0 premise).1 (g.met.D.LogDisk.only_now c.args.disk.now);
  long = λ t some. absurd (omega (arith, some));
  no_shorter = λ t n long. long;
  tells = λ t. t;
  sound = c.requires.1.1.0;
  count = refl;
}

pub loop-i-preserved : goal.loop-i-preserved
loop-i-preserved g c = record {
  stays = λ premise.
      let told = c.loop-i.invariant.tells (c.requires.1.0 premise).0 in
      fill_all g.D.LogDisk.written g.D.LogDisk.may_leave g.D.LogDisk.moment g.D.LogDisk.left_since c.args.disk.now
      g.log (4096 * c.args.from) (4096 * (c.args.from + 16 * c.loop-i.i)) c.zeros_of-zeros.result.now
      c.loop-i.disk c.fill.new.self (c.requires.1.0 premise).1 (omega arith) c.zeros_of-zeros.ensures.zeros
      (c.loop-i.invariant.stays premise) (c.in_ok-fill.ensures.written told) (c.fill.ensures.crash told)
      (c.fill.ensures.time told);
  long = λ t some.
      let holds = c.in_ok-fill.ensures.written (c.loop-i.invariant.tells t) in
      omega (arith, holds.ends, c.zeros_of-zeros.ensures.long);
  no_shorter = λ t n long.
      let told = c.loop-i.invariant.tells t in
      long_written g.D.LogDisk.written g.D.LogDisk.may_leave c.loop-i.disk c.fill.new.self n
      (c.loop-i.invariant.no_shorter t n long) (4096 * (c.args.from + 16 * c.loop-i.i)) c.zeros_of-zeros.result.now
      (holds_some _ _ _ _ (c.in_ok-fill.ensures.written told)) (c.fill.ensures.crash told);
  tells = λ t. c.fill.ensures.tells (c.loop-i.invariant.tells t);
  sound = c.fill.ensures.sound;
  count = c.in_ok-fill.ensures.ok ∙ c.loop-i.invariant.count;
}
