use Rattle.std.proofs.Common.{◌≡◌, ◌*◌, ◌+◌, ◌-◌, length, arith, rules, subst}
use Rattle.std.proofs.lemmas.Result.{on_ok_weaker}
use Rattle.log_file.proofs.Again.{some_written, read_same, read_crash, read_time, again_same, again_longer}
use Rattle.log_file.proofs.Again.{again_crash, again_time}
use Rattle.log_file.proofs.settle.write_page_again.Goals as goal

pub returns-in_err-read_at-clause-same : goal.returns-in_err-read_at-clause-same
returns-in_err-read_at-clause-same g c = λ t.
    read_same g.D.LogDisk.written g.D.LogDisk.may_leave g.D.LogDisk.moment g.D.LogDisk.left_since c.args.disk.now
    c.read_at.new.self (c.read_at.ensures.same t) (c.read_at.ensures.crash t) (c.read_at.ensures.time t)

pub returns-in_err-read_at-clause-crash : goal.returns-in_err-read_at-clause-crash
returns-in_err-read_at-clause-crash g c = λ t.
    read_crash g.D.LogDisk.written g.D.LogDisk.may_leave g.D.LogDisk.moment g.D.LogDisk.left_since c.args.disk.now
    c.read_at.new.self (c.read_at.ensures.same t) (c.read_at.ensures.crash t) (c.read_at.ensures.time t)

pub returns-in_err-read_at-clause-time : goal.returns-in_err-read_at-clause-time
returns-in_err-read_at-clause-time g c = λ t.
    read_time g.D.LogDisk.written g.D.LogDisk.may_leave g.D.LogDisk.moment g.D.LogDisk.left_since c.args.disk.now
    c.read_at.new.self (c.read_at.ensures.same t) (c.read_at.ensures.crash t) (c.read_at.ensures.time t)

pub returns-clause-same : goal.returns-clause-same
returns-clause-same g c = λ t.
    let told = c.read_at.ensures.tells t in
    again_same g.D.LogDisk.written g.D.LogDisk.may_leave g.D.LogDisk.moment g.D.LogDisk.left_since c.args.disk.now
    c.read_at.new.self (c.read_at.ensures.same t) (c.read_at.ensures.crash t) (c.read_at.ensures.time t)
    c.write_at.new.self (4096 * c.args.page) c.read_at.new.buf (c.in_ok-read_at.ensures.read t)
    (some_written c.write_at.result (4096 * c.args.page) c.read_at.new.buf
    (g.D.LogDisk.written c.read_at.new.self) (g.D.LogDisk.written c.write_at.new.self)
    (c.write_at.ensures.written told) (c.write_at.ensures.part told))

pub returns-clause-longer : goal.returns-clause-longer
returns-clause-longer g c = λ t.
    let told = c.read_at.ensures.tells t in
    again_longer g.D.LogDisk.written g.D.LogDisk.may_leave g.D.LogDisk.moment g.D.LogDisk.left_since c.args.disk.now
    c.read_at.new.self (c.read_at.ensures.same t) (c.read_at.ensures.crash t) (c.read_at.ensures.time t)
    c.write_at.new.self (4096 * c.args.page) c.read_at.new.buf (c.in_ok-read_at.ensures.read t)
    (some_written c.write_at.result (4096 * c.args.page) c.read_at.new.buf
    (g.D.LogDisk.written c.read_at.new.self) (g.D.LogDisk.written c.write_at.new.self)
    (c.write_at.ensures.written told) (c.write_at.ensures.part told))

pub returns-clause-crash : goal.returns-clause-crash
returns-clause-crash g c = λ t.
    let told = c.read_at.ensures.tells t in
    again_crash g.D.LogDisk.written g.D.LogDisk.may_leave g.D.LogDisk.moment g.D.LogDisk.left_since c.args.disk.now
    c.read_at.new.self (c.read_at.ensures.same t) (c.read_at.ensures.crash t) (c.read_at.ensures.time t)
    c.write_at.new.self (4096 * c.args.page) c.read_at.new.buf (c.in_ok-read_at.ensures.read t)
    (c.write_at.ensures.crash told)

pub returns-clause-time : goal.returns-clause-time
returns-clause-time g c = λ t.
    let told = c.read_at.ensures.tells t in
    again_time g.D.LogDisk.written g.D.LogDisk.may_leave g.D.LogDisk.moment g.D.LogDisk.left_since c.args.disk.now
    c.read_at.new.self (c.read_at.ensures.same t) (c.read_at.ensures.crash t) (c.read_at.ensures.time t)
    c.write_at.new.self (4096 * c.args.page) c.read_at.new.buf (c.in_ok-read_at.ensures.read t)
    (c.write_at.ensures.time told)

pub returns-clause-fresh : goal.returns-clause-fresh
returns-clause-fresh g c = λ t.
    let told = c.read_at.ensures.tells t in
    let long : length c.read_at.new.buf ≡ 4096 = search rules in
    on_ok_weaker c.write_at.result (λ h i low high. let split : 4096 * c.args.page + (i - 4096 * c.args.page) ≡ i =
    omega arith in subst (λ k. g.D.LogDisk.is_fresh c.write_at.new.self k) split
    (h (i - 4096 * c.args.page) (omega (arith, long)))) (c.write_at.ensures.fresh told)

pub returns-clause-still : goal.returns-clause-still
returns-clause-still g c = λ t.
    let told = c.read_at.ensures.tells t in
    on_ok_weaker c.write_at.result (λ h i was. h i (c.read_at.ensures.still t i was)) (c.write_at.ensures.still told)
