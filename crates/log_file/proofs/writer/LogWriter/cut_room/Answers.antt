use Rattle.std.proofs.Common.{◌≡◌, ◌≤◌, ℕ, List, length}
use Rattle.std.specs.Prelude.{Result, Ok, Err, OnOk}
use Rattle.log_disk.specs.Disk.{IsCut}
use Rattle.log_file.proofs.Filling.{cut_either, cut_settled, cut_moments, long_cut}
use Rattle.log_file.proofs.writer.LogWriter.cut_room.Goals as goal

pub returns-clause-settled : goal.returns-clause-settled
returns-clause-settled g c = λ premise. let told = c.requires.1.0 premise in
    cut_settled g.D.LogDisk.written g.D.LogDisk.may_leave g.D.LogDisk.moment g.D.LogDisk.left_since c.args.disk.now
    g.log c.args.self.now told.1 c.cut.new.self (g.met.D.LogDisk.only_now c.args.disk.now)
    (cut_either _ _ _ c.cut.result (c.cut.ensures.cut told.0) (c.cut.ensures.part told.0)) (c.cut.ensures.crash told.0)
    (c.cut.ensures.time told.0)

pub returns-clause-any_moment : goal.returns-clause-any_moment
returns-clause-any_moment g c = λ premise. let told = c.requires.1.0 premise in
    cut_moments g.D.LogDisk.written g.D.LogDisk.may_leave g.D.LogDisk.moment g.D.LogDisk.left_since c.args.disk.now
    g.log c.args.self.now told.1 c.cut.new.self (g.met.D.LogDisk.only_now c.args.disk.now)
    (cut_either _ _ _ c.cut.result (c.cut.ensures.cut told.0) (c.cut.ensures.part told.0)) (c.cut.ensures.crash told.0)
    (c.cut.ensures.time told.0)

short : {A E : Type 0} (answer : Result A E) (len : ℕ) (x y : List ℕ) → OnOk answer (IsCut len x y)
    → OnOk answer (length y ≤ len)
short (Ok a) len x y cut = cut.ends
short (Err e) len x y cut = tt

pub returns-clause-cut : goal.returns-clause-cut
returns-clause-cut g c = λ t. short c.cut.result _ _ _ (c.cut.ensures.cut t)

pub returns-clause-room_stays : goal.returns-clause-room_stays
returns-clause-room_stays g c = λ t long.
    long_cut g.D.LogDisk.written g.D.LogDisk.may_leave c.args.disk.now c.cut.new.self _ long
    (cut_either _ _ _ c.cut.result (c.cut.ensures.cut t) (c.cut.ensures.part t)) (c.cut.ensures.crash t)
