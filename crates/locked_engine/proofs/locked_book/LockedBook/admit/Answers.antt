use Rattle.std.specs.Arc.{arc_value}
use Rattle.locked_engine.proofs.ToldLaws.{admitted_told, admitted_later}
use Rattle.locked_engine.proofs.locked_book.LockedBook.admit.Goals as goal

-- an accepted batch stands last in what the seat was shown
pub returns-clause-ok : goal.returns-clause-ok
returns-clause-ok g c =
    let told = c.admit_fresh.ensures in
    admitted_told (λ r. r.kept) g.N.Named.setup c.args.self.now.state c.admit_fresh.new.self.state c.admit_fresh.new.seen
    (arc_value c.args.b) c.admit_fresh.result told.seen told.state told.kept

-- the book's entries were shown, and the new one behind them
pub returns-clause-later : goal.returns-clause-later
returns-clause-later g c =
    let judged = c.in_ok-judge.ensures in
    let told = c.admit_fresh.ensures in
    admitted_later c.admit_fresh.result c.args.seen.now c.judge.new.seen c.admit_fresh.new.seen c.args.self.now.state
    c.admit_fresh.new.self.state (arc_value c.args.b) judged.later judged.shown told.seen told.state told.seen_kept
