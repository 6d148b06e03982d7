use Rattle.std.proofs.Common.{◌≡◌, ◌∙◌, rules}
use Rattle.log_disk.specs.Disk.{IsCut}
use Rattle.log_disk.proofs.MemoryLemmas.{follows_cut, elapses_to}
use Rattle.log_disk.proofs.Steps.{cut_may}
use Rattle.log_disk.proofs.content.Content.cut.Goals as goal

pub returns-clause-crash : goal.returns-clause-crash
returns-clause-crash c =
    let old = c.args.self.now in
    let new = c.in_ok-written.written in
    let is : IsCut c.args.len old.written.items new.items = search rules in
    follows_cut old.durable.items old.written.items new.items c.args.len
    (cut_may c.args.len old.written.items new.items is)

pub returns-clause-time : goal.returns-clause-time
returns-clause-time c =
    let old = c.args.self.now in
    let new = c.in_ok-written.written in
    let kept = c.in_ok-keep.ensures.ok in
    elapses_to old.past.items c.keep.new.past.items old.durable.items old.written.items old.durable.items new.items
    (kept.0, kept.1 ∙ c.deref-3.ensures.value, kept.2 ∙ c.deref-4.ensures.value, kept.3)
