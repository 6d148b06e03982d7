use Rattle.std.proofs.Common.{◌≡◌, ◌∙◌, length, rules}
use Rattle.log_disk.specs.Memory.{Between, IsSized}
use Rattle.log_disk.proofs.MemoryLemmas.{sync_some_left, elapses_to}
use Rattle.log_disk.proofs.content.Content.sync_some.Goals as goal

pub returns-clause-crash : goal.returns-clause-crash
returns-clause-crash c =
    let old = c.args.self.now in
    let all = c.in_ok-all.all in
    let new = c.in_ok-durable.durable in
    let size : IsSized (length old.written.items) old.pending.items all.items = search rules in
    let between : Between old.durable.items all.items new.items = search rules in
    λ pends left now. sync_some_left old.durable.items old.written.items old.pending.items all.items new.items left
    pends size between now

pub returns-clause-time : goal.returns-clause-time
returns-clause-time c =
    let old = c.args.self.now in
    let new = c.in_ok-durable.durable in
    let kept = c.in_ok-keep.ensures.ok in
    elapses_to old.past.items c.keep.new.past.items old.durable.items old.written.items new.items old.written.items
    (kept.0, kept.1 ∙ c.deref-4.ensures.value, kept.2 ∙ c.deref-5.ensures.value, kept.3)
