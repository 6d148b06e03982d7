use Rattle.std.proofs.Common.{◌≡◌, ◌∙◌, length, rules}
use Rattle.log_disk.specs.Memory.{IsSized}
use Rattle.log_disk.proofs.MemoryLemmas.{sync_left, sync_brings, sync_long, elapses_to}
use Rattle.log_disk.proofs.content.Content.sync.Goals as goal

pub returns-clause-durable : goal.returns-clause-durable
returns-clause-durable c =
    let old = c.args.self.now in
    let new = c.in_ok-durable.durable in
    let size : IsSized (length old.written.items) old.pending.items new.items = search rules in
    λ left now i fresh. sync_brings old.written.items old.pending.items new.items left size now i fresh

pub returns-clause-crash : goal.returns-clause-crash
returns-clause-crash c =
    let old = c.args.self.now in
    let new = c.in_ok-durable.durable in
    let size : IsSized (length old.written.items) old.pending.items new.items = search rules in
    λ pends left now. sync_left old.durable.items old.written.items old.pending.items new.items left pends size now

pub returns-clause-time : goal.returns-clause-time
returns-clause-time c =
    let old = c.args.self.now in
    let new = c.in_ok-durable.durable in
    let kept = c.in_ok-keep.ensures.ok in
    elapses_to old.past.items c.keep.new.past.items old.durable.items old.written.items new.items old.written.items
    (kept.0, kept.1 ∙ c.deref-3.ensures.value, kept.2 ∙ c.deref-4.ensures.value, kept.3)

pub returns-clause-long : goal.returns-clause-long
returns-clause-long c =
    let old = c.args.self.now in
    let new = c.in_ok-durable.durable in
    let size : IsSized (length old.written.items) old.pending.items new.items = search rules in
    λ left now. sync_long old.written.items old.pending.items new.items left size now
