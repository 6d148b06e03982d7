use Rattle.std.proofs.Common.{◌≡◌, ◌∙◌, rules}
use Rattle.log_disk.specs.Disk.{Holds}
use Rattle.log_disk.specs.Memory.{Between}
use Rattle.log_disk.proofs.MemoryLemmas.{follows_some, mixed_some, elapses_to}
use Rattle.log_disk.proofs.content.Content.write_some.Goals as goal

pub returns-clause-written : goal.returns-clause-written
returns-clause-written c =
    let old = c.args.self.now in
    let all = c.in_ok-all.all in
    let new = c.in_ok-written.written in
    let is : Holds c.args.at c.args.bytes.now old.written.items all.items = search rules in
    let between : Between old.written.items all.items new.items = search rules in
    mixed_some c.args.at c.args.bytes.now old.written.items all.items new.items is between

pub returns-clause-crash : goal.returns-clause-crash
returns-clause-crash c =
    let old = c.args.self.now in
    let all = c.in_ok-all.all in
    let new = c.in_ok-written.written in
    let is : Holds c.args.at c.args.bytes.now old.written.items all.items = search rules in
    let between : Between old.written.items all.items new.items = search rules in
    follows_some old.durable.items old.written.items new.items c.args.bytes.now c.args.at
    (mixed_some c.args.at c.args.bytes.now old.written.items all.items new.items is between)

pub returns-clause-time : goal.returns-clause-time
returns-clause-time c =
    let old = c.args.self.now in
    let new = c.in_ok-written.written in
    let kept = c.in_ok-keep.ensures.ok in
    elapses_to old.past.items c.keep.new.past.items old.durable.items old.written.items old.durable.items new.items
    (kept.0, kept.1 ∙ c.deref-4.ensures.value, kept.2 ∙ c.deref-5.ensures.value, kept.3)
