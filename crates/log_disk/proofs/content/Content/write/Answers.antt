use Rattle.std.proofs.Common.{◌≡◌, ◌∙◌, rules}
use Rattle.log_disk.specs.Disk.{Holds}
use Rattle.log_disk.proofs.MemoryLemmas.{follows_some, elapses_to, write_pends, write_still}
use Rattle.log_disk.proofs.Steps.{holds_some}
use Rattle.log_disk.proofs.content.Content.write.Goals as goal

pub returns-clause-part : goal.returns-clause-part
returns-clause-part c =
    let old = c.args.self.now in
    let new = c.in_ok-written.written in
    let is : Holds c.args.at c.args.bytes.now old.written.items new.items = search rules in
    holds_some c.args.at c.args.bytes.now old.written.items new.items is

pub returns-clause-pending : goal.returns-clause-pending
returns-clause-pending c =
    let old = c.args.self.now in
    let new = c.in_ok-written.written in
    let next = c.in_ok-pending.pending in
    let is : Holds c.args.at c.args.bytes.now old.written.items new.items = search rules in
    let pends : Holds c.args.at c.args.bytes.now old.pending.items next.items = search rules in
    λ was. write_pends c.args.at c.args.bytes.now old.durable.items old.written.items new.items old.pending.items
    next.items is pends was

pub returns-clause-still : goal.returns-clause-still
returns-clause-still c =
    let old = c.args.self.now in
    let new = c.in_ok-written.written in
    let next = c.in_ok-pending.pending in
    let is : Holds c.args.at c.args.bytes.now old.written.items new.items = search rules in
    let pends : Holds c.args.at c.args.bytes.now old.pending.items next.items = search rules in
    λ i was. write_still c.args.at c.args.bytes.now old.written.items new.items old.pending.items next.items is pends
    i was

pub returns-clause-crash : goal.returns-clause-crash
returns-clause-crash c =
    let old = c.args.self.now in
    let new = c.in_ok-written.written in
    let is : Holds c.args.at c.args.bytes.now old.written.items new.items = search rules in
    follows_some old.durable.items old.written.items new.items c.args.bytes.now c.args.at
    (holds_some c.args.at c.args.bytes.now old.written.items new.items is)

pub returns-clause-time : goal.returns-clause-time
returns-clause-time c =
    let old = c.args.self.now in
    let new = c.in_ok-written.written in
    let kept = c.in_ok-keep.ensures.ok in
    elapses_to old.past.items c.keep.new.past.items old.durable.items old.written.items old.durable.items new.items
    (kept.0, kept.1 ∙ c.deref-3.ensures.value, kept.2 ∙ c.deref-4.ensures.value, kept.3)
