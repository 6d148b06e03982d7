use Rattle.std.proofs.Common.{ap, arith}
use Rattle.std.proofs.lemmas.List.{length-map}
use Rattle.std.specs.Arc.{arc_value}
use Rattle.layer_compaction.specs.Due.{DueRuns}
use Rattle.layer_compaction.specs.Shared.{values}
use Rattle.layer_compaction.proofs.CountedLemmas.{counts_none}
use Rattle.layer_compaction.proofs.DueLemmas.{counted_before, counted_within, counted_first}
use Rattle.layer_compaction.proofs.due.Due.known_after.Goals as goal

pub returns-then-counted-self : goal.returns-then-counted-self
returns-then-counted-self c =
    counted_before c.args.self.now (values c.args.runs.now)
    (omega (arith, c.requires.within, length-map c.args.runs.now arc_value)) c.args.sum.now c.requires.sum
    c.args.counted c.args.places
    (omega (arith, c.if-counted-self.true, ap (λ (d : DueRuns). d.from) c.self.view_is)) c.requires.counts

pub returns-then-self-counted : goal.returns-then-self-counted
returns-then-self-counted c =
    let from = ap (λ (d : DueRuns). d.from) c.self.view_is in
    let count = ap (λ (d : DueRuns). d.count) c.self.view_is in
    counted_within c.args.self.now (values c.args.runs.now)
    (omega (arith, c.requires.within, length-map c.args.runs.now arc_value)) c.args.sum.now c.requires.sum
    c.args.counted c.args.places _
    (omega (arith, c.if-self-counted.true, from, count)) (omega (arith, c.if-self-counted.true, count))
    c.requires.counts

pub returns-then-self-eq0 : goal.returns-then-self-eq0
returns-then-self-eq0 c =
    counted_first c.args.self.now (values c.args.runs.now)
    (omega (arith, c.requires.within, length-map c.args.runs.now arc_value)) c.args.sum.now c.requires.sum
    c.entries.result (omega (arith, c.if-self-eq0.true, ap (λ (d : DueRuns). d.from) c.self.view_is))
    c.entries.ensures

pub returns : goal.returns
returns c = counts_none _
