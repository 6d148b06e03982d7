use Rattle.std.proofs.Common.{◌≡◌, ◌∙◌, ap}
use Rattle.std.specs.FinMap.{len}
use Rattle.hyper_matrix.specs.Counts.{total}
use Rattle.plain_engine.specs.Object.{row_sum_of}
use Rattle.plain_engine.proofs.LookLaws.{row_of-shard}
use Rattle.plain_engine.proofs.engine.PlainEngine.row.Goals as goal

pub returns : goal.returns
returns c =
    let e = c.args.self.now in
    let same = row_of-shard e.setup e.book.state c.shard_of.result.now c.args.row c.shard_of.ensures in
    let wanted = row_sum_of e.book.state c.args.row in
    let entries : c.row_total.result.entries ≡ wanted.entries = c.row_total.ensures.entries ∙ ap len same in
    let sum : c.row_total.result.total ≡ wanted.total = c.row_total.ensures.total ∙ ap total same in
    λ i. record { entries = entries i; total = sum i }
