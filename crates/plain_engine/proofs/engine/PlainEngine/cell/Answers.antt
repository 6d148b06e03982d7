use Rattle.std.proofs.Common.{◌∙◌}
use Rattle.plain_engine.proofs.LookLaws.{get-shard}
use Rattle.plain_engine.proofs.engine.PlainEngine.cell.Goals as goal

pub returns : goal.returns
returns c =
    let e = c.args.self.now in
    c.get.ensures ∙ get-shard e.setup e.book.state c.shard_of.result.now c.args.row c.args.col c.shard_of.ensures
