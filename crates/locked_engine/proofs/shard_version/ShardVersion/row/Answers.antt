use Rattle.locked_engine.proofs.ShownLaws.{shown_row}
use Rattle.locked_engine.proofs.shard_version.ShardVersion.row.Goals as goal

pub returns : goal.returns
returns g c =
    shown_row g.N.Named.setup g.N.Named.opened c.self.inside.number _ c.self.inside.sight c.self.view_is
    c.self.invariant c.args.row
    c.row_total.result c.row_total.ensures.entries c.row_total.ensures.total
