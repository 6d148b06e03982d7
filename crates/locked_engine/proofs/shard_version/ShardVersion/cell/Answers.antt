use Rattle.locked_engine.proofs.ShownLaws.{shown_cell}
use Rattle.locked_engine.proofs.shard_version.ShardVersion.cell.Goals as goal

pub returns : goal.returns
returns g c =
    shown_cell g.N.Named.setup g.N.Named.opened c.self.inside.number _ c.self.inside.sight c.self.view_is
    c.self.invariant c.args.row
    c.args.col c.get.result c.get.ensures
