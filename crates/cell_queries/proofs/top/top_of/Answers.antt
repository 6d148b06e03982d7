use Rattle.std.proofs.Common.{[]}
use Rattle.cell_queries.proofs.top.top_of.Goals as goal

pub returns : goal.returns
returns g c = c.into_rows.ensures c.args.by c.args.most _
    (c.in_ok-offer_all.ensures c.args.by c.args.most [] c.new-leaders.ensures)
