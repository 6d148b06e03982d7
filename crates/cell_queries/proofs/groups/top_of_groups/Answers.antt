use Rattle.std.proofs.Common.{[]}
use Rattle.cell_queries.proofs.groups.top_of_groups.Goals as goal

pub returns : goal.returns
returns g c = c.into_rows.ensures c.args.by c.args.most _
    (c.in_ok-offer_groups.ensures c.args.by c.args.most [] c.new-leaders.ensures)
