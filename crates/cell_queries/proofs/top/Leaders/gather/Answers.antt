use Rattle.cell_queries.proofs.GroupLaws.{gathers_more, gathers_next}
use Rattle.cell_queries.proofs.top.Leaders.gather.Goals as goal

pub returns-in-Some-with : goal.returns-in-Some-with
returns-in-Some-with c =
    gathers_more c.args.self.now c.args.current c.in-Some.group c.in-Some-with.group c.args.cell c.in-Some.is
    c.if-group-cell.true c.in-Some-with.ensures

pub returns : goal.returns
returns c =
    gathers_next c.args.self.now c.offer.new.self c.args.current c.in-Some.group c.of-2.result c.args.cell c.in-Some.is
    c.if-group-cell.false c.in_ok-offer.ensures c.of-2.ensures
