use Rattle.std.proofs.Common.{ap, arith}
use Rattle.log_read.specs.Logs.{pages_in}
use Rattle.snap_salvage.proofs.PageLemmas.{read_pages}
use Rattle.snap_salvage.proofs.joining.join_pages.Goals as goal

pub pages_of-requires : goal.pages_of-requires
pages_of-requires c = omega (arith, ap pages_in c.deref.ensures.value, read_pages c.args.logged.now c.requires)

pub overflow_add-result : goal.overflow_add-result
overflow_add-result c =
    omega (arith, ap pages_in c.deref.ensures.value, read_pages c.args.logged.now c.requires, c.pages_of.ensures)

pub returns-clause-few : goal.returns-clause-few
returns-clause-few c =
    omega (arith, ap pages_in c.deref.ensures.value, read_pages c.args.logged.now c.requires, c.pages_of.ensures)
