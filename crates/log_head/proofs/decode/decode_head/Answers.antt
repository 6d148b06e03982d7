use Rattle.log_head.proofs.HeadLaws.{is_that_head, is_that_fault}
use Rattle.log_head.proofs.decode.decode_head.Goals as goal

pub returns-clause-exact : goal.returns-clause-exact
returns-clause-exact c = is_that_head c.args.page.now c.read_page.result c.read_page.ensures.ok c.read_page.ensures.err

pub returns-clause-exact_err : goal.returns-clause-exact_err
returns-clause-exact_err c = is_that_fault c.args.page.now c.read_page.result c.read_page.ensures.ok
    c.read_page.ensures.err
