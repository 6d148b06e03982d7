use Rattle.log_head.proofs.TellLemmas.{page_read}
use Rattle.log_head.proofs.decode.read_page.Goals as goal

pub returns-clause-ok : goal.returns-clause-ok
returns-clause-ok c =
    page_read c.args.page.now c.in_ok-head.head c.judge_front.ensures.bytes c.judge_front.ensures.long
    c.in_ok-judge_front.ensures.ok
    c.in_ok-head.ensures.ok.0 c.in_ok-head.ensures.ok.1 c.in_ok-judge_behind.ensures.ok.0
    c.in_ok-judge_behind.ensures.ok.1
