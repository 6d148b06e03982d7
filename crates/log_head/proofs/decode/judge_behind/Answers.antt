use Rattle.log_head.proofs.Spelled.{few_cuts}
use Rattle.log_head.proofs.decode.judge_behind.Goals as goal

pub has_blank_filler-requires : goal.has_blank_filler-requires
has_blank_filler-requires c = few_cuts c.args.page.now c.requires.1.0
